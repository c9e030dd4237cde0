-- The writes of a reply, one by one.
use Rattle.std.proofs.Common.{◌≡◌, ℕ, suc, ◌+◌, ◌-◌, ◌<◌, List, Option, Some, None, inl, inr, refl, subst, sym, ◌∙◌, arith}
use Rattle.broker_process.specs.Device.{Gives}
use Rattle.broker_process.specs.Writing.{next_text, written_by, WritesFrom}
use Rattle.broker_process.specs.declared.device.Given.{Given}
use Rattle.broker_process.specs.declared.reply_write.Written.{Written}
use Rattle.broker_process.specs.declared.reply_write.Written.TheVariants.{Refused}

-- one write more, in front
pub write_before : (i : ℕ) (reply error text : List ℕ) (given : Given) (result : Written) (old mid new : Option (List ℕ)) → i < 6 → text ≡ next_text reply error i →
    Gives text given old mid → written_by given i ≡ None → WritesFrom (6 - (i + 1)) (i + 1) reply error result mid new → WritesFrom (6 - i) i reply error result old new
write_before i reply error text given result old mid new below is gives on rest =
    let left : suc (5 - i) ≡ 6 - i = omega (arith, below) in
    let fewer : 6 - (i + 1) ≡ 5 - i = omega arith in
    subst (λ (n : ℕ). WritesFrom n i reply error result old new) left
    (given, mid, subst (λ (t : List ℕ). Gives t given old mid) is gives, inr (on, subst (λ (n : ℕ). WritesFrom n (i + 1) reply error result mid new) fewer rest))

-- the last write
pub write_last : (i : ℕ) (reply error text : List ℕ) (given : Given) (result : Written) (old mid : Option (List ℕ)) → i < 6 → text ≡ next_text reply error i →
    Gives text given old mid → written_by given i ≡ Some result → WritesFrom (6 - i) i reply error result old mid
write_last i reply error text given result old mid below is gives ends =
    let left : suc (5 - i) ≡ 6 - i = omega (arith, below) in
    subst (λ (n : ℕ). WritesFrom n i reply error result old mid) left
    (given, mid, subst (λ (t : List ℕ). Gives t given old mid) is gives, inl (ends, refl))

-- no write is left
pub none_left : (i : ℕ) (reply error : List ℕ) (old : Option (List ℕ)) → i ≡ 6 → WritesFrom (6 - i) i reply error Refused old old
none_left i reply error old is =
    let none : 0 ≡ 6 - i = omega (arith, is) in
    subst (λ (n : ℕ). WritesFrom n i reply error Refused old old) none (refl, refl)
