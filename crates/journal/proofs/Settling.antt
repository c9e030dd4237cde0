-- What the places of receipts come to, counted one worker after another.
use Rattle.std.proofs.Common.{◌≡◌, ℕ, ◌+◌, ◌<◌, ◌≤◌, Bool, true, false, List, length, take, slice_index, slice_index_or, nat_eq, cond, refl, sym, ap, ◌∙◌, subst, arith, EachIndex, SomeIndex, IsTrue, ◌↔◌}
use Rattle.std.proofs.lemmas.Bool.Decides.{nat_tests}
use Rattle.std.proofs.lemmas.List.Elements.{AllWithin-more}
use Rattle.std.proofs.lemmas.List.{get_or_default, take_all}
use Rattle.std.proofs.lemmas.List.Sums.{sum_by_more, sum_by_more_le}
use Rattle.std.specs.List.{All, AllWithin}
use Rattle.journal.specs.Receipts.{ReceiptsState}
use Rattle.journal.specs.Settled.{IsOf, IsRising, IsSettled, times, times_in_all}
use Rattle.journal.specs.declared.journal.Record.{Record}
use Rattle.journal.specs.declared.receipt.Receipt.{Receipt}

-- a receipt counts once at its own position
own_position : (position : ℕ) → cond {A = ℕ} (nat_eq position position) 1 0 ≡ 1
own_position position = by (nat_eq position position) refl where
  by : (b : Bool) → b ≡ nat_eq position position → cond {A = ℕ} b 1 0 ≡ 1
  by true is = refl
  by false is = absurd (let none : ⊥ = grind (arith, nat_tests) in none)

-- a place that was counted and comes again is there twice
pub comes_again :
    (receipts : List Receipt) (index : ℕ) (receipt : Receipt) (old before : ℕ) → index < length receipts →
    receipt ≡ slice_index_or receipts index receipt → 0 < before →
    before ≡ old + times (take index receipts) receipt.position → 1 < old + times receipts receipt.position
comes_again receipts index receipt old before in-range is some was =
    let one : Receipt → ℕ = λ (r : Receipt). cond {A = ℕ} (nat_eq r.position receipt.position) 1 0 in
    let more : times (take index receipts) receipt.position + 1 ≤ times receipts receipt.position =
    subst (λ (n : ℕ). times (take index receipts) receipt.position + n ≤ times receipts receipt.position)
    (ap one (sym is) ∙ own_position receipt.position) (sum_by_more_le one receipts index receipt in-range) in
    omega (arith, some, was, more)

-- what holds of the first workers and of the next one holds of one worker more
pub goes_on :
    {X : Type 0} (P : X → Type 0) (xs : List X) (index : ℕ) (x : X) → index < length xs →
    x ≡ slice_index_or xs index x → P x → AllWithin P xs 0 index → AllWithin P xs 0 (index + 1)
goes_on P xs index x in-range is holds before =
    AllWithin-more P xs 0 index before (λ d. subst P (is ∙ get_or_default xs index x d in-range) holds)

-- the counts of the first workers, and those of one worker more
pub counts_more :
    (workers : List ReceiptsState) (index : ℕ) (kept : ReceiptsState) (position old new : ℕ) → index < length workers →
    kept ≡ slice_index_or workers index kept → old ≡ times_in_all (take index workers) position →
    new ≡ old + times kept.list position → new ≡ times_in_all (take (index + 1) workers) position
counts_more workers index kept position old new in-range is was more =
    let count = λ (k : ReceiptsState). times k.list position in
    more ∙ ap (λ (n : ℕ). n + times kept.list position) was
    ∙ ap (λ (k : ReceiptsState). times_in_all (take index workers) position + count k) is
    ∙ sym (sum_by_more count workers index kept in-range)

-- a round is not settled where a worker's receipts don't join those before
pub not_settled :
    (records : List Record) (workers : List ReceiptsState) (counts : List ℕ) (index : ℕ) (kept : ReceiptsState) →
    index < length workers → kept ≡ slice_index_or workers index kept → length counts ≡ length records →
    EachIndex records (λ position. slice_index counts position ≡ times_in_all (take index workers) position) →
    (All (IsOf records) kept.list → IsRising kept.list →
    SomeIndex counts (λ position. 1 < slice_index counts position + times kept.list position)) →
    IsSettled records workers → ⊥
not_settled records workers counts index kept in-range is len was twice settled =
    let found = twice (subst (λ (k : ReceiptsState). All (IsOf records) k.list) (sym is) (settled.same index kept in-range))
    (subst (λ (k : ReceiptsState). IsRising k.list) (sym is) (settled.rising index kept in-range)) in
    let position = found.0 in
    let here : position < length records = subst (λ (n : ℕ). position < n) len found.1 in
    let count = λ (k : ReceiptsState). times k.list position in
    let most : times_in_all (take index workers) position + times kept.list position ≤ times_in_all workers position =
    subst (λ (k : ReceiptsState). times_in_all (take index workers) position + count k ≤ times_in_all workers position) (sym is)
    (sum_by_more_le count workers index kept in-range) in
    omega (arith, found.2, was position here, settled.once position here, most)

-- after all workers a round is settled exactly where each position was counted once
pub settled_by :
    (records : List Record) (workers : List ReceiptsState) (counts : List ℕ) (index : ℕ) (is : Bool) →
    length workers ≤ index → length counts ≡ length records →
    All (λ (k : ReceiptsState). All (IsOf records) k.list) workers → All (λ (k : ReceiptsState). IsRising k.list) workers →
    EachIndex records (λ position. slice_index counts position ≡ times_in_all (take index workers) position) →
    (IsTrue is ↔ EachIndex counts (λ position. slice_index counts position ≡ 1)) → IsTrue is ↔ IsSettled records workers
settled_by records workers counts index is end len same rising was once = (
  (λ yes. record {
    same = same;
    rising = rising;
    once = λ position here. sym (all_of position here) ∙ once.0 yes position (subst (λ (n : ℕ). position < n) (sym len) here);
  }),
  (λ settled. once.1 (λ position here. let there = subst (λ (n : ℕ). position < n) len here in
      all_of position there ∙ settled.once position there)),
)
  where
    all_of : EachIndex records (λ position. slice_index counts position ≡ times_in_all workers position)
    all_of position here =
        was position here ∙ ap (λ (first : List ReceiptsState). times_in_all first position) (take_all index workers end)
