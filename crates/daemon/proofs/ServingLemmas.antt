-- What a daemon's calls did, by the first fault.
use Rattle.std.proofs.Common.{◌≡◌, ℕ, Bool, List, [], ◌∷◌, ◌++◌, length, Option, Some, None, get_or, refl, sym, ap, ◌∙◌, subst}
use Rattle.std.proofs.lemmas.List.{append-nil}
use Rattle.std.proofs.lemmas.Option.{slice_get_read}
use Rattle.std.specs.Prelude.{remove, map, true, false, ◌||◌, is_some, if◌then◌else◌}
use Rattle.std.specs.List.{AllByRecursion}
use Rattle.fuse_wire.specs.Request.{is_ask, item_of, items_of}
use Rattle.fuse_wire.specs.declared.request.Ask.{Ask}
use Rattle.fuse_wire.specs.declared.item.Item.{Item}
use Rattle.fuse_wire.specs.declared.reply.Answer.{Answer}
use Rattle.fuse_wire.specs.declared.request.Request.{Request}
use Rattle.fuse_ops.proofs.Asking.{asks-ask}
use Rattle.fuse_ops.specs.Served.{ServedState, Replay}
use Rattle.fuse_wire.specs.declared.reply.Reply.{Reply}
use Rattle.daemon.specs.Server.{ServerState, at_position, without_position, single, is_single, handed, told_item}
use Rattle.daemon.specs.Serving.{IsIndex, FailsSo, WorksBy, WorksOff}
use Rattle.daemon.specs.declared.happened.Happened.{Happened}
use Rattle.daemon.specs.declared.happened.Happened.TheVariants.{Made}
use Rattle.daemon.proofs.Positions.{at-index}

-- a member that was read at an index is at the index's position
pub at-read : {X : Type 0} (xs : List X) (position index : ℕ) (x : X) → IsIndex (length xs) position index → x ≡ get_or xs index x → at_position xs position ≡ Some x
at-read xs position index x at read = at-index xs position index at ∙ slice_get_read xs (length xs) index x refl at.within read

-- a list without the member at an index is without that of its position
pub without-index : {X : Type 0} (xs : List X) (count position index : ℕ) → IsIndex count position index → remove xs index ≡ without_position xs position
without-index xs count position index at = ap (λ (i : ℕ). remove xs i) at.is

-- the member of the hand at the position was worked
pub WorksBy-some : (s n : ServerState) (position : ℕ) (fails : Bool) (index : ℕ) (task : Ask) (told : Happened) → IsIndex (length s.hand) position index → task ≡ get_or s.hand index task →
    WorksOff s position fails task told n → WorksBy (at_position s.hand position) s position fails told n
WorksBy-some s n position fails index task told at read works =
    subst (λ (o : Option Ask). WorksBy o s position fails told n) (sym (at-read s.hand position index task at read)) works

-- ---- what was worked

-- a daemon's fields after a work
worked-fields : (old : ServerState) (later : ServedState) (hand now : List Ask) (unposted last : List Reply) → hand ≡ now → unposted ≡ last →
    record old { served = later; hand = hand; unposted = unposted } ≡ record old { served = later; hand = now; unposted = last }
worked-fields old later hand now unposted last e f =
    ap (λ (h : List Ask). record old { served = later; hand = h; unposted = unposted }) e ∙ ap (λ (u : List Reply). record old { served = later; hand = now; unposted = u }) f

-- a forget has no answer, and asks no backing
forget_fails : (served : ServedState) (fails : Bool) (request : Request) (answer : Option Answer) (later : ServedState) → answer ≡ None → Replay served request answer later → FailsSo fails served request None
forget_fails served fails request answer later none replay = (
  λ e. absurd (let no : ⊥ = cc in no),
  λ so. absurd (let ask : is_ask request ≡ true = asks-ask served request so.1 in let forget : is_ask request ≡ false = (subst (λ (o : Option Answer). Replay served request o later) none replay).0 in let no : ⊥ = cc in no),
)

-- a request that has no answer was worked
pub WorksOff-forgets : (old : ServerState) (count position index : ℕ) (fails : Bool) (task : Ask) (item : Option Item) (told : Happened) (answer : Option Answer) (later : ServedState) (hand : List Ask) (unposted : List Reply) →
    IsIndex count position index → answer ≡ None → Replay old.served task.what answer later → told ≡ told_item old.served item → item ≡ item_of task.what →
    hand ≡ remove old.hand index → unposted ≡ old.unposted → WorksOff old position fails task told (record old { served = later; hand = hand; unposted = unposted })
WorksOff-forgets old count position index fails task item told answer later hand unposted at none replay tells is left same = record {
  later = later;
  answer = None;
  replay = subst (λ (o : Option Answer). Replay old.served task.what o later) none replay;
  fails_so = forget_fails old.served fails task.what answer later none replay;
  tells = tells ∙ ap (told_item old.served) is;
  makes = worked-fields old later hand _ unposted _ (left ∙ without-index old.hand count position index at) (same ∙ sym (append-nil old.unposted));
}

-- a request that has an answer was worked
pub WorksOff-answers : (old : ServerState) (count position index : ℕ) (fails : Bool) (task : Ask) (answer : Answer) (given : Option Answer) (later : ServedState) (hand : List Ask) (before unposted : List Reply) →
    IsIndex count position index → given ≡ Some answer → Replay old.served task.what given later → FailsSo fails old.served task.what given →
    hand ≡ remove old.hand index → before ≡ old.unposted → unposted ≡ before ++ record { unique = task.unique; answer = answer } ∷ [] →
    WorksOff old position fails task (Made (record { unique = task.unique; answer = answer })) (record old { served = later; hand = hand; unposted = unposted })
WorksOff-answers old count position index fails task answer given later hand before unposted at is replay fails_so left same pushed = record {
  later = later;
  answer = Some answer;
  replay = subst (λ (o : Option Answer). Replay old.served task.what o later) is replay;
  fails_so = subst (FailsSo fails old.served task.what) is fails_so;
  tells = refl;
  makes = worked-fields old later hand _ unposted _ (left ∙ without-index old.hand count position index at) (pushed ∙ ap (λ (rs : List Reply). rs ++ record { unique = task.unique; answer = answer } ∷ []) same);
}

-- ---- what is in hand

-- items that each stand by themselves are single
singles : (items : List Item) → AllByRecursion (λ task. is_single task ≡ true) (map single items)
singles [] = tt
singles (item ∷ items) = (refl, singles items)

-- what a take adds to the hand is an ask or single items
handed-single : (ask : Ask) → AllByRecursion (λ task. is_single task ≡ true) (handed ask)
handed-single ask = by_kind (is_ask ask.what) refl where
  by_kind : (b : Bool) → is_ask ask.what ≡ b → AllByRecursion (λ task. is_single task ≡ true) (if b then ask ∷ [] else map single (items_of ask.what))
  by_kind true asks = (ap (λ (b : Bool). b || is_some (item_of ask.what)) asks, tt)
  by_kind false forgets = singles (items_of ask.what)

both-single : (xs ys : List Ask) → AllByRecursion (λ task. is_single task ≡ true) xs → AllByRecursion (λ task. is_single task ≡ true) ys → AllByRecursion (λ task. is_single task ≡ true) (xs ++ ys)
both-single [] ys h k = k
both-single (x ∷ xs) ys h k = (h.0, both-single xs ys h.1 k)

-- after a take the hand still has asks and single items alone
pub hand-single : (old before new : List Ask) (ask : Ask) → before ≡ old → new ≡ before ++ handed ask → AllByRecursion (λ task. is_single task ≡ true) old →
    AllByRecursion (λ task. is_single task ≡ true) new
hand-single old before new ask same put single_before =
    subst (AllByRecursion (λ task. is_single task ≡ true)) (sym (put ∙ ap (λ (xs : List Ask). xs ++ handed ask) same)) (both-single old (handed ask) single_before (handed-single ask))
