-- one slot more, with an entry or empty
use Rattle.std.proofs.Common.{◌+◌, List, [], ◌∷◌, ◌++◌, sym, ap, ◌∙◌, append_assoc, drop}
use Rattle.checkout.proofs.ChangeLists.{all-append}
use Rattle.entry_table.specs.EntryPlaces.{IsNamedEntry}
use Rattle.entry_table.specs.Slots.{kept_from}
use Rattle.entry_table.specs.declared.kept.Kept.{Kept}
use Rattle.entry_table.proofs.SlotLemmas.{next-empty, next-kept}
use Rattle.entry_table.proofs.table.entries_of.Goals as goal

pub loop-number-preserved : goal.loop-number-preserved
loop-number-preserved c =
    let was = c.loop-number.invariant in
    let entries = c.loop-number.entries.items in
    let kept = c.in_ok-kept.kept in
    let rest = kept_from (drop (c.loop-number.number-index + 1) c.args.slots.now) in
    let next = next-kept c.args.slots.now c.loop-number.number-index c.loop-number-item.result c.loop-number-test.true c.loop-number-item.is c.in-Some.entry c.in-Some.is in (
      ap (λ (xs : List Kept). xs ++ rest) c.in_ok-push.ensures.items ∙ append_assoc entries (kept ∷ []) rest
          ∙ ap (λ (xs : List Kept). entries ++ xs) (ap (λ (k : Kept). k ∷ rest) c.in_ok-kept.ensures.entry ∙ sym next) ∙ was.0,
      rw c.in_ok-push.ensures.items (all-append IsNamedEntry entries (kept ∷ []) was.1 (c.in_ok-kept.ensures.named, tt)),
    )

pub loop-number-preserved-in_default : goal.loop-number-preserved-in_default
loop-number-preserved-in_default c =
    let was = c.loop-number.invariant in
    let next = next-empty c.args.slots.now c.loop-number.number-index c.loop-number-item.result c.loop-number-test.true c.loop-number-item.is c.in_default.is in (
      ap (λ (xs : List Kept). c.loop-number.entries.items ++ xs) (sym next) ∙ was.0,
      was.1,
    )
