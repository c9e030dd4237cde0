-- What the search finds is what the map has.
use Rattle.std.proofs.Common.{List, ap, sym, ◌∙◌}
use Rattle.std.specs.Option.{option_map}
use Rattle.checkout.specs.declared.changes.Made.{Made}
use Rattle.checkout.specs.Laying.{file_kept}
use Rattle.checkout.proofs.ChangedFiles.{made_under}
use Rattle.checkout.proofs.LaidFiles.{get-kept}
use Rattle.checkout.proofs.made.MadeFiles.get.Goals as goal

pub returns-in_err-made : goal.returns-in_err-made
returns-in_err-made c =
    let xs = c.self.inside.files.items in
    let none = ap (λ (ys : List Made). made_under c.args.file.0 ys) (sym c.as_slice.ensures.value) ∙ sym c.made_at.ensures ∙ c.in_err-made.was in
    rw (← c.self.view_is) (c.from_residual.ensures ∙ sym (get-kept xs c.self.invariant c.args.file.0 ∙ ap (option_map file_kept) none))

pub returns : goal.returns
returns c =
    let xs = c.self.inside.files.items in
    let found = ap (λ (ys : List Made). made_under c.args.file.0 ys) (sym c.as_slice.ensures.value) ∙ sym c.made_at.ensures ∙ c.in_ok-made.was in
    rw (← c.self.view_is) (sym (get-kept xs c.self.invariant c.args.file.0 ∙ ap (option_map file_kept) found))
