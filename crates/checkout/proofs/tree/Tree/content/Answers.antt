-- A file of the manifest, or a made one.
use Rattle.std.proofs.Common.{ap, sym, ◌∙◌}
use Rattle.std.specs.FinMap.{get}
use Rattle.std.specs.Option.{option_map, option_or}
use Rattle.checkout.specs.Overlay.{file_made}
use Rattle.manifest.specs.Tree.{files_from}
use Rattle.checkout.proofs.UnionLaws.{get-files_over, none-made}
use Rattle.checkout.proofs.tree.Tree.content.Goals as goal

pub returns-in-Some : goal.returns-in-Some
returns-in-Some c =
    let i = c.self.inside in
    let base = files_from 2 i.manifest.lines in
    let there = sym c.content.ensures.content ∙ c.in-Some.is in
    let none = none-made i.made i.manifest.lines c.args.file.0 c.in-Some.content c.self.invariant.0.parts.made_are_later there in
    record { content = rw (← c.self.view_is) (sym (get-files_over i.made base c.args.file.0 ∙ ap (λ o. option_or (option_map file_made o) (get base c.args.file.0)) none ∙ there)) }

pub returns-in_err-made : goal.returns-in_err-made
returns-in_err-made c =
    let i = c.self.inside in
    let base = files_from 2 i.manifest.lines in
    let no_line = sym c.content.ensures.content ∙ c.in_default.is in
    let no_made = sym c.get.ensures ∙ c.in_err-made.was in
    record { content = rw (← c.self.view_is) (c.from_residual.ensures ∙ sym (get-files_over i.made base c.args.file.0 ∙ ap (λ o. option_or (option_map file_made o) (get base c.args.file.0)) no_made ∙ no_line)) }

pub returns : goal.returns
returns c =
    let i = c.self.inside in
    let base = files_from 2 i.manifest.lines in
    let there = sym c.get.ensures ∙ c.in_ok-made.was in
    record { content = rw (← c.self.view_is) (rw c.kind.ensures.kind (sym (get-files_over i.made base c.args.file.0 ∙ ap (λ o. option_or (option_map file_made o) (get base c.args.file.0)) there))) }
