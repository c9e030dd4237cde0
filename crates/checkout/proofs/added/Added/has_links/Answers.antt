-- A directory has links where the index has names.
use Rattle.std.proofs.Common.{◌==◌, ℕ, List, ap, ◌∙◌}
use Rattle.std.specs.FinMap.{entries}
use Rattle.std.specs.List.{list_any}
use Rattle.eden_base.specs.declared.number.FileId.{FileId}
use Rattle.checkout.specs.Added.{links_of, standing_of}
use Rattle.checkout.proofs.AddedLinks.{any-link}
use Rattle.checkout.proofs.added.Added.has_links.Goals as goal

pub returns : goal.returns
returns c =
    let links = links_of c.self.inside.places.files.entries in
    let dir = c.args.dir.0 in
    any-link links dir c.has_names.result (c.has_names.ensures.some (standing_of links) c.self.invariant.is_index) (c.has_names.ensures.none (standing_of links) c.self.invariant.is_index)
    ∙ ap (λ m. list_any (λ (link : (ℕ × List ℕ) × FileId). link.0.0 == dir) (entries m)) c.self.view_is
