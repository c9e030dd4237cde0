-- The manifest's links, by an index.
use Rattle.std.proofs.Common.{sym, ap, ◌∙◌}
use Rattle.checkout.specs.BadChanges.{gives_same}
use Rattle.checkout.specs.Changes.{place_of}
use Rattle.checkout.proofs.ChangedLinks.{lines_links-get}
use Rattle.checkout.proofs.changes.bad_itself.is_no_change.Goals as goal

pub returns : goal.returns
returns c =
    let change = c.args.change.now in
    c.is_there.ensures ∙ sym (ap (gives_same change.target) (lines_links-get 2 c.args.manifest.now.lines (place_of change)))
