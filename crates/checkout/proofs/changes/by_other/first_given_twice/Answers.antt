-- Of the marks only those of several count.
use Rattle.std.proofs.Common.{◌&&◌, ◌||◌, not, ◌∙◌}
use Rattle.manifest.specs.declared.link_change.LinkChange.{LinkChange}
use Rattle.checkout.specs.BadChanges.{file_does}
use Rattle.checkout.specs.Overlay.{is_line}
use Rattle.checkout.specs.UnlinkedFiles.{is_gone}
use Rattle.checkout.specs.Rounds.{first_of}
use Rattle.checkout.proofs.changes.by_other.first_given_twice.Goals as goal

pub returns : goal.returns
returns c =
    let m = c.args.manifest.now in
    let gone = is_gone c.args.gone.now in
    c.first_marked.ensures
    ∙ (λ i. first_of (λ (change : LinkChange). file_does (λ file. (is_line m file && not (gone file.0)) || c.in_ok-marks.ensures.marks file.0 i) change.target) 0 c.args.links.now)
