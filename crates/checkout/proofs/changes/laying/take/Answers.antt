-- The manifest's file is new among those that are gone, and both counts have room.
use Rattle.std.proofs.Common.{◌≡◌, ap, sym, subst, IfSome, ◌∙◌, false}
use Rattle.std.specs.FinMap.{get}
use Rattle.checkout.specs.UnlinkedFiles.{is_gone}
use Rattle.manifest.specs.Tree.{links_from}
use Rattle.checkout.proofs.TakenLaws.{has_room, take-AreTaken}
use Rattle.checkout.proofs.changes.laying.take.Goals as goal

pub add-requires-clause-room : goal.add-requires-clause-room
add-requires-clause-room c =
    let here = sym (ap (λ n. get (links_from 2 c.args.manifest.now.lines) (c.args.change.now.dir.0, n)) c.bytes.ensures.bytes) ∙ sym c.child.ensures.child ∙ c.in-Some.is in
    (has_room c.args.manifest.now c.child.ensures.is_manifest c.args.gone.now c.args.lost.now c.requires.so_far c.args.change.now c.in-Some.file here).file_within

pub raise-requires-clause-room : goal.raise-requires-clause-room
raise-requires-clause-room c =
    let here = sym (ap (λ n. get (links_from 2 c.args.manifest.now.lines) (c.args.change.now.dir.0, n)) c.bytes.ensures.bytes) ∙ sym c.child.ensures.child ∙ c.in-Some.is in
    (has_room c.args.manifest.now c.child.ensures.is_manifest c.args.gone.now c.args.lost.now c.requires.so_far c.args.change.now c.in-Some.file here).dir_within

pub raise-requires-clause-fits : goal.raise-requires-clause-fits
raise-requires-clause-fits c =
    let here = sym (ap (λ n. get (links_from 2 c.args.manifest.now.lines) (c.args.change.now.dir.0, n)) c.bytes.ensures.bytes) ∙ sym c.child.ensures.child ∙ c.in-Some.is in
    (has_room c.args.manifest.now c.child.ensures.is_manifest c.args.gone.now c.args.lost.now c.requires.so_far c.args.change.now c.in-Some.file here).fits

pub returns-in-Some-clause-now : goal.returns-in-Some-clause-now
returns-in-Some-clause-now c =
    let here = sym (ap (λ n. get (links_from 2 c.args.manifest.now.lines) (c.args.change.now.dir.0, n)) c.bytes.ensures.bytes) ∙ sym c.child.ensures.child ∙ c.in-Some.is in
    let left = subst (λ o. IfSome o (λ file. is_gone c.args.gone.now file.0 ≡ false)) here c.requires.left in
    take-AreTaken c.args.manifest.now c.child.ensures.is_manifest c.args.gone.now c.args.lost.now c.requires.so_far c.args.change.now c.in-Some.file here left c.add.new.self c.raise.new.self c.add.ensures.files c.add.ensures.room c.raise.ensures.counts c.raise.ensures.room
