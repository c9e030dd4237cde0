-- What is answered to a request that reads a file is a step of the replay.
use Rattle.std.proofs.Common.{◌≡◌, ℕ, true, false, Bool, [], Option, Some, None, Ok, refl, sym, ap, ◌∙◌, subst}
use Rattle.eden_base.specs.declared.errno.Errno.{Errno}
use Rattle.eden_base.specs.declared.errno.Errno.TheVariants.{ESTALE}
use Rattle.eden_base.specs.declared.number.FileId.{FileId}
use Rattle.eden_base.specs.declared.number.Number.{Number}
use Rattle.manifest.specs.Tree.{IsTree, file_of}
use Rattle.manifest.specs.declared.content.Content.{Content}
use Rattle.fuse_wire.specs.declared.request.Request.{Request}
use Rattle.fuse_wire.specs.declared.reply.Answer.{Answer}
use Rattle.fuse_wire.specs.declared.reply.Answer.TheVariants.{Extent}
use Rattle.fuse_wire.specs.declared.reply.Extent.{Extent as FilePart}
use Rattle.fuse_ops.specs.Answers.{Answers, deed_of, looked_at, read_file, reads_unless, reads_file, reads_from}
use Rattle.fuse_ops.specs.Extents.{Reading, extent_read, against_reading}
use Rattle.fuse_ops.specs.Served.{ServedState, plain, numbers_at, Replay}
use Rattle.fuse_ops.specs.Work.{Reads}
use Rattle.fuse_ops.proofs.ListReplay.{told-legally}
use Rattle.fuse_ops.proofs.Looking.{looks-ask}
use Rattle.fuse_ops.proofs.Replays.{Legally, replays}
use Rattle.fuse_ops.proofs.Shapes.{read_of, read-after}

module _ (old : ServedState) (request : Request) (node : Number) (reading : Reading) (does : deed_of request ≡ read_file node reading) where
  -- an extent is told, and nothing changed
  read-legally : (extent : FilePart) (answer : Answer) (new : ServedState) → answer ≡ Extent extent → new ≡ old → Legally old request (Ok (read_of old.tree extent)) answer new
  read-legally extent answer new e same = subst (λ (a : Answer). Legally old request (Ok (read_of old.tree extent)) a new) (sym e) (record {
    answers = refl;
    makes = ap plain (same ∙ sym (read-after old request node reading (read_of old.tree extent) extent does refl));
    bad_items = ap (λ (s : ServedState). s.map.bad_items) same;
    keeps_tree = λ was. subst (λ (s : ServedState). IsTree s.tree) (sym same) was;
  })

  unless_in : (extent : FilePart) (against : Option Errno) (answer : Answer) (new : ServedState) → Answers (numbers_at old None) request (reads_unless old.tree extent against) answer → new ≡ old →
      Legally old request (reads_unless old.tree extent against) answer new
  unless_in extent (Some errno) answer new e same = told-legally old request errno answer new e same
  unless_in extent None answer new e same = read-legally extent answer new e same

  file_in : (file : FileId) (content : Option Content) (answer : Answer) (new : ServedState) → Answers (numbers_at old None) request (reads_file old.tree file reading content) answer → new ≡ old →
      Legally old request (reads_file old.tree file reading content) answer new
  file_in file (Some content) answer new e same = unless_in (extent_read file content.size reading) (against_reading reading content.kind content.size) answer new e same
  file_in file None answer new e same = told-legally old request ESTALE answer new e same

  named_in : (o : Option FileId) (answer : Answer) (new : ServedState) → Answers (numbers_at old None) request (reads_from old.tree o reading) answer → new ≡ old →
      Legally old request (reads_from old.tree o reading) answer new
  named_in (Some file) answer new e same = file_in file (file_of old.tree file) answer new e same
  named_in None answer new e same = told-legally old request ESTALE answer new e same

  -- a file that is read is a legal step, after which there is what there was
  pub read-replay : (answer : Answer) (new : ServedState) → Reads old request node reading answer → new ≡ old → Replay old request (Some answer) new
  read-replay answer new r same =
      replays old request (read_file node reading) (λ n. r.file) answer new does (looks-ask request node [] (ap looked_at does)) (r.located, tt) (named_in r.file answer new r.answers same)
