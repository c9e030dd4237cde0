-- What the calls that answer a request do is a step, by the deed.
use Rattle.std.proofs.Common.{◌≡◌, true, Result, refl, subst, sym}
use Rattle.eden_base.specs.declared.attr.Attr.{Attr}
use Rattle.eden_base.specs.declared.errno.Errno.{Errno}
use Rattle.eden_base.specs.declared.errno.Errno.TheVariants.{ENOSYS}
use Rattle.eden_base.specs.declared.number.Number.{Number}
use Rattle.fuse_wire.specs.Request.{is_ask}
use Rattle.fuse_wire.specs.declared.request.Request.{Request}
use Rattle.fuse_wire.specs.declared.reply.Answer.{Answer}
use Rattle.fuse_wire.specs.declared.reply.Answer.TheVariants.{Error}
use Rattle.fuse_ops.specs.Answers.{Deed, find_name, make_file, take_name, move_name, show_file, list_dir, read_file, unserved, deed_of, against_taking}
use Rattle.fuse_ops.specs.Served.{ServedState, IsLegal}
use Rattle.fuse_ops.specs.Work.{LooksUp, Makes, Shows, ListsDir, Reads, IsSamePlainly, Takes, Moves}
use Rattle.fuse_ops.proofs.Asking.{finds-asks, shows-asks}
use Rattle.fuse_ops.proofs.ListReplay.{list-replay}
use Rattle.fuse_ops.proofs.ReadReplay.{read-replay}
use Rattle.fuse_ops.proofs.Replays.{made_answer, find-replay, make-replay, show-replay, take-replay, move-replay, unserved-replay}
use Rattle.fuse_ops.proofs.SameManifest.{replay-manifest}

-- what the call for a deed does
abbrev pub Does : ServedState → Request → Deed → Answer → ServedState → Type 0
Does old request (find_name dir name) answer new = LooksUp old dir name answer new
Does old request (make_file dir name kind perm) answer new =
    (told : Result (Number × Attr) Errno) × Makes old dir name kind perm told new × (answer ≡ made_answer request told)
Does old request (take_name dir name kind) answer new = Takes old dir name (against_taking kind old.tree) answer new
Does old request (move_name dir name to_dir to_name) answer new = Moves old dir name to_dir to_name answer new
Does old request (show_file node) answer new = Shows old node answer × IsSamePlainly old new
Does old request (list_dir dir offset size) answer new = ListsDir old dir offset size answer × (new ≡ old)
Does old request (read_file node reading) answer new = Reads old request node reading answer × (new ≡ old)
Does old request unserved answer new = (answer ≡ Error ENOSYS) × (new ≡ old)

pub does-legal : (old : ServedState) (request : Request) (answer : Answer) (new : ServedState) → is_ask request ≡ true → Does old request (deed_of request) answer new → IsLegal old request answer new
does-legal old request answer new ask does = in_ (deed_of request) refl does where
  in_ : (deed : Deed) → deed_of request ≡ deed → Does old request deed answer new → IsLegal old request answer new
  in_ (find_name dir name) is d = (find-replay old request dir name is answer new d).1
  in_ (make_file dir name kind perm) is (told, made, e) = subst (λ (a : Answer). IsLegal old request a new) (sym e) (make-replay old request dir name kind perm told new is made).1
  in_ (take_name dir name kind) is d = (take-replay old request dir name kind answer new is d).1
  in_ (move_name dir name to_dir to_name) is d = (move-replay old request dir name to_dir to_name answer new is d).1
  in_ (show_file node) is (d, same) = (show-replay old request node answer new is d same).1
  in_ (list_dir dir offset size) is (d, same) = (list-replay old request dir offset size answer new is d same).1
  in_ (read_file node reading) is (d, same) = (read-replay old request node reading is answer new d same).1
  in_ unserved is (e, same) = subst (λ (a : Answer). IsLegal old request a new) (sym e) (subst (λ (s : ServedState). IsLegal old request (Error ENOSYS) s) (sym same) (unserved-replay old request ask is).1)

pub ruleset steps = (does-legal, replay-manifest, finds-asks, shows-asks)
