-- What is answered to a request that lists a directory is a step of the replay.
use Rattle.std.proofs.Common.{◌≡◌, ℕ, List, [], Option, Some, None, Ok, Err, refl, sym, ap, ◌∙◌, subst, inl, inr}
use Rattle.eden_base.specs.declared.attr.Kind.{Kind}
use Rattle.eden_base.specs.declared.attr.Kind.TheVariants.{Dir, File, Link}
use Rattle.eden_base.specs.declared.errno.Errno.{Errno}
use Rattle.eden_base.specs.declared.errno.Errno.TheVariants.{ENOTDIR, ESTALE, ENOMEM}
use Rattle.eden_base.specs.declared.number.FileId.{FileId}
use Rattle.eden_base.specs.declared.number.Number.{Number}
use Rattle.manifest.specs.Tree.{IsTree, kind_of}
use Rattle.fuse_wire.specs.DirectoryEntries.{entries_text}
use Rattle.fuse_wire.specs.declared.request.Request.{Request}
use Rattle.fuse_wire.specs.declared.reply.Answer.{Answer}
use Rattle.fuse_wire.specs.declared.reply.Answer.TheVariants.{Error}
use Rattle.fuse_ops.specs.Answers.{AnswersListed, list_dir, deed_of, looked_at, lists_dir, lists_from}
use Rattle.fuse_ops.specs.Listing.{Lists, Range, range_of}
use Rattle.fuse_ops.specs.Served.{ServedState, plain, IsInode, numbers_at, place_told, Replay}
use Rattle.fuse_ops.specs.Work.{ListsDir, ListsFile, ListsKind}
use Rattle.fuse_ops.proofs.Looking.{looks-ask}
use Rattle.fuse_ops.proofs.Replays.{Legally, error-legally, replays, same_of}
use Rattle.fuse_ops.proofs.Shapes.{listed, listed-after, error-after}

-- by which inode number an entry may tell a file is the same for each place
pub inode-same : (old : ServedState) (place : Option (Number × List ℕ)) → (numbers_at old place).IsInode ≡ IsInode old
inode-same old (Some place) = refl
inode-same old None = refl

-- part of a directory was listed, or memory for it was refused
listed-legally : (old : ServedState) (request : Request) (dir : Number) (offset size : ℕ) (range : Range) (answer : Answer) (new : ServedState) → deed_of request ≡ list_dir dir offset size → AnswersListed (IsInode old) old.tree range answer → new ≡ old →
    Legally old request (Ok (listed old.tree range)) answer new
listed-legally old request dir offset size range answer new does (inl (entries, lists, e)) same = subst (λ (a : Answer). Legally old request (Ok (listed old.tree range)) a new) (sym e) (record {
  answers = inl (entries, subst (λ (is : FileId → ℕ → Type 0). Lists is old.tree range.dir range.from range.room entries) (sym (inode-same old (place_told request))) lists, refl);
  makes = ap plain (same ∙ sym (listed-after old request dir offset size (listed old.tree range) (entries_text entries) does refl));
  bad_items = ap (λ (s : ServedState). s.map.bad_items) same;
  keeps_tree = λ was. subst (λ (s : ServedState). IsTree s.tree) (sym same) was;
})
listed-legally old request dir offset size range answer new does (inr e) same = subst (λ (a : Answer). Legally old request (Ok (listed old.tree range)) a new) (sym e) (record {
  answers = inr refl;
  makes = ap plain (same ∙ sym (error-after old request (Ok (listed old.tree range)) ENOMEM));
  bad_items = ap (λ (s : ServedState). s.map.bad_items) same;
  keeps_tree = λ was. subst (λ (s : ServedState). IsTree s.tree) (sym same) was;
})

-- an error is told, and nothing changed
pub told-legally : (old : ServedState) (request : Request) (errno : Errno) (answer : Answer) (new : ServedState) → answer ≡ Error errno → new ≡ old → Legally old request (Err errno) answer new
told-legally old request errno answer new e same = subst (λ (a : Answer). Legally old request (Err errno) a new) (sym e) (error-legally old request errno new (same_of old new same))

lists_kind_in : (old : ServedState) (request : Request) (dir : Number) (offset size : ℕ) (file : FileId) (kind : Option Kind) (answer : Answer) (new : ServedState) → deed_of request ≡ list_dir dir offset size → ListsKind old file offset size kind answer → new ≡ old →
    Legally old request (lists_dir old.tree file offset size kind) answer new
lists_kind_in old request dir offset size file (Some Dir) answer new does lists same = listed-legally old request dir offset size (range_of file offset size) answer new does lists same
lists_kind_in old request dir offset size file (Some File) answer new does e same = told-legally old request ENOTDIR answer new e same
lists_kind_in old request dir offset size file (Some Link) answer new does e same = told-legally old request ENOTDIR answer new e same
lists_kind_in old request dir offset size file None answer new does e same = told-legally old request ENOTDIR answer new e same

lists_in : (old : ServedState) (request : Request) (dir : Number) (offset size : ℕ) (o : Option FileId) (answer : Answer) (new : ServedState) → deed_of request ≡ list_dir dir offset size → ListsFile old o offset size answer → new ≡ old →
    Legally old request (lists_from old.tree o offset size) answer new
lists_in old request dir offset size (Some file) answer new does lists same = lists_kind_in old request dir offset size file (kind_of old.tree file) answer new does lists same
lists_in old request dir offset size None answer new does e same = told-legally old request ESTALE answer new e same

-- a directory that is listed is a legal step, after which there is what there was
pub list-replay : (old : ServedState) (request : Request) (dir : Number) (offset size : ℕ) (answer : Answer) (new : ServedState) → deed_of request ≡ list_dir dir offset size → ListsDir old dir offset size answer → new ≡ old → Replay old request (Some answer) new
list-replay old request dir offset size answer new does l same =
    replays old request (list_dir dir offset size) (λ n. l.dir_file) answer new does (looks-ask request dir [] (ap looked_at does)) (l.located, tt) (lists_in old request dir offset size l.dir_file answer new does l.lists same)
