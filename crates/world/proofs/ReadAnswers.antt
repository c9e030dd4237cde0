-- What is read of a file are its own bytes, whatever else happens.
use Rattle.std.proofs.Common.{◌≡◌, ℕ, ◌-◌, ◌≤◌, min, Bool, true, false, List, [], ◌∷◌, length, take, drop, length-drop, Option, Some, None, Result, Ok, refl, sym, ap, ◌∙◌, subst, inl, inr, arith}
use Rattle.std.specs.Prelude.{nat_le}
use Rattle.std.proofs.lemmas.Bool.Decides.{nat_tests}
use Rattle.std.proofs.lemmas.List.{take_all}
use Rattle.std.specs.Option.{option_map}
use Rattle.eden_base.specs.First.{first_where}
use Rattle.eden_base.specs.declared.errno.Errno.{Errno}
use Rattle.eden_base.specs.declared.errno.Errno.TheVariants.{ESTALE}
use Rattle.eden_base.specs.declared.number.FileId.{FileId}
use Rattle.eden_base.specs.declared.number.Number.{Number}
use Rattle.manifest.specs.Tree.{file_of}
use Rattle.manifest.specs.declared.content.Content.{Content}
use Rattle.fuse_wire.specs.declared.request.Ask.{Ask}
use Rattle.fuse_wire.specs.declared.request.Request.{Request}
use Rattle.fuse_wire.specs.declared.reply.Answer.{Answer}
use Rattle.fuse_wire.specs.declared.reply.Extent.{Extent}
use Rattle.fuse_ops.specs.Answers.{reads_unless, reads_file, reads_from, comes_to, Answers}
use Rattle.fuse_ops.specs.Extents.{Reading, bytes_from, whole_target, against_reading, extent_read, bytes_of}
use Rattle.world.specs.World.{World, issue, issue_item, work, work_item, accept, deliver, mount, claim, end, Move, MayAnswer, MayMove, MayWork, IsRun, numbers_of, is_asked, file_named, after}
use Rattle.world.specs.Reads.{AreBlobs, GivesBytes, IsReadAsked, ReadsAreOfTheirFiles, ReadsBytes, ReadsIfAsked, request_for}

-- as many bytes as were asked for, or as there are
took : (bytes : List ℕ) (n size : ℕ) → length bytes ≡ n → take (min size n) bytes ≡ take size bytes
took bytes n size len = in_ (nat_le size n) refl where
  in_ : (b : Bool) → nat_le size n ≡ b → take (min size n) bytes ≡ take size bytes
  in_ true t = ap (λ (k : ℕ). take k bytes) (let le : size ≤ n = grind (arith, nat_tests) in omega (arith, le))
  in_ false t =
      let more : n ≤ size = grind (arith, nat_tests) in
      let least : min size n ≡ n = omega (arith, more) in
      ap (λ (k : ℕ). take k bytes) least ∙ take_all n bytes (omega (arith, len)) ∙ sym (take_all size bytes (omega (arith, len, more)))

-- the extent that is read has the bytes that are read
gives-bytes : (world : World) (file : FileId) (reading : Reading) (content : Content) → file_of world.tree file ≡ Some content → GivesBytes world file reading (extent_read file content.size reading)
gives-bytes world file (bytes_from offset size) content is = record {
  of_file = refl;
  bytes = λ blobs are. took (drop offset (blobs file)) (content.size - offset) size (omega (arith, length-drop offset (blobs file), are file content is));
}
gives-bytes world file whole_target content is = record {
  of_file = refl;
  bytes = λ blobs are. take_all content.size (blobs file) (let len = are file content is in omega (arith, len));
}

module _ (world : World) (unique : ℕ) (answer : Answer) (file : FileId) (reading : Reading) (asked : IsReadAsked world unique file reading) where
  abbrev Reads : Type 0
  Reads = ReadsBytes world file reading answer

  unless_in : (request : Request) (content : Content) → file_of world.tree file ≡ Some content → (against : Option Errno) → Answers (numbers_of world) request (reads_unless world.tree (extent_read file content.size reading) against) answer → Reads
  unless_in request content is (Some errno) e = inr (errno, e)
  unless_in request content is None e = inl (extent_read file content.size reading, e, gives-bytes world file reading content is)

  file_in : (request : Request) (o : Option Content) → file_of world.tree file ≡ o → Answers (numbers_of world) request (reads_file world.tree file reading o) answer → Reads
  file_in request (Some content) is a = unless_in request content is (against_reading reading content.kind content.size) a
  file_in request None is e = inr (ESTALE, e)

  named_in : (request : Request) → Answers (numbers_of world) request (reads_from world.tree (file_named world.names asked.node.0) reading) answer → Reads
  named_in request a = file_in request (file_of world.tree file) refl
      (subst (λ (o : Option FileId). Answers (numbers_of world) request (reads_from world.tree o reading) answer) asked.names a)

-- what is answered to such a request
answered-reads : (world : World) (unique : ℕ) (answer : Answer) (file : FileId) (reading : Reading) (asked : IsReadAsked world unique file reading) → MayAnswer world (request_for asked.node reading) answer → ReadsBytes world file reading answer
answered-reads world unique answer file (bytes_from offset size) asked (inl (e, stale)) = inr (ESTALE, e)
answered-reads world unique answer file (bytes_from offset size) asked (inr answers) = named_in world unique answer file (bytes_from offset size) asked (request_for asked.node (bytes_from offset size)) answers
answered-reads world unique answer file whole_target asked (inl (e, stale)) = inr (ESTALE, e)
answered-reads world unique answer file whole_target asked (inr answers) = named_in world unique answer file whole_target asked (request_for asked.node whole_target) answers

may-read : (world : World) (unique : ℕ) (answer : Answer) (file : FileId) (reading : Reading) (asked : IsReadAsked world unique file reading) (o : Option Ask) →
    option_map (λ (ask : Ask). ask.what) o ≡ Some (request_for asked.node reading) → MayWork world o answer → ReadsBytes world file reading answer
may-read world unique answer file reading asked None is may = absurd may
may-read world unique answer file reading asked (Some ask) is may = answered-reads world unique answer file reading asked (subst (λ (what : Request). MayAnswer world what answer) what_is may) where
  what_is : ask.what ≡ request_for asked.node reading
  what_is = (let same : Some ask.what ≡ Some (request_for asked.node reading) = is in cc)

move-reads : (world : World) (move : Move) → MayMove world move → ReadsIfAsked world move
move-reads world (work unique answer) may = λ file reading asked. may-read world unique answer file reading asked (first_where (is_asked unique) world.asks) asked.asked may
move-reads world (issue ask) may = tt
move-reads world (issue_item item) may = tt
move-reads world (work_item item) may = tt
move-reads world (accept unique daemon) may = tt
move-reads world (deliver unique) may = tt
move-reads world (mount daemon) may = tt
move-reads world (claim g daemon) may = tt
move-reads world end may = tt

-- the reads of a run
pub run-reads : (world : World) (moves : List Move) → IsRun world moves → ReadsAreOfTheirFiles world moves
run-reads world [] run = tt
run-reads world (move ∷ moves) (may, run) = (move-reads world move may, run-reads (after world move) moves run)
