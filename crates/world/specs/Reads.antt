-- What is read of a file, whatever else happens: the file's own bytes, as many as were asked for or as there are up to its
-- end, whichever daemon answers (read(2)); of a symbolic link its whole target (readlink(2)).
use Rattle.std.specs.Prelude.{◌≡◌, ◌⊎◌, ℕ, List, [], ◌∷◌, length, Some}
use Rattle.std.specs.Option.{option_map}
use Rattle.eden_base.specs.First.{first_where}
use Rattle.eden_base.specs.declared.errno.Errno.{Errno}
use Rattle.eden_base.specs.declared.number.FileId.{FileId}
use Rattle.eden_base.specs.declared.number.Number.{Number}
use Rattle.manifest.specs.Tree.{Tree, file_of}
use Rattle.manifest.specs.declared.content.Content.{Content}
use Rattle.fuse_wire.specs.declared.request.Ask.{Ask}
use Rattle.fuse_wire.specs.declared.request.Request.{Request}
use Rattle.fuse_wire.specs.declared.request.Request.TheVariants.{Read, Readlink}
use Rattle.fuse_wire.specs.declared.reply.Answer.{Answer}
use Rattle.fuse_wire.specs.declared.reply.Answer.TheVariants as answers
use Rattle.fuse_wire.specs.declared.reply.Extent.{Extent}
use Rattle.fuse_ops.specs.Extents.{Reading, bytes_from, whole_target, bytes_of, bytes_read}
use Rattle.world.specs.World.{World, Move, work, is_asked, file_named, after}

-- the request by which this is read of the file that a number names
abbrev pub request_for : Number → Reading → Request
request_for node (bytes_from offset size) = Read node offset size
request_for node whole_target = Readlink node

-- under this unique, this is asked for of the file that a number was first given out for in this mount
pub record IsReadAsked (world : World) (unique : ℕ) (file : FileId) (reading : Reading) : Type 0 where
  pub node : Number
  pub asked : option_map (λ (ask : Ask). ask.what) (first_where (is_asked unique) world.asks)
      ≡ Some (request_for node reading)
  pub names : file_named world.names node.0 ≡ Some file

-- these are the bytes of each file: as many as its size says
abbrev pub AreBlobs : Tree → (FileId → List ℕ) → Type 0
AreBlobs tree blobs =
    (file : FileId) (content : Content) → file_of tree file ≡ Some content → length (blobs file) ≡ content.size

-- an extent gives what is read of this file
pub record GivesBytes (world : World) (file : FileId) (reading : Reading) (extent : Extent) : Type 0 where
  pub of_file : extent.file ≡ file
  pub bytes : (blobs : FileId → List ℕ) → AreBlobs world.tree blobs →
      bytes_of blobs extent ≡ bytes_read reading (blobs file)

-- a READ or a READLINK is answered by such an extent, or by an error
abbrev pub ReadsBytes : World → FileId → Reading → Answer → Type 0
ReadsBytes world file reading answer =
    ((extent : Extent) × (answer ≡ answers.Extent extent) × GivesBytes world file reading extent)
    ⊎ ((errno : Errno) × (answer ≡ answers.Error errno))

-- so it is where one is answered by a move
abbrev pub ReadsIfAsked : World → Move → Type 0
ReadsIfAsked world (work unique answer) =
    (file : FileId) (reading : Reading) → IsReadAsked world unique file reading → ReadsBytes world file reading answer
ReadsIfAsked world move = Unit {0}

-- so it is at each move of a run: every byte that is read of a file is one of the file's, at its place
abbrev pub ReadsAreOfTheirFiles : World → List Move → Type 0
ReadsAreOfTheirFiles world [] = Unit {0}
ReadsAreOfTheirFiles world (move ∷ moves) = ReadsIfAsked world move × ReadsAreOfTheirFiles (after world move) moves
