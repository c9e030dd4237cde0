-- The bytes of files. A blob is all the bytes of one file (git's word, and EdenFS's). The store of blobs and the manifest
-- come from elsewhere, and may disagree on a size: then the manifest's holds. (This project's own.)
use Rattle.std.specs.Prelude.{ℕ, ◌-◌, List, ◌++◌, length, take, drop, replicate}

-- bytes, filled with zeros up to this length
abbrev pub filled : ℕ → List ℕ → List ℕ
filled len bytes = bytes ++ replicate (len - length bytes) 0

-- a blob at the size that the manifest says: its bytes, cut or filled
abbrev pub sized : ℕ → List ℕ → List ℕ
sized size blob = filled size (take size blob)

-- the bytes of a blob from an offset on, this many of them if there are so many
abbrev pub part : ℕ → ℕ → List ℕ → List ℕ
part offset len blob = take len (drop offset blob)
