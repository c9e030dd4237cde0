-- What is asked of `git cat-file --batch`, and what it answers: git-cat-file(1), "Batch Output". An object is named by the
-- 20 bytes of its id.
use Rattle.std.specs.Prelude.{◌≡◌, ◌||◌, ℕ, Bool, List, [], ◌∷◌, ◌++◌, length, codes, decimal, nat_eq, Option, Some, None, if◌then◌else◌}
use Rattle.std.specs.List.{starts_with}
use Rattle.std.specs.Str.{bytes_eq}
use Rattle.std.specs.Io.KnownBytes.{Appends, Consumes}
use Rattle.hex.specs.Hex.{encode_lower}
use Rattle.sha1.specs.Sha1.{Holds}
use Rattle.sha1.specs.declared.Sha1.{Sha1}
use Rattle.git_objects.specs.Content.{IsBlobOf, blob_name}
use Rattle.git_objects.specs.declared.fault.ObjectFault.{ObjectFault}
use Rattle.git_objects.specs.declared.fault.ObjectFault.TheVariants.{Ambiguous, Missing, NotABlob, OtherSize, Unreadable}

-- the question: the id's hexadecimal text, and LF
abbrev pub question_of : List ℕ → List ℕ
question_of object = encode_lower object ++ 10 ∷ []

-- what the head of each answer begins with: the id, a space and a word
abbrev pub head_start : List ℕ → List ℕ → List ℕ
head_start object word = encode_lower object ++ 32 ∷ word

-- the head of the answer that has a blob of this size: the id, the type and the size, with a space between two, and LF
abbrev pub head_of : List ℕ → ℕ → List ℕ
head_of object size = head_start object (codes "blob ") ++ decimal size ++ 10 ∷ []

-- the answer that has this blob: its head, its bytes, and LF
abbrev pub answer_of : List ℕ → List ℕ → List ℕ
answer_of object blob = head_of object (length blob) ++ blob ++ 10 ∷ []

-- the answer where the repository has no such object
abbrev pub missing_of : List ℕ → List ℕ
missing_of object = head_start object (codes "missing") ++ 10 ∷ []

-- the answer where the id names several objects
abbrev pub ambiguous_of : List ℕ → List ℕ
ambiguous_of object = head_start object (codes "ambiguous") ++ 10 ∷ []

-- whether a line is the head of an answer that has an object of this type
abbrev pub is_of_type : List ℕ → List ℕ → List ℕ → Bool
is_of_type object kind line = starts_with nat_eq line (head_start object kind)

-- whether a line is the head of an answer that has an object which is no blob
abbrev pub is_of_another_type : List ℕ → List ℕ → Bool
is_of_another_type object line =
    is_of_type object (codes "tree ") line || is_of_type object (codes "commit ") line || is_of_type object (codes "tag ") line

-- the fault that a line tells which is no head of the wanted blob
abbrev pub fault_of : List ℕ → List ℕ → ObjectFault
fault_of object line =
    if bytes_eq line (missing_of object) then Missing
    else if bytes_eq line (ambiguous_of object) then Ambiguous
    else if is_of_type object (codes "blob ") line then OtherSize
    else if is_of_another_type object line then NotABlob
    else Unreadable

-- what a line tells against a blob of this size: nothing, if it is that blob's head
abbrev pub told_by : List ℕ → ℕ → List ℕ → Option ObjectFault
told_by object size line = if bytes_eq line (head_of object size) then None else Some (fault_of object line)

-- so many bytes were read, and written, and hashed behind what was hashed before
pub record Copies (said left old new : Option (List ℕ)) (before after : Sha1) (size : ℕ) : Type 0 where
  pub bytes : List ℕ
  pub is_whole : length bytes ≡ size
  pub was_said : Consumes said left bytes
  pub is_written : Appends old new bytes
  pub is_hashed : (hashed : List ℕ) → Holds before hashed → Holds after (hashed ++ bytes)

-- so many bytes were read, and written, and this is the name of the blob that has them
pub record CopiesAs (said left old new : Option (List ℕ)) (size : ℕ) (name : List ℕ) : Type 0 where
  pub bytes : List ℕ
  pub is_whole : length bytes ≡ size
  pub was_said : Consumes said left bytes
  pub is_written : Appends old new bytes
  pub is_name : name ≡ blob_name bytes

-- an answer that has a blob of this size was read, and the blob was written; its bytes have the object's name
pub record IsCopied (said left : Option (List ℕ)) (old new : Option (List ℕ)) (object : List ℕ) (size : ℕ) : Type 0 where
  pub blob : List ℕ
  pub is_blob : IsBlobOf object size blob
  pub was_said : Consumes said left (answer_of object blob)
  pub is_written : Appends old new blob
