-- Which blobs are kept. They are listed with the one that was used last first.
use Rattle.std.specs.Prelude.{◌≡◌, ◌+◌, ◌-◌, ◌/◌, ℕ, Bool, true, false, List, [], ◌∷◌, nat_lt, nat_le, Option, Some, None, Result, Ok, Err, is_some, ⊤, if◌then◌else◌}
use Rattle.std.specs.Str.{bytes_eq}
use Rattle.std.specs.Map.{lookup}
use Rattle.eden_base.specs.declared.memory.NoMemory.{NoMemory}
use Rattle.git_objects.specs.Blob.{IsSameBlob}
use Rattle.git_objects.specs.declared.blob.Blob.{Blob}
use Rattle.git_objects.specs.declared.blob_cache.Kept.{Kept}

-- whether two ids are the same
abbrev pub same_id : List ℕ → List ℕ → Bool
same_id = bytes_eq

-- a blob that is kept, beside its id
abbrev pub Entry : Type 0
Entry = List ℕ × Kept

-- how many bytes these blobs count for
abbrev pub held_by : List Entry → ℕ
held_by [] = 0
held_by (entry ∷ entries) = entry.1.cost + held_by entries

-- how many bytes an entry counts for, if there is one
abbrev pub cost_of_entry : Option Entry → ℕ
cost_of_entry None = 0
cost_of_entry (Some entry) = entry.1.cost

-- whether a blob of this size is too large for memory within this bound, where each counts for 256 bytes beside its own
abbrev pub is_large : ℕ → ℕ → Bool
is_large size bound = nat_lt bound (size + 256)

-- how many bytes a blob of this size counts for: a large one, which is in a file, for a quarter of the bound
abbrev pub cost_of : ℕ → ℕ → ℕ
cost_of size bound = if is_large size bound then bound / 4 else size + 256

-- those from the front on that fit into this room, up to the first that does not
abbrev pub fitting : ℕ → List Entry → List Entry
fitting room [] = []
fitting room (entry ∷ entries) =
    if nat_le entry.1.cost room then entry ∷ fitting (room - entry.1.cost) entries else []

-- one more blob is first among those that leave room for it
abbrev pub with_blob : ℕ → List Entry → Bool → List ℕ → Kept → List Entry
with_blob bound entries true object kept = (object, kept) ∷ fitting (bound - kept.cost) entries
with_blob bound entries false object kept = fitting (bound - kept.cost) entries

-- the blobs behind one more; one that is there is there still
abbrev pub kept_by : ℕ → List Entry → Bool → Blob → List Entry
kept_by bound entries is_kept blob =
    if is_some (lookup (same_id blob.object) entries) then entries
    else with_blob bound entries is_kept blob.object (record { blob = blob; cost = cost_of blob.size bound })

-- what is found of a blob: it, where it is kept, unless memory for one more owner is refused
abbrev pub Finds : Option Kept → Result (Option Blob) NoMemory → Type 0
Finds (Some kept) (Ok (Some blob)) = IsSameBlob kept.blob blob
Finds (Some kept) (Ok None) = ⊥
Finds (Some kept) (Err refused) = ⊤
Finds None found = found ≡ Ok None
