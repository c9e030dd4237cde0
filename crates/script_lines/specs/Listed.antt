-- The entries of a directory that an answer's bytes are. (This project's own.)
use Rattle.std.specs.Prelude.{ℕ, zero, suc, List, [], ◌∷◌, length, drop, Option, Some, None, option_map, Result, Ok, Err}
use Rattle.fuse_wire.specs.declared.fault.WireFault.{WireFault}
use Rattle.fuse_wire.specs.DirectoryEntries.{Dirent, entry_text, next_entry}

-- the entry that was read first and those behind it; none if something else stands among them
abbrev pub with_first : Result (Option Dirent) WireFault → (Dirent → Option (List Dirent)) → Option (List Dirent)
with_first (Ok None) behind = Some []
with_first (Ok (Some entry)) behind = option_map (λ (entries : List Dirent). entry ∷ entries) (behind entry)
with_first (Err fault) behind = None

-- the entries that the bytes are, at most so many of them; none if something else stands among them
abbrev pub entries_within : ℕ → List ℕ → Option (List Dirent)
entries_within zero bytes = Some []
entries_within (suc most) bytes =
    with_first (next_entry bytes) (λ entry. entries_within most (drop (length (entry_text entry)) bytes))

-- the entries that the bytes are, one behind the other; none if something else stands among them
abbrev pub listing_of : List ℕ → Option (List Dirent)
listing_of bytes = entries_within (length bytes) bytes
