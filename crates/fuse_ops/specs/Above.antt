-- Whether a file stands above another, as a function that goes up from the other. (rename(2) answers EINVAL if the new
-- directory is below the old one.)
use Rattle.std.specs.Prelude.{ℕ, zero, suc, ◌==◌, Bool, false, ◌||◌, List, Option}
use Rattle.std.specs.Option.{option_map, option_map_or}
use Rattle.std.specs.FinMap.{entries}
use Rattle.eden_base.specs.First.{first_where}
use Rattle.eden_base.specs.declared.number.FileId.{FileId}
use Rattle.manifest.specs.Tree.{Tree}

-- the link gives the file
abbrev pub gives_file : FileId → (ℕ × List ℕ) × FileId → Bool
gives_file file link = link.1.0 == file.0

-- the directory in which a name gives the file, if one does
abbrev pub dir_above : Tree → FileId → Option FileId
dir_above tree file =
    option_map (λ (link : (ℕ × List ℕ) × FileId). record { 0 = link.0.0 })
    (first_where (gives_file file) (entries tree.links))

-- whether the file is the other, or stands above it by fewer levels than these
abbrev pub is_above_within : ℕ → Tree → FileId → FileId → Bool
is_above_within zero tree file other = false
is_above_within (suc levels) tree file other =
    other.0 == file.0 || option_map_or (is_above_within levels tree file) (dir_above tree other) false

-- whether the file is the other, or stands above it; there are fewer levels than files
abbrev pub is_at_or_above : Tree → FileId → FileId → Bool
is_at_or_above tree file other = is_above_within tree.next_file tree file other
