-- What an image must be to have a text, if its counts and its lists are not too large. (This project's own; EdenFS's
-- serialised inode map has no such order.)
use Rattle.std.specs.Prelude.{◌≡◌, ◌≤◌, ℕ, Bool, true, ◌&&◌, ◌||◌, ◌==◌, nat_lt, List, [], ◌∷◌, Option, Some, None}
use Rattle.std.specs.List.{list_all, AllByRecursion}
use Rattle.std.specs.Ordering.{nat_cmp, is_lt}
use Rattle.std.specs.Cmp.Lexicographic.{slice_cmp}
use Rattle.eden_base.specs.Limits.{greatest_count}
use Rattle.eden_base.specs.Name.{IsNameText}
use Rattle.checkout.specs.declared.changes.Made.{Made}
use Rattle.manifest.specs.declared.link_change.LinkChange.{LinkChange}
use Rattle.entry_table.specs.declared.kept.Kept.{Kept}
use Rattle.entry_table.specs.EntryPlaces.{IsNamedEntry}
use Rattle.entry_table.specs.Entries.{is_of_use}
use Rattle.map_image.specs.declared.image.Image.{Image}

-- each member may follow the one before it, and the first may follow `last`
abbrev pub rises : {X : Type 0} → (Option X → X → Bool) → Option X → List X → Bool
rises follows last [] = true
rises follows last (x ∷ xs) = follows last x && rises follows (Some x) xs

-- a number is above that of the last entry; without a last entry it is at least 2
abbrev pub is_next_number : Option Kept → ℕ → Bool
is_next_number None n = nat_lt 1 n
is_next_number (Some last) n = nat_lt last.number.0 n

-- a made file's id is above that of the last one
abbrev pub is_next_file : Option Made → ℕ → Bool
is_next_file None n = true
is_next_file (Some last) n = nat_lt last.file.0 n

-- a name in a directory comes after the last one, by directory and then by bytes
abbrev pub is_next_place : Option LinkChange → ℕ → List ℕ → Bool
is_next_place None dir name = true
is_next_place (Some last) dir name =
    nat_lt last.dir.0 dir || (last.dir.0 == dir && is_lt (slice_cmp nat_cmp last.name name))

abbrev pub entry_follows : Option Kept → Kept → Bool
entry_follows last kept = is_next_number last kept.number.0

abbrev pub made_follows : Option Made → Made → Bool
made_follows last made = is_next_file last made.file.0

abbrev pub link_follows : Option LinkChange → LinkChange → Bool
link_follows last link = is_next_place last link.dir.0 link.name

abbrev pub IsNamedLink : LinkChange → Type 0
IsNamedLink link = IsNameText link.name

-- An image can have a text. An entry that the kernel doesn't hold is of use as the parent of a linked one.
pub record IsFit (image : Image) : Type 0 where
  pub entries_rise : rises entry_follows None image.entries ≡ true
  pub entries_have_names : AllByRecursion IsNamedEntry image.entries
  pub each_of_use : list_all (is_of_use image.entries) image.entries ≡ true
  pub made_rise : rises made_follows None image.changes.made ≡ true
  pub links_rise : rises link_follows None image.changes.links ≡ true
  pub links_have_names : AllByRecursion IsNamedLink image.changes.links

-- each count is one that the kernel may hold
abbrev pub CountsFit : List Kept → Type 0
CountsFit entries = AllByRecursion (λ (kept : Kept). kept.count ≤ greatest_count) entries
