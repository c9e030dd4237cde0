-- A tree as what differs from its manifest: the files that were made, the links that were added, and the manifest's
-- files whose link is gone.
use Rattle.std.specs.Prelude.{◌≡◌, ℕ, ◌+◌, ◌≤◌, ◌==◌, ◌&&◌, Bool, true, not, nat_lt, nat_le, List, [], ◌∷◌, ◌++◌, length, map, Option, Some, None, IsSome, if◌then◌else◌}
use Rattle.std.specs.Ordering.{nat_cmp}
use Rattle.std.specs.FinMap.{FinMap, get, entries, from_entries, retain_keys}
use Rattle.eden_base.specs.declared.number.FileId.{FileId}
use Rattle.checkout.specs.declared.made.MadeFile.{MadeFile}
use Rattle.manifest.specs.Manifest.{File, Line, Manifest, IsManifest}
use Rattle.manifest.specs.Tree.{Tree, IsTree, link_cmp, files_from, links_from}
use Rattle.checkout.specs.ChangedTree.{made_file}

-- whether the file is one of the manifest's, below the root
abbrev pub is_line : Manifest → FileId → Bool
is_line m file = nat_le 2 file.0 && nat_lt file.0 (length m.lines + 2)

-- a made file as the tree has it
abbrev pub file_made : MadeFile → File
file_made m = made_file m.kind m.perm

-- the made files together with those of a manifest
abbrev pub files_over : FinMap nat_cmp MadeFile → FinMap nat_cmp File → FinMap nat_cmp File
files_over made base = from_entries (map (λ (e : ℕ × MadeFile). (e.0, file_made e.1)) (entries made) ++ entries base)

-- whether a link of the manifest stays: its file is not gone. Also true if there is no file
abbrev pub stays : (ℕ → Bool) → Option FileId → Bool
stays gone None = true
stays gone (Some file) = not (gone file.0)

-- the file that a link of the manifest still gives; None if this file is gone, or if there is no link
abbrev pub still : (ℕ → Bool) → Option FileId → Option FileId
still gone None = None
still gone (Some file) = if gone file.0 then None else Some file

-- the added links together with those links of a manifest whose file is not gone
abbrev pub links_over : FinMap link_cmp FileId → (ℕ → Bool) → FinMap link_cmp FileId → FinMap link_cmp FileId
links_over added gone base = from_entries (entries added ++ entries (retain_keys base (λ k. stays gone (get base k))))

-- the tree that differs from a manifest's by these made files, added links and files that are gone
abbrev pub tree_over : Manifest → FinMap nat_cmp MadeFile → FinMap link_cmp FileId → (ℕ → Bool) → ℕ → Tree
tree_over m made added gone next = record {
  manifest = m;
  files = files_over made (files_from 2 m.lines);
  links = links_over added gone (links_from 2 m.lines);
  next_file = next;
}

-- how many of the lines are in the directory and have a file that is gone. The file of the first line has the given id
abbrev pub lost_in : (ℕ → Bool) → ℕ → ℕ → List Line → ℕ
lost_in gone dir id [] = 0
lost_in gone dir id (l ∷ ls) = (if (l.dir.0 == dir) && gone id then 1 else 0) + lost_in gone dir (id + 1) ls

-- the differences fit the manifest, whether or not they make a tree
pub record AreParts (m : Manifest) (made : FinMap nat_cmp MadeFile) (added : FinMap link_cmp FileId)
    (gone : ℕ → Bool) (lost : ℕ → ℕ) : Type 0 where
  pub is_manifest : IsManifest m
  pub made_are_later : (file : ℕ) → IsSome (get made file) → length m.lines + 2 ≤ file
  -- an added link stands where the manifest has no link, or a link whose file is gone. It may give this same file, if
  -- the file moved away and came back
  pub added_are_apart : (dir : ℕ) (name : List ℕ) → IsSome (get added (dir, name)) →
      still gone (get (links_from 2 m.lines) (dir, name)) ≡ None
  pub gone_are_lines : (file : FileId) → gone file.0 ≡ true → is_line m file ≡ true
  pub lost_are_counted : (dir : ℕ) → lost dir ≡ lost_in gone dir 2 m.lines

-- the differences fit the manifest, and make a tree
pub record IsOverlay (m : Manifest) (made : FinMap nat_cmp MadeFile) (added : FinMap link_cmp FileId)
    (gone : ℕ → Bool) (lost : ℕ → ℕ) (next : ℕ) : Type 0 where
  pub parts : AreParts m made added gone lost
  pub is_tree : IsTree (tree_over m made added gone next)
