-- What tells a tree from the tree of its manifest: the files that were made, the names that give another file or none,
-- and the next file. (This project's own; EdenFS's overlay holds the same of its directories.)
use Rattle.std.specs.Prelude.{◌≡◌, ◌≢◌, ◌↔◌, ℕ, ◌+◌, ◌≤◌, List, length, map, Some}
use Rattle.std.specs.Ordering.{nat_cmp}
use Rattle.std.specs.List.{Contains}
use Rattle.std.specs.List.Sorted.{IsStrictlySortedBy}
use Rattle.checkout.specs.declared.changes.Changes.{Changes}
use Rattle.manifest.specs.declared.link_change.LinkChange.{LinkChange}
use Rattle.checkout.specs.declared.changes.Made.{Made}
use Rattle.manifest.specs.Tree.{Tree, link_cmp, child_of, file_of, tree_of}
use Rattle.checkout.specs.ChangedTree.{made_file, next_file}

-- the tree has this made file, without content, and its id is after those of the manifest's files
pub record IsMade (tree : Tree) (made : Made) : Type 0 where
  pub later : length tree.manifest.lines + 2 ≤ made.file.0
  pub file : file_of tree made.file ≡ Some (made_file made.kind made.perm)

-- the ids of files, in their order
abbrev pub file_ids : List Made → List ℕ
file_ids made = map (λ (m : Made). m.file.0) made

-- the list contains exactly the files of the tree that were made, by rising id
pub record AreMade (tree : Tree) (made : List Made) : Type 0 where
  pub rising : IsStrictlySortedBy nat_cmp (file_ids made)
  pub each : (m : Made) → Contains made m ↔ IsMade tree m

-- the change's target is what the tree has at the change's place, and the manifest's tree has something else there
pub record IsLinkChange (tree : Tree) (change : LinkChange) : Type 0 where
  pub target : change.target ≡ child_of tree change.dir change.name
  pub differs : change.target ≢ child_of (tree_of tree.manifest) change.dir change.name

-- the place of a changed link: its directory and its name
abbrev pub place_of : LinkChange → ℕ × List ℕ
place_of change = (change.dir.0, change.name)

-- the list contains exactly the links in which the tree differs from its manifest's, by rising directory and then by
-- the bytes of the name
pub record AreLinkChanges (tree : Tree) (links : List LinkChange) : Type 0 where
  pub rising : IsStrictlySortedBy link_cmp (map place_of links)
  pub each : (change : LinkChange) → Contains links change ↔ IsLinkChange tree change

-- the changes are exactly what tells the tree from the tree of its manifest
pub record AreChanges (tree : Tree) (changes : Changes) : Type 0 where
  pub made : AreMade tree changes.made
  pub links : AreLinkChanges tree changes.links
  pub next : changes.next_file ≡ next_file tree
