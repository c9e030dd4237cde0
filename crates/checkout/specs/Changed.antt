-- The tree of a manifest after changes, and the faults with which it is refused. (This project's own.)
use Rattle.std.specs.Prelude.{◌≡◌, ℕ, List, [], ◌∷◌, Option, Some, None}
use Rattle.std.specs.FinMap.{FinMap, insert, remove}
use Rattle.std.specs.Ordering.{nat_cmp}
use Rattle.eden_base.specs.declared.number.FileId.{FileId}
use Rattle.checkout.specs.declared.changes.Changes.{Changes}
use Rattle.manifest.specs.declared.link_change.LinkChange.{LinkChange}
use Rattle.checkout.specs.declared.changes.Made.{Made}
use Rattle.checkout.specs.declared.fault.ChangeFault.{ChangeFault}
use Rattle.checkout.specs.declared.fault.ChangeFault.TheVariants.{BadChange, NoMemory}
use Rattle.checkout.specs.BadChanges.{bad_itself, IsBadChange}
use Rattle.checkout.specs.Changes.{place_of}
use Rattle.manifest.specs.Manifest.{File, Manifest}
use Rattle.manifest.specs.Tree.{Tree, files_from, link_cmp, links_from}
use Rattle.checkout.specs.ChangedTree.{made_file}

-- the files together with the made files
abbrev pub files_with : FinMap nat_cmp File → List Made → FinMap nat_cmp File
files_with files [] = files
files_with files (made ∷ rest) = insert (files_with files rest) made.file.0 (made_file made.kind made.perm)

-- the links, except that this place gives the target; without a target no link stands there
abbrev pub put : FinMap link_cmp FileId → ℕ × List ℕ → Option FileId → FinMap link_cmp FileId
put links place None = remove links place
put links place (Some file) = insert links place file

-- the links after the changes. Of two changes at one place the earlier in the list counts
abbrev pub links_with : FinMap link_cmp FileId → List LinkChange → FinMap link_cmp FileId
links_with links [] = links
links_with links (change ∷ rest) = put (links_with links rest) (place_of change) change.target

-- the tree of a manifest after all changes
abbrev pub changed : Manifest → Changes → Tree
changed m c = record {
  manifest = m;
  files = files_with (files_from 2 m.lines) c.made;
  links = links_with (links_from 2 m.lines) c.links;
  next_file = c.next_file.0;
}

-- the fault is right: `BadChange` has the position of the first bad change, and with `NoMemory` no change is bad by
-- itself
abbrev pub IsChangeRefusal : Manifest → Changes → ChangeFault → Type 0
IsChangeRefusal m c (BadChange place) = IsBadChange m c (Some place)
IsChangeRefusal m c NoMemory = bad_itself m c ≡ None
