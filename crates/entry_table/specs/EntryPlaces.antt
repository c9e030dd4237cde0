-- What the code's contracts say of places, and of the ways from numbers up to the root.
use Rattle.std.specs.Prelude.{◌≡◌, ℕ, ◌⊎◌, Bool, true, false, List, [], ◌∷◌, Option, Some, None}
use Rattle.eden_base.specs.Name.{IsNameText}
use Rattle.eden_base.specs.declared.number.FileId.{FileId}
use Rattle.eden_base.specs.declared.number.Number.{Number}
use Rattle.eden_base.specs.declared.place.Place.{Place}
use Rattle.eden_base.specs.declared.place.Place.TheVariants.{Linked, Unlinked}
use Rattle.manifest.specs.Tree.{Tree}
use Rattle.entry_table.specs.Entries.{entry_of, is_of_use, IsFileOf}
use Rattle.entry_table.specs.declared.kept.Kept.{Kept}

-- each entry is of use, except perhaps the one of number `but`
abbrev pub AreOfUseBut : Option ℕ → List Kept → Type 0
AreOfUseBut but entries =
    (n : ℕ) (kept : Kept) → entry_of entries n ≡ Some kept → (is_of_use entries kept ≡ true) ⊎ (but ≡ Some n)

-- if the place is a name in a directory, the name is one that a file may have
abbrev pub HasName : Place → Type 0
HasName (Linked dir name) = IsNameText name
HasName (Unlinked file) = Unit {0}

abbrev pub IsNamedEntry : Kept → Type 0
IsNamedEntry kept = HasName kept.place

-- whether the place is a name in a directory
abbrev pub is_under_name : Place → Bool
is_under_name (Linked dir name) = true
is_under_name (Unlinked file) = false

-- whether the entry stands under a name
abbrev pub is_linked_entry : Kept → Bool
is_linked_entry kept = is_under_name kept.place

-- the number of the directory of a place, if the place has one
abbrev pub dir_of : Place → Option ℕ
dir_of (Linked dir name) = Some dir.0
dir_of (Unlinked file) = None

-- the entry of number `n` stands in the directory of number `up`
pub record StepsUp (entries : List Kept) (n up : ℕ) : Type 0 where
  pub kept : Kept
  pub dir : Number
  pub name : List ℕ
  pub not_root : n ≡ 1 → ⊥
  pub entry : entry_of entries n ≡ Some kept
  pub linked : kept.place ≡ Linked dir name
  pub is_up : dir.0 ≡ up

-- the list has the numbers from `n` up to `top`, each in the directory of the next one; `top` itself isn't in the list
abbrev pub Climbs : List Kept → ℕ → List Number → ℕ → Type 0
Climbs entries n [] top = n ≡ top
Climbs entries n (at ∷ way) top = (at.0 ≡ n) × ((up : ℕ) × StepsUp entries n up × Climbs entries up way top)

-- the list is a way from `n` up to a number that names this file in every tree: the root, or a number with a mark
pub record IsWay (entries : List Kept) (n : ℕ) (way : List Number) (file : FileId) : Type 0 where
  pub top : ℕ
  pub climbs : Climbs entries n way top
  pub names : (tree : Tree) → IsFileOf tree entries top file
