-- What a daemon knows stays sound whatever it is asked.
use Rattle.std.proofs.Common.{◌≡◌, ℕ, Bool, true, false, List, Option, Some, None, Ok, Err, refl, sym, ap, ◌∙◌, subst, inl, inr, ◌⊎◌}
use Rattle.std.specs.Option.{option_map_or}
use Rattle.eden_base.specs.declared.attr.Kind.{Kind}
use Rattle.eden_base.specs.declared.attr.Kind.TheVariants.{Dir, File, Link}
use Rattle.eden_base.specs.declared.errno.Errno.TheVariants.{ENOENT}
use Rattle.eden_base.specs.declared.number.FileId.{FileId}
use Rattle.eden_base.specs.declared.number.Number.{Number}
use Rattle.eden_base.proofs.NumberTests.{eq-or}
use Rattle.manifest.specs.Tree.{Tree, IsTree, child_of, kind_of}
use Rattle.entry_table.specs.Entries.{is_bad_item}
use Rattle.inode_map.specs.InodeMap.{forgotten, given, give_fault, number_given}
use Rattle.fuse_ops.specs.Answers.{found_in, found_in_dir}
use Rattle.fuse_ops.specs.Gifts.{served_over, Gave}
use Rattle.fuse_ops.specs.Served.{ServedState, IsLocated}
use Rattle.fuse_ops.specs.Soundness.{IsSound}
use Rattle.fuse_ops.specs.Work.{Finds}
use Rattle.fuse_ops.specs.declared.served.Found.{Found}
use Rattle.fuse_ops.proofs.ForgettingLaw.{forgets-well, bad-keeps}
use Rattle.fuse_ops.proofs.GivingLaw.{gives-well}

-- what is found under a name in a directory is its child there
pub found-child : (tree : Tree) (dir file : FileId) (name : List ℕ) → found_in tree (Some dir) name ≡ Ok file → child_of tree dir name ≡ Some file
found-child tree dir file name found = by_kind (kind_of tree dir) found where
  by_child : (child : Option FileId) → option_map_or (λ (f : FileId). Ok f) child (Err ENOENT) ≡ Ok file → child ≡ Some file
  by_child None e = absurd (let none : ⊥ = cc in none)
  by_child (Some f) e = let same : f ≡ file = cc in ap Some same

  by_kind : (kind : Option Kind) → found_in_dir tree dir name kind ≡ Ok file → child_of tree dir name ≡ Some file
  by_kind (Some Dir) e = by_child (child_of tree dir name) e
  by_kind (Some File) e = absurd (let none : ⊥ = cc in none)
  by_kind (Some Link) e = absurd (let none : ⊥ = cc in none)
  by_kind None e = absurd (let none : ⊥ = cc in none)

-- what a daemon knows fits together after an item of a forget
pub forgotten-sound : (served : ServedState) (n k : ℕ) → IsTree served.tree → IsSound served → IsSound (served_over served.tree (forgotten served.map n k))
forgotten-sound served n k is sound = by_root (eq-or n 1) where
  by_bad : (n ≡ 1 → ⊥) → (bad : Bool) → is_bad_item served.map.entries n k ≡ bad → IsSound (served_over served.tree (forgotten served.map n k))
  by_bad other true e = (bad-keeps served n k sound (inr e)).sound
  by_bad other false e = ((forgets-well served n k is sound other e).1).sound

  by_root : (n ≡ 1) ⊎ (n ≡ 1 → ⊥) → IsSound (served_over served.tree (forgotten served.map n k))
  by_root (inl one) = (bad-keeps served n k sound (inl one)).sound
  by_root (inr other) = by_bad other (is_bad_item served.map.entries n k) refl

-- the number of a file that was found is given
pub found-gave : (served : ServedState) (dir : Number) (name : List ℕ) (told : Found) → IsTree served.tree → IsSound served → Finds served dir.0 name (Ok told) → give_fault served.map dir.0 name ≡ None →
    Gave served.tree served.map (given served.map dir name) (number_given served.map dir.0 name).0 told.file
found-gave served dir name told is sound finds clear = gives-well served dir name told.dir told.file (record {
  is_tree = is;
  sound = sound;
  at = subst (IsLocated served dir.0) finds.found.0 finds.located;
  child = found-child served.tree told.dir told.file name (ap (λ (o : Option FileId). found_in served.tree o name) (sym finds.found.0) ∙ finds.found.1);
}) clear
