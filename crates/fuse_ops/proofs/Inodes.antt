-- By which inode number an entry of a directory tells a file, and which number the directory above has.
use Rattle.std.proofs.Common.{◌≡◌, ℕ, ◌==◌, ◌&&◌, ◌||◌, Bool, true, false, List, [], ◌∷◌, Option, Some, None, refl, sym, ap, ◌∙◌, subst, inl, inr, arith}
use Rattle.std.specs.Prelude.{nat_eq, if◌then◌else◌}
use Rattle.std.specs.Cmp.Lexicographic.{pointwise}
use Rattle.std.specs.List.{list_any}
use Rattle.std.specs.Option.{option_map}
use Rattle.eden_base.specs.declared.number.FileId.{FileId}
use Rattle.eden_base.specs.declared.number.Number.{Number}
use Rattle.eden_base.specs.declared.place.Place.{Place}
use Rattle.eden_base.specs.declared.place.Place.TheVariants.{Linked, Unlinked}
use Rattle.manifest.specs.Tree.{IsTree, child_of}
use Rattle.entry_table.proofs.EntryLemmas.{numbers-entry}
use Rattle.entry_table.specs.Entries.{is_root, is_child, is_marked, is_in, is_kid_of, is_place, entry_of, entry_at, number_of_kept, place_of_kept}
use Rattle.entry_table.specs.declared.kept.Kept.{Kept}
use Rattle.fuse_ops.specs.Served.{ServedState, IsInode, IsLive, unknown_inode}
use Rattle.fuse_ops.specs.Soundness.{IsSound, Names}
use Rattle.fuse_ops.specs.Work.{NamesAbove}
use Rattle.fuse_ops.proofs.Fits.{sound-fits, place-file, no-place-no_file}
use Rattle.fuse_ops.proofs.Known.{same-number}

-- where no entry stands in a directory, none stands under a name of it
pub no-kids : (entries : List Kept) (parent : ℕ) (name : List ℕ) → list_any (is_kid_of parent) entries ≡ false → option_map number_of_kept (entry_at entries parent name) ≡ None
no-kids [] parent name none = refl
no-kids (kept ∷ entries) parent name none = in_ kept.place (list_any (is_kid_of parent) entries) none (no-kids entries parent name) where
  in_ : (place : Place) (others : Bool) → (is_in parent place || others) ≡ false → (others ≡ false → option_map number_of_kept (entry_at entries parent name) ≡ None) →
      option_map number_of_kept (if is_place parent name place then Some kept else entry_at entries parent name) ≡ None
  in_ (Unlinked file) others e rest = rest e
  in_ (Linked dir linked) true e rest = absurd (never (dir.0 == parent) e) where
    never : (b : Bool) → (b || true) ≡ false → ⊥
    never true e = let none : ⊥ = cc in none
    never false e = let none : ⊥ = cc in none
  in_ (Linked dir linked) false e rest = by (dir.0 == parent) (pointwise nat_eq linked name) e where
    by : (b c : Bool) → (b || false) ≡ false → option_map number_of_kept (if b && c then Some kept else entry_at entries parent name) ≡ None
    by true c e = absurd (let none : ⊥ = cc in none)
    by false c e = rest refl

module _ (served : ServedState) (is : IsTree served.tree) (sound : IsSound served) where
  -- no other number names the file of a number that is not live
  pub inode-unlive : (n : ℕ) (file : FileId) → (IsLive served n → ⊥) → Names served n file → IsInode served file unknown_inode
  inode-unlive n file unlive names = inr (refl, λ m live other. unlive (subst (IsLive served) (same-number served is sound m n file other names) live))

  module _ (parent : ℕ) (name : List ℕ) (dir file : FileId) (at : Names served parent dir) (child : child_of served.tree dir name ≡ Some file) where
    -- the number of a name names the file that the name gives
    pub place-names : (number : Number) → option_map number_of_kept (entry_at served.map.entries parent name) ≡ Some number → Names served number.0 file
    place-names number e = in_ (entry_at served.map.entries parent name) refl e where
      in_ : (o : Option Kept) → entry_at served.map.entries parent name ≡ o → option_map number_of_kept o ≡ Some number → Names served number.0 file
      in_ None there h = absurd (let none : ⊥ = cc in none)
      in_ (Some kept) there h =
          let same : kept.number ≡ number = cc in
          subst (λ (n : Number). Names served n.0 file) same (place-file served.tree served.map.next served.map.entries (sound-fits served sound) parent kept dir file name at child there)

    -- a name without a number gives a file of which none is live
    pub place-unknown : option_map number_of_kept (entry_at served.map.entries parent name) ≡ None → IsInode served file unknown_inode
    place-unknown e = in_ (entry_at served.map.entries parent name) refl e where
      in_ : (o : Option Kept) → entry_at served.map.entries parent name ≡ o → option_map number_of_kept o ≡ None → IsInode served file unknown_inode
      in_ (Some kept) there h = absurd (let none : ⊥ = cc in none)
      in_ None there h = inr (refl, λ m live other. no-place-no_file served.tree served.map.next served.map.entries is (sound-fits served sound) parent dir file name at child there m other)

  -- the number of the directory in which the file of a number stands
  pub parent-names : (n : ℕ) (file : FileId) (parent : Number) (name : List ℕ) → option_map place_of_kept (entry_of served.map.entries n) ≡ Some (Linked parent name) → Names served n file → NamesAbove served file parent.0
  parent-names n file parent name e names = in_ n file e names where
    place_is : (kept : Kept) (m : ℕ) (place : Place) → entry_of served.map.entries m ≡ Some kept → kept.place ≡ place → option_map place_of_kept (entry_of served.map.entries m) ≡ Some (Linked parent name) → place ≡ Linked parent name
    place_is kept m place there is_place h = let o : Some kept.place ≡ Some (Linked parent name) = sym (ap (option_map place_of_kept) there) ∙ h in cc

    in_ : (m : ℕ) (f : FileId) → option_map place_of_kept (entry_of served.map.entries m) ≡ Some (Linked parent name) → Names served m f → NamesAbove served f parent.0
    in_ m f h (is_root _ _ one root) = absurd (none_at_1 (entry_of served.map.entries m) refl) where
      none_at_1 : (o : Option Kept) → entry_of served.map.entries m ≡ o → ⊥
      none_at_1 None there = let o : option_map place_of_kept None ≡ Some (Linked parent name) = sym (ap (option_map place_of_kept) there) ∙ h in let none : ⊥ = cc in none
      none_at_1 (Some kept) there = let low = (numbers-entry served.map.entries 2 served.map.next m kept sound.numbers there).0 in omega arith
    in_ m f h (is_child _ _ kept dir its dir_file other there is_place at child) =
        let same : Linked dir its ≡ Linked parent name = place_is kept m (Linked dir its) there is_place h in
        let dirs : dir ≡ parent = cc in
        record { file = dir_file; names = subst (λ (d : Number). Names served d.0 dir_file) dirs at; above = inl (its, child) }
    in_ m f h (is_marked _ _ kept other there is_place) = absurd (let same = place_is kept m _ there is_place h in let none : ⊥ = cc in none)
