-- What taking a name away asks of the numbers: that of its file is linked, and nothing stands in its directory.
use Rattle.std.proofs.Common.{◌≡◌, ℕ, Bool, true, false, cond, ◌||◌, List, [], ◌∷◌, Option, Some, None, refl, sym, ap, ◌∙◌, subst}
use Rattle.std.specs.List.{list_any}
use Rattle.std.specs.Option.{option_map, option_map_or}
use Rattle.std.specs.Prelude.{IfSome}
use Rattle.eden_base.proofs.MemberLemmas.{some-IsSome, first-passes}
use Rattle.eden_base.specs.declared.number.FileId.{FileId}
use Rattle.eden_base.specs.declared.number.Number.{Number}
use Rattle.eden_base.specs.declared.place.Place.{Place}
use Rattle.eden_base.specs.declared.place.Place.TheVariants.{Linked, Unlinked}
use Rattle.eden_base.specs.First.{first_where}
use Rattle.eden_base.proofs.NumberTests.{true-eq}
use Rattle.checkout.proofs.RemoveLaws.{no_links_below}
use Rattle.manifest.specs.Tree.{Tree, IsTree, child_of}
use Rattle.checkout.specs.ChangedTree.{is_full_dir, removed}
use Rattle.entry_table.proofs.EntryLemmas.{entry_of-first}
use Rattle.entry_table.proofs.FileLemmas.{IsFileOf-same, linked-child}
use Rattle.entry_table.proofs.Places.{stands-place}
use Rattle.entry_table.specs.Entries.{stands_at, entry_of, entry_at, is_in, is_kid_of, number_of_kept, IsFileOf, IsLinked}
use Rattle.inode_map.specs.InodeMap.{MapState, unlinked}
use Rattle.entry_table.specs.declared.kept.Kept.{Kept}
use Rattle.fuse_ops.specs.Changes.{MayLose}
use Rattle.fuse_ops.specs.Served.{ServedState, name_taken}
use Rattle.fuse_ops.specs.Soundness.{IsSound}
use Rattle.fuse_ops.proofs.Fits.{sound-fits, not-one, place-file}
use Rattle.fuse_ops.proofs.UnnamingLaw.{unnaming-keeps}

-- a member that passes, where one does
first_some : (es : List Kept) (q : Kept → Bool) → list_any q es ≡ true → (x : Kept) × (first_where q es ≡ Some x)
first_some [] q h = absurd (let none : ⊥ = cc in none)
first_some (y ∷ es) q h = in_ (q y) h (first_some es q) where
  in_ : (b : Bool) → (b || list_any q es) ≡ true → (list_any q es ≡ true → (x : Kept) × (first_where q es ≡ Some x)) → (x : Kept) × (cond b (Some y) (first_where q es) ≡ Some x)
  in_ true t rest = (y, refl)
  in_ false t rest = rest t

-- the place of a kid
kid_place : (n : ℕ) (place : Place) → is_in n place ≡ true → (name : List ℕ) × (place ≡ Linked (record { 0 = n }) name)
kid_place n (Linked dir name) h = (name, let same : dir.0 ≡ n = true-eq dir.0 n h in λ i. Linked (record { 0 = same i }) name)
kid_place n (Unlinked file) h = absurd (let none : ⊥ = cc in none)

module _ (served : ServedState) (number : Number) (dir : FileId) (name : List ℕ) (file : FileId) (may : MayLose served number dir name file) (kept : Kept) (there : entry_at served.map.entries number.0 name ≡ Some kept) where
  abbrev es : List Kept
  es = served.map.entries

  entry : entry_of es kept.number.0 ≡ Some kept
  entry = entry_of-first es 2 served.map.next (stands_at number.0 name) kept (may.sound).numbers there

  -- the number of the name is linked
  pub taken-linked : IsLinked served.map.entries kept.number.0
  taken-linked = (kept, number, name, entry, stands-place number.0 name kept (first-passes es (stands_at number.0 name) kept there))

  names : IsFileOf served.tree es kept.number.0 file
  names = place-file served.tree served.map.next es (sound-fits served may.sound) number.0 kept dir file name may.at may.child there

  -- a kid of it would stand at a name in its file, which has none
  no_kid : (x : Kept) → first_where (is_kid_of kept.number.0) es ≡ Some x → ⊥
  no_kid x e =
      let at = kid_place kept.number.0 x.place (first-passes es (is_kid_of kept.number.0) x e) in
      let here : entry_of es x.number.0 ≡ Some x = entry_of-first es 2 served.map.next (is_kid_of kept.number.0) x (may.sound).numbers e in
      let g = (may.sound).names_a_file x.number.0 (some-IsSome (entry_of es x.number.0) x here) in
      let c = linked-child served.tree es x.number.0 x (record { 0 = kept.number.0 }) at.0 g.0 (not-one es served.map.next x.number.0 x (may.sound).numbers here) here at.1 g.1 in
      let same : c.dir_file ≡ file = IsFileOf-same served.tree es kept.number.0 c.dir_file file c.at names in
      let some : child_of served.tree file at.0 ≡ Some g.0 = ap (λ (y : FileId). child_of served.tree y at.0) (sym same) ∙ c.child in
      let none : child_of served.tree file at.0 ≡ None = no_links_below served.tree file may.is_tree may.not_full at.0 in
      let x : ⊥ = cc in x

  pub taken-no_kids : list_any (is_kid_of kept.number.0) served.map.entries ≡ false
  taken-no_kids = in_ (list_any (is_kid_of kept.number.0) es) refl where
    in_ : (b : Bool) → list_any (is_kid_of kept.number.0) es ≡ b → b ≡ false
    in_ false e = refl
    in_ true e = let k = first_some es (is_kid_of kept.number.0) e in absurd (no_kid k.0 k.1)

-- ---- as the code meets it

-- what the fields say, and what was asked of the whole
pub may-lose : (served now : ServedState) (number : Number) (dir : FileId) (name : List ℕ) (file : FileId) → served ≡ now → IsTree served.tree → IsSound served → IsFileOf now.tree now.map.entries number.0 dir →
    child_of served.tree dir name ≡ Some file → IfSome (child_of now.tree dir name) (λ f. is_full_dir now.tree f ≡ false) → MayLose served number dir name file
may-lose served now number dir name file same is sound at child not_full = record {
  is_tree = is;
  sound = sound;
  at = subst (λ (s : ServedState). IsFileOf s.tree s.map.entries number.0 dir) (sym same) at;
  child = child;
  not_full = full_in (child_of served.tree dir name) child (subst (λ (s : ServedState). IfSome (child_of s.tree dir name) (λ f. is_full_dir s.tree f ≡ false)) (sym same) not_full);
} where
  full_in : (o : Option FileId) → o ≡ Some file → IfSome o (λ f. is_full_dir served.tree f ≡ false) → is_full_dir served.tree file ≡ false
  full_in None e h = absurd (let none : ⊥ = cc in none)
  full_in (Some f) e h = let is_file : f ≡ file = cc in subst (λ (x : FileId). is_full_dir served.tree x ≡ false) is_file h

-- what the number of the name may be asked, and what the map becomes
pub record IsTakenNumber (served : ServedState) (number : Number) (name : List ℕ) (file : FileId) (n : Number) : Type 0 where
  pub linked : IsLinked served.map.entries n.0
  pub no_kids : list_any (is_kid_of n.0) served.map.entries ≡ false
  pub makes : unlinked served.map n.0 file ≡ name_taken served.map number name file

pub taken-number : (served : ServedState) (number : Number) (dir : FileId) (name : List ℕ) (file : FileId) → MayLose served number dir name file → (n : Number) →
    Some n ≡ option_map number_of_kept (entry_at served.map.entries number.0 name) → IsTakenNumber served number name file n
taken-number served number dir name file may n e = in_ (entry_at served.map.entries number.0 name) refl e where
  in_ : (o : Option Kept) → entry_at served.map.entries number.0 name ≡ o → Some n ≡ option_map number_of_kept o → IsTakenNumber served number name file n
  in_ None there h = absurd (let none : ⊥ = cc in none)
  in_ (Some kept) there h =
      let same : kept.number ≡ n = (let s : Some n ≡ Some kept.number = h in let r : n ≡ kept.number = cc in sym r) in
      subst (λ (x : Number). IsTakenNumber served number name file x) same (record {
        linked = taken-linked served number dir name file may kept there;
        no_kids = taken-no_kids served number dir name file may kept there;
        makes = sym (ap (λ (o : Option Kept). option_map_or (λ (x : Kept). unlinked served.map x.number.0 file) o served.map) there);
      })

-- a name without a number leaves the map
pub taken-none : (map : MapState) (number : Number) (name : List ℕ) (file : FileId) → None ≡ option_map number_of_kept (entry_at map.entries number.0 name) → name_taken map number name file ≡ map
taken-none map number name file e = in_ (entry_at map.entries number.0 name) e where
  in_ : (o : Option Kept) → None ≡ option_map number_of_kept o → option_map_or (λ (x : Kept). unlinked map x.number.0 file) o map ≡ map
  in_ None h = refl
  in_ (Some kept) h = absurd (let none : ⊥ = cc in none)

-- what the daemon knows after it fits together
pub taken-sound : (served : ServedState) (number : Number) (dir : FileId) (name : List ℕ) (file : FileId) (map : MapState) (tree : Tree) → MayLose served number dir name file → map ≡ name_taken served.map number name file →
    tree ≡ removed served.tree dir name → IsSound (record { map = map; tree = tree })
taken-sound served number dir name file map tree may m t =
    subst (λ (s : ServedState). IsSound s) (λ i. record { map = sym m i; tree = sym t i }) (unnaming-keeps served number dir name file may).sound
