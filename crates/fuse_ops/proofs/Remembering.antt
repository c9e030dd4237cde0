-- What is remembered of numbers stays right, whatever a daemon is asked.
use Rattle.std.proofs.Common.{◌≡◌, ℕ, ◌+◌, ◌-◌, Bool, true, false, List, [], ◌∷◌, ◌++◌, Option, Some, None, is_some, cond, refl, sym, ap, ◌∙◌, subst, inl, inr, ◌⊎◌, arith, Ordering, Less, Equal, Greater}
use Rattle.std.specs.BTreeMap.{insert_entry}
use Rattle.std.specs.List.{filter}
use Rattle.std.specs.Option.{option_map_or}
use Rattle.std.specs.Ordering.{nat_cmp, match_ordering}
use Rattle.std.specs.FinMap.{nat_cmp-IsAntisymmetric}
use Rattle.std.proofs.lemmas.Map.Entries.{lookup-filter-keys}
use Rattle.std.specs.Prelude.{◌==◌, ◌^◌, min, IsSome, if◌then◌else◌}
use Rattle.eden_base.proofs.MemberLemmas.{some-IsSome}
use Rattle.eden_base.proofs.NumberTests.{eq-or, true-eq, false-ne}
use Rattle.eden_base.specs.First.{changed_where}
use Rattle.eden_base.specs.declared.number.FileId.{FileId}
use Rattle.eden_base.specs.declared.number.Number.{Number}
use Rattle.manifest.specs.Tree.{Tree, IsTree, root}
use Rattle.checkout.specs.ChangedTree.{removed}
use Rattle.entry_table.proofs.FileLemmas.{IsFileOf-same, named-known}
use Rattle.entry_table.specs.Entries.{entry_of, entry_at, is_kept, is_bad_item, lowered, has_number, marked, stands_at, once_more, new_entry, file_remembered, remembered, IsFileOf, is_root}
use Rattle.inode_map.specs.InodeMap.{MapState, left_with, left_of_use, given, forgotten, unlinked}
use Rattle.entry_table.specs.declared.kept.Kept.{Kept}
use Rattle.fuse_ops.specs.Changes.{KeepsNames, MayLose}
use Rattle.fuse_ops.specs.Gifts.{served_over, Gave, GaveOldOrNext}
use Rattle.fuse_ops.specs.Served.{ServedState, PlainState, plain, name_taken}
use Rattle.fuse_ops.specs.Soundness.{IsSound, Names, AreRemembered}
use Rattle.fuse_ops.proofs.ForgettingLaw.{forgets-well}
use Rattle.fuse_ops.proofs.Keeping.{forgotten-sound}
use Rattle.fuse_ops.proofs.Known.{named-range}
use Rattle.fuse_ops.proofs.UnnamingLaw.{unnaming-keeps}

-- numbers that compare as equal
equal-numbers : (k n : ℕ) → nat_cmp k n ≡ Equal → k ≡ n
equal-numbers k n e = nat_cmp-IsAntisymmetric k n e

-- ---- one more is remembered

-- what is remembered then is that one, or was remembered before
pub remembered-which : (files : List (ℕ × FileId)) (n : ℕ) (file : FileId) (m : ℕ) (f : FileId) → file_remembered (remembered files n file) m ≡ Some f →
    ((m ≡ n) × (f ≡ file)) ⊎ (file_remembered files m ≡ Some f)
remembered-which files n file m f h = in_ files h where
  here : (k : ℕ) (rest : List (ℕ × FileId)) → k ≡ n → cond (k == m) (Some file) (file_remembered rest m) ≡ Some f → ((m ≡ n) × (f ≡ file)) ⊎ (file_remembered rest m ≡ Some f)
  here k rest same e = by_test (k == m) refl e where
    by_test : (b : Bool) → (k == m) ≡ b → cond b (Some file) (file_remembered rest m) ≡ Some f → ((m ≡ n) × (f ≡ file)) ⊎ (file_remembered rest m ≡ Some f)
    by_test false t e = inr e
    by_test true t e = let is : k ≡ m = true-eq k m t in let s : file ≡ f = cc in inl (sym is ∙ same, sym s)

  skip : (k : ℕ) (g : FileId) (rest : List (ℕ × FileId)) → (file_remembered rest m ≡ Some f) → ((m ≡ n) × (f ≡ file)) ⊎ (file_remembered rest m ≡ Some f)
  skip k g rest e = inr e

  in_ : (es : List (ℕ × FileId)) → file_remembered (remembered es n file) m ≡ Some f → ((m ≡ n) × (f ≡ file)) ⊎ (file_remembered es m ≡ Some f)
  in_ [] e = here n [] refl e
  in_ ((k, g) ∷ es) e = by_order (nat_cmp n k) refl e (in_ es) where
    by_order : (o : Ordering) → nat_cmp n k ≡ o → file_remembered (match_ordering o ((n, file) ∷ (k, g) ∷ es) ((k, file) ∷ es) ((k, g) ∷ insert_entry nat_cmp es n file)) m ≡ Some f →
        (file_remembered (remembered es n file) m ≡ Some f → ((m ≡ n) × (f ≡ file)) ⊎ (file_remembered es m ≡ Some f)) → ((m ≡ n) × (f ≡ file)) ⊎ (file_remembered ((k, g) ∷ es) m ≡ Some f)
    by_order Less c e later = here n ((k, g) ∷ es) refl e
    by_order Equal c e later = by_test (k == m) refl e where
      by_test : (b : Bool) → (k == m) ≡ b → cond b (Some file) (file_remembered es m) ≡ Some f → ((m ≡ n) × (f ≡ file)) ⊎ (cond b (Some g) (file_remembered es m) ≡ Some f)
      by_test true t e = let is : k ≡ m = true-eq k m t in let s : file ≡ f = cc in inl (sym is ∙ sym (equal-numbers n k c), sym s)
      by_test false t e = inr e
    by_order Greater c e later = by_test (k == m) refl e where
      by_test : (b : Bool) → (k == m) ≡ b → cond b (Some g) (file_remembered (remembered es n file) m) ≡ Some f → ((m ≡ n) × (f ≡ file)) ⊎ (cond b (Some g) (file_remembered es m) ≡ Some f)
      by_test true t e = inr e
      by_test false t e = later e

-- what is remembered is right, if the file that is added is the one that its number names
pub remembers : (served : ServedState) (n : ℕ) (file : FileId) → Names served n file → AreRemembered served → AreRemembered (record served { map = record served.map { remembered = remembered served.map.remembered n file } })
remembers served n file names right m f h = in_ (remembered-which served.map.remembered n file m f h) where
  in_ : ((m ≡ n) × (f ≡ file)) ⊎ (file_remembered served.map.remembered m ≡ Some f) → Names served m f
  in_ (inl (same, is)) = subst (λ (k : ℕ). Names served k f) (sym same) (subst (λ (x : FileId). Names served n x) (sym is) names)
  in_ (inr before) = right m f before

-- the same, of a map that became another
pub remembers-in : (tree : Tree) (map now : MapState) (n : ℕ) (file : FileId) → now ≡ record map { remembered = remembered map.remembered n file } → IsFileOf tree map.entries n file →
    AreRemembered (served_over tree map) → AreRemembered (served_over tree now)
remembers-in tree map now n file e names right = subst (λ (m : MapState). AreRemembered (served_over tree m)) (sym e) (remembers (served_over tree map) n file names right)

-- ---- a number is given

-- what was given is known
pub gave-entry : (tree : Tree) (old new : MapState) (n : ℕ) (file : FileId) → Gave tree old new n file → IsSome (entry_of new.entries n)
gave-entry tree old new n file g = in_ (named-known tree new.entries n file g.names) where
  in_ : (n ≡ 1) ⊎ ((kept : Kept) × (entry_of new.entries n ≡ Some kept)) → IsSome (entry_of new.entries n)
  in_ (inl one) = absurd (let low = g.low in let none : ⊥ = omega arith in none)
  in_ (inr (kept, e)) = some-IsSome (entry_of new.entries n) kept e

-- what was named before is named still
pub gave-keeps : (tree : Tree) (old new : MapState) (n : ℕ) (file : FileId) → IsSound (served_over tree old) → Gave tree old new n file → (m : ℕ) (f : FileId) → IsFileOf tree old.entries m f → IsFileOf tree new.entries m f
gave-keeps tree old new n file sound g m f at = in_ (eq-or m n) where
  same_in : m ≡ n → GaveOldOrNext tree old new n file → IsFileOf tree new.entries m f
  same_in same (inl (was, next)) =
      let is : f ≡ file = IsFileOf-same tree old.entries n f file (subst (λ (k : ℕ). IsFileOf tree old.entries k f) same at) was in
      subst (λ (k : ℕ). IsFileOf tree new.entries k f) (sym same) (subst (λ (x : FileId). IsFileOf tree new.entries n x) (sym is) g.names)
  same_in same (inr (is, next)) = absurd (let low = (named-range (served_over tree old) sound m f at).1 in let none : ⊥ = omega arith in none)

  in_ : (m ≡ n) ⊎ (m ≡ n → ⊥) → IsFileOf tree new.entries m f
  in_ (inl same) = same_in same g.old_or_next
  in_ (inr other) = (g.others_name m f other).1 at

pub gave-remembers : (tree : Tree) (old new : MapState) (n : ℕ) (file : FileId) → IsSound (served_over tree old) → Gave tree old new n file → new.remembered ≡ old.remembered → AreRemembered (served_over tree old) → AreRemembered (served_over tree new)
gave-remembers tree old new n file sound g same right m f h =
    gave-keeps tree old new n file sound g m f (right m f (ap (λ (files : List (ℕ × FileId)). file_remembered files m) (sym same) ∙ h))

-- giving remembers nothing
pub given-remembered : (map : MapState) (dir : Number) (name : List ℕ) → (given map dir name).remembered ≡ map.remembered
given-remembered map dir name = in_ (is_some (entry_at map.entries dir.0 name)) where
  in_ : (b : Bool) → (if b then record map { entries = changed_where (stands_at dir.0 name) once_more map.entries } else record map { entries = map.entries ++ new_entry map.next dir name ∷ []; next = map.next + 1; spare = 0 }).remembered ≡ map.remembered
  in_ true = refl
  in_ false = refl

-- the same remembered files are right in a state that is plainly the same
pub plainly-remembers : (old new : ServedState) → plain new ≡ plain old → new.map.remembered ≡ old.map.remembered → AreRemembered old → AreRemembered new
plainly-remembers old new e r right m f h =
    subst (λ (p : PlainState). IsFileOf p.tree p.entries m f) (sym e) (right m f (ap (λ (files : List (ℕ × FileId)). file_remembered files m) (sym r) ∙ h))

-- ---- entries leave, or the tree changes

-- the number is the root's, or has an entry
abbrev pub IsIn : List Kept → ℕ → Type 0
IsIn es m = (m ≡ 1) ⊎ ((kept : Kept) × (entry_of es m ≡ Some kept))

-- a number that stays names what it named, where what is named now was named before
pub still-named : (old new : ServedState) → IsSound new → ((m : ℕ) (f : FileId) → Names new m f → Names old m f) → (n : ℕ) (file : FileId) → Names old n file → IsIn new.map.entries n → Names new n file
still-named old new sound names n file at (inl one) =
    let is : file ≡ root = IsFileOf-same old.tree old.map.entries n file root at (is_root n root one refl) in
    is_root n file one is
still-named old new sound names n file at (inr (kept, e)) =
    let g = sound.names_a_file n (some-IsSome (entry_of new.map.entries n) kept e) in
    let is : g.0 ≡ file = IsFileOf-same old.tree old.map.entries n g.0 file (names n g.0 g.1) at in
    subst (λ (f : FileId). Names new n f) is g.1

-- what is remembered of numbers that stay
pub left-remembers : (old new : ServedState) → IsSound new → ((m : ℕ) (f : FileId) → Names new m f → Names old m f) →
    ((m : ℕ) (f : FileId) → file_remembered new.map.remembered m ≡ Some f → Names old m f × IsIn new.map.entries m) → AreRemembered new
left-remembers old new sound names left n file h = let was = left n file h in still-named old new sound names n file was.0 was.1

-- with an entry goes what is remembered of it
left-file : (es : List Kept) (files : List (ℕ × FileId)) (m : ℕ) (f : FileId) → file_remembered (filter (λ (x : ℕ × FileId). is_kept es x.0) files) m ≡ Some f → (file_remembered files m ≡ Some f) × IsIn es m
left-file es files m f h = in_ (entry_of es m) refl where
  same : (o : Option Kept) → entry_of es m ≡ o → file_remembered (filter (λ (x : ℕ × FileId). is_kept es x.0) files) m ≡ cond (is_some o) (file_remembered files m) None
  same o e = lookup-filter-keys (λ k. k == m) (is_kept es) (is_some o) (λ k t. ap (is_kept es) (true-eq k m t) ∙ ap is_some e) files

  in_ : (o : Option Kept) → entry_of es m ≡ o → (file_remembered files m ≡ Some f) × IsIn es m
  in_ None e = absurd (let gone = same None e in let none : ⊥ = cc (gone, h) in none)
  in_ (Some kept) e = (sym (same (Some kept) e) ∙ h, inr (kept, e))

pub left_with-remembers : (old new : ServedState) (es : List Kept) → new.map.entries ≡ es → new.map.remembered ≡ filter (λ (x : ℕ × FileId). is_kept es x.0) old.map.remembered →
    IsSound new → ((m : ℕ) (f : FileId) → Names new m f → Names old m f) → AreRemembered old → AreRemembered new
left_with-remembers old new es e r sound names right = left-remembers old new sound names (λ m f h.
    let was = left-file es old.map.remembered m f (ap (λ (files : List (ℕ × FileId)). file_remembered files m) (sym r) ∙ h) in
    (right m f was.0, subst (λ (xs : List Kept). IsIn xs m) (sym e) was.1))

-- what is remembered is right if neither entries nor what is remembered changed
pub stays-remembers : (old new : ServedState) → new.map.entries ≡ old.map.entries → new.map.remembered ≡ old.map.remembered → IsSound new → ((m : ℕ) (f : FileId) → Names new m f → Names old m f) →
    AreRemembered old → AreRemembered new
stays-remembers old new e r sound names right = left-remembers old new sound names (λ m f h.
    let at = right m f (ap (λ (files : List (ℕ × FileId)). file_remembered files m) (sym r) ∙ h) in
    (at, subst (λ (xs : List Kept). IsIn xs m) (sym e) (named-known old.tree old.map.entries m f at)))

-- what is remembered is right after an item of a forget
pub forgotten-remembers : (served : ServedState) (n k : ℕ) → IsTree served.tree → IsSound served → AreRemembered served → AreRemembered (served_over served.tree (forgotten served.map n k))
forgotten-remembers served n k is sound right = in_ (n == 1) (is_bad_item served.map.entries n k) refl refl (forgotten-sound served n k is sound) where
  after : Bool → Bool → ServedState
  after b c = served_over served.tree (
      if b then served.map
      else if c then record served.map { bad_items = min (served.map.bad_items + 1) (2 ^ 64 - 1) }
      else left_with (left_of_use (lowered served.map.entries n k)) served.map)

  in_ : (b c : Bool) → (n == 1) ≡ b → is_bad_item served.map.entries n k ≡ c → IsSound (after (n == 1) (is_bad_item served.map.entries n k)) → AreRemembered (after (n == 1) (is_bad_item served.map.entries n k))
  in_ true c e f fits = rw (e) right
  in_ false true e f fits = rw (e, f) right
  in_ false false e f fits =
      let lowers = forgets-well served n k is sound (false-ne n 1 e) f in
      let made : after (n == 1) (is_bad_item served.map.entries n k) ≡ after false false = ap (λ (b : Bool). after b (is_bad_item served.map.entries n k)) e ∙ ap (after false) f in
      subst AreRemembered (sym made) (left_with-remembers served (after false false) (left_of_use (lowered served.map.entries n k)) refl refl (subst IsSound made fits)
      (λ m g at. lowers.1.left_name m g (subst (λ (s : ServedState). Names s m g) (sym made) at)) right)

-- ---- names change

-- a name is taken away
pub taken-remembers : (served : ServedState) (number : Number) (dir : FileId) (name : List ℕ) (file : FileId) (map : MapState) (tree : Tree) → MayLose served number dir name file → map ≡ name_taken served.map number name file →
    tree ≡ removed served.tree dir name → AreRemembered served → AreRemembered (record { map = map; tree = tree })
taken-remembers served number dir name file map tree may m t right =
    subst (λ (s : ServedState). AreRemembered s) (λ i. record { map = sym m i; tree = sym t i }) (in_ (entry_at served.map.entries number.0 name) refl (unnaming-keeps served number dir name file may)) where
      after : Option Kept → ServedState
      after o = record { map = option_map_or (λ (x : Kept). unlinked served.map x.number.0 file) o served.map; tree = removed served.tree dir name }

      in_ : (o : Option Kept) → entry_at served.map.entries number.0 name ≡ o → KeepsNames served (after (entry_at served.map.entries number.0 name)) → AreRemembered (after (entry_at served.map.entries number.0 name))
      in_ None e keeps =
          let k = subst (λ (o : Option Kept). KeepsNames served (after o)) e keeps in
          subst (λ (o : Option Kept). AreRemembered (after o)) (sym e) (stays-remembers served (after None) refl refl k.sound k.names right)
      in_ (Some kept) e keeps =
          let k = subst (λ (o : Option Kept). KeepsNames served (after o)) e keeps in
          subst (λ (o : Option Kept). AreRemembered (after o)) (sym e)
          (left_with-remembers served (after (Some kept)) (left_of_use (changed_where (has_number kept.number.0) (marked file) served.map.entries)) refl refl k.sound k.names right)
