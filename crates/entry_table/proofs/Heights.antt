-- How many directories lie above a number: no more than there are entries.
use Rattle.std.proofs.Common.{◌≡◌, ℕ, zero, suc, ◌<◌, ◌≤◌, List, Some, refl, sym, ap, ◌∙◌, subst, arith, length}
use Rattle.eden_base.proofs.MemberLemmas.{some-same, length-without_where}
use Rattle.eden_base.specs.First.{without_where}
use Rattle.eden_base.specs.declared.number.FileId.{FileId}
use Rattle.eden_base.specs.declared.number.Number.{Number}
use Rattle.eden_base.specs.declared.place.Place.TheVariants.{Linked, Unlinked}
use Rattle.manifest.specs.Tree.{Tree}
use Rattle.entry_table.specs.Entries.{has_number, entry_of, IsFileOf, is_root, is_child, is_marked}
use Rattle.entry_table.specs.declared.kept.Kept.{Kept}
use Rattle.entry_table.proofs.EntryLemmas.{without-other}
use Rattle.entry_table.proofs.FileLemmas.{linked-marked, linked-dir}

-- how many directories lie above the number
pub data HasHeight (es : List Kept) : ℕ → ℕ → Type 0 where
  at_root : (n h : ℕ) → n ≡ 1 → h ≡ 0 → HasHeight es n h
  in_none : (n h : ℕ) (kept : Kept) (file : FileId) → (n ≡ 1 → ⊥) → entry_of es n ≡ Some kept → kept.place ≡ Unlinked file → h ≡ 0 → HasHeight es n h
  in_dir : (n h : ℕ) (kept : Kept) (dir : Number) (name : List ℕ) (k : ℕ) → (n ≡ 1 → ⊥) → entry_of es n ≡ Some kept → kept.place ≡ Linked dir name →
      HasHeight es dir.0 k → h ≡ suc k → HasHeight es n h

-- what names a file has a height
pub named-height : (tree : Tree) (es : List Kept) (n : ℕ) (file : FileId) → IsFileOf tree es n file → (h : ℕ) × HasHeight es n h
named-height tree es n file (is_root _ _ one is) = (0, at_root n 0 one refl)
named-height tree es n file (is_child _ _ kept dir name above not e l up c) = let r = named-height tree es dir.0 above up in (suc r.0, in_dir n (suc r.0) kept dir name r.0 not e l r.1 refl)
named-height tree es n file (is_marked _ _ kept not e l) = (0, in_none n 0 kept file not e l refl)

-- and one alone
pub height-same : (es : List Kept) (n h k : ℕ) → HasHeight es n h → HasHeight es n k → h ≡ k
height-same es n h k (at_root _ _ one z) (at_root _ _ one' z') = z ∙ sym z'
height-same es n h k (at_root _ _ one z) (in_none _ _ kept file not e l z') = absurd (not one)
height-same es n h k (at_root _ _ one z) (in_dir _ _ kept dir name j not e l up s) = absurd (not one)
height-same es n h k (in_none _ _ kept file not e l z) (at_root _ _ one z') = absurd (not one)
height-same es n h k (in_none _ _ kept file not e l z) (in_none _ _ kept' file' not' e' l' z') = z ∙ sym z'
height-same es n h k (in_none _ _ kept file not e l z) (in_dir _ _ kept' dir name j not' e' l' up s) =
    absurd (linked-marked kept'.place dir name file l' (ap (λ (x : Kept). x.place) (some-same (entry_of es n) kept' kept e' e) ∙ l))
height-same es n h k (in_dir _ _ kept dir name j not e l up s) (at_root _ _ one z) = absurd (not one)
height-same es n h k (in_dir _ _ kept dir name j not e l up s) (in_none _ _ kept' file not' e' l' z) =
    absurd (linked-marked kept.place dir name file l (ap (λ (x : Kept). x.place) (some-same (entry_of es n) kept kept' e e') ∙ l'))
height-same es n h k (in_dir _ _ kept dir name j not e l up s) (in_dir _ _ kept' dir' name' j' not' e' l' up' s') =
    let same : dir.0 ≡ dir'.0 = linked-dir kept.place dir dir' name name' l (ap (λ (x : Kept). x.place) (some-same (entry_of es n) kept kept' e e') ∙ l') in
    s ∙ ap suc (height-same es dir.0 j j' up (subst (λ (m : ℕ). HasHeight es m j') (sym same) up')) ∙ sym s'

-- what lies lower than a number doesn't need it
pub height-without : (es : List Kept) (n k m h : ℕ) → HasHeight es n k → h < k → HasHeight es m h → HasHeight (without_where (has_number n) es) m h
height-without es n k m h at low (at_root _ _ one z) = at_root m h one z
height-without es n k m h at low (in_none _ _ kept file not e l z) =
    in_none m h kept file not (without-other es n m (λ s. let same : h ≡ k = height-same es m h k (in_none m h kept file not e l z) (subst (λ (j : ℕ). HasHeight es j k) (sym s) at) in omega arith) ∙ e) l z
height-without es n k m h at low (in_dir _ _ kept dir name j not e l up s) =
    in_dir m h kept dir name j not
    (without-other es n m (λ t. let same : h ≡ k = height-same es m h k (in_dir m h kept dir name j not e l up s) (subst (λ (i : ℕ). HasHeight es i k) (sym t) at) in omega arith) ∙ e) l
    (height-without es n k dir.0 j at (omega arith) up) s

-- No number comes again above itself, so no more directories lie above one than there are entries.
pub height-bound : (h : ℕ) (es : List Kept) (n : ℕ) → HasHeight es n h → h ≤ length es
height-bound zero es n at = omega arith
height-bound (suc h) es n (at_root _ _ one z) = absurd (omega arith)
height-bound (suc h) es n (in_none _ _ kept file not e l z) = absurd (omega arith)
height-bound (suc h) es n (in_dir _ _ kept dir name k not e l up s) =
    let same : k ≡ h = omega arith in
    let at : HasHeight es dir.0 h = subst (λ (j : ℕ). HasHeight es dir.0 j) same up in
    let rest : h ≤ length (without_where (has_number n) es) = height-bound h (without_where (has_number n) es) dir.0
    (height-without es n (suc h) dir.0 h (in_dir n (suc h) kept dir name k not e l up s) (omega arith) at) in
    let long : suc (length (without_where (has_number n) es)) ≡ length es = length-without_where es (has_number n) kept e in
    omega arith
