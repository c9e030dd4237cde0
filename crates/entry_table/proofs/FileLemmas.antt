-- What a number names, as entries come, change and go.
use Rattle.std.proofs.Common.{◌≡◌, ℕ, List, Some, None, sym, ap, ◌∙◌, subst, inl, inr, ◌⊎◌}
use Rattle.eden_base.proofs.MemberLemmas.{some-same, some-none}
use Rattle.eden_base.specs.First.{without_where}
use Rattle.eden_base.specs.declared.number.FileId.{FileId}
use Rattle.eden_base.specs.declared.number.Number.{Number}
use Rattle.eden_base.specs.declared.place.Place.{Place}
use Rattle.eden_base.specs.declared.place.Place.TheVariants.{Linked, Unlinked}
use Rattle.manifest.specs.Tree.{Tree, child_of}
use Rattle.entry_table.specs.Entries.{has_number, entry_of, IsFileOf, is_root, is_child, is_marked}
use Rattle.entry_table.specs.declared.kept.Kept.{Kept}
use Rattle.entry_table.proofs.EntryLemmas.{without-other}

-- a linked place is no mark, and gives one directory and name
pub linked-marked : (place : Place) (dir : Number) (name : List ℕ) (file : FileId) → place ≡ Linked dir name → place ≡ Unlinked file → ⊥
linked-marked place dir name file e f = let s : Linked dir name ≡ Unlinked file = sym e ∙ f in let none : ⊥ = cc in none

pub linked-dir : (place : Place) (dir other : Number) (name named : List ℕ) → place ≡ Linked dir name → place ≡ Linked other named → dir.0 ≡ other.0
linked-dir place dir other name named e f = let s : Linked dir name ≡ Linked other named = sym e ∙ f in let d : dir ≡ other = cc in ap (λ (n : Number). n.0) d

pub linked-name : (place : Place) (dir other : Number) (name named : List ℕ) → place ≡ Linked dir name → place ≡ Linked other named → name ≡ named
linked-name place dir other name named e f = let s : Linked dir name ≡ Linked other named = sym e ∙ f in cc

marked-file : (place : Place) (file other : FileId) → place ≡ Unlinked file → place ≡ Unlinked other → file ≡ other
marked-file place file other e f = let s : Unlinked file ≡ Unlinked other = sym e ∙ f in cc

-- A number names one file.
pub IsFileOf-same : (tree : Tree) (es : List Kept) (n : ℕ) (file other : FileId) → IsFileOf tree es n file → IsFileOf tree es n other → file ≡ other
IsFileOf-same tree es n file other (is_root _ _ one is) (is_root _ _ one' is') = is ∙ sym is'
IsFileOf-same tree es n file other (is_root _ _ one is) (is_child _ _ kept dir name above not e l up c) = absurd (not one)
IsFileOf-same tree es n file other (is_root _ _ one is) (is_marked _ _ kept not e l) = absurd (not one)
IsFileOf-same tree es n file other (is_child _ _ kept dir name above not e l up c) (is_root _ _ one is) = absurd (not one)
IsFileOf-same tree es n file other (is_marked _ _ kept not e l) (is_root _ _ one is) = absurd (not one)
IsFileOf-same tree es n file other (is_child _ _ kept dir name above not e l up c) (is_marked _ _ kept' not' e' l') =
    absurd (linked-marked kept.place dir name other l (ap (λ (k : Kept). k.place) (some-same (entry_of es n) kept kept' e e') ∙ l'))
IsFileOf-same tree es n file other (is_marked _ _ kept not e l) (is_child _ _ kept' dir name above not' e' l' up c) =
    absurd (linked-marked kept'.place dir name file l' (ap (λ (k : Kept). k.place) (some-same (entry_of es n) kept' kept e' e) ∙ l))
IsFileOf-same tree es n file other (is_marked _ _ kept not e l) (is_marked _ _ kept' not' e' l') =
    marked-file kept.place file other l (ap (λ (k : Kept). k.place) (some-same (entry_of es n) kept kept' e e') ∙ l')
IsFileOf-same tree es n file other (is_child _ _ kept dir name above not e l up c) (is_child _ _ kept' dir' name' above' not' e' l' up' c') =
    let same : kept.place ≡ Linked dir' name' = ap (λ (k : Kept). k.place) (some-same (entry_of es n) kept kept' e e') ∙ l' in
    let d : dir.0 ≡ dir'.0 = linked-dir kept.place dir dir' name name' l same in
    let a : above ≡ above' = IsFileOf-same tree es dir.0 above above' up (subst (λ (m : ℕ). IsFileOf tree es m above') (sym d) up') in
    let b : name ≡ name' = linked-name kept.place dir dir' name name' l same in
    let s : Some file ≡ Some other = sym c ∙ (ap (λ (f : FileId). child_of tree f name) a ∙ ap (λ (m : List ℕ). child_of tree above' m) b) ∙ c' in
    cc

-- the entries of a list are in another, at their places
abbrev pub Extends : List Kept → List Kept → Type 0
Extends old new = (n : ℕ) (kept : Kept) → entry_of old n ≡ Some kept → (now : Kept) × (entry_of new n ≡ Some now) × (now.place ≡ kept.place)

-- What a number names it names among more entries, and among changed ones whose places stay.
pub IsFileOf-extended : (tree : Tree) (old new : List Kept) (n : ℕ) (file : FileId) → Extends old new → IsFileOf tree old n file → IsFileOf tree new n file
IsFileOf-extended tree old new n file ext (is_root _ _ one is) = is_root n file one is
IsFileOf-extended tree old new n file ext (is_child _ _ kept dir name above not e l up c) = let now = ext n kept e in
    is_child n file now.0 dir name above not now.1 (now.2 ∙ l) (IsFileOf-extended tree old new dir.0 above ext up) c
IsFileOf-extended tree old new n file ext (is_marked _ _ kept not e l) = let now = ext n kept e in is_marked n file now.0 not now.1 (now.2 ∙ l)

-- What a number names it names without another one in whose directory nothing stands.
pub IsFileOf-left : (tree : Tree) (es : List Kept) (n m : ℕ) (file : FileId) → ((k : ℕ) (kept : Kept) (dir : Number) (name : List ℕ) → entry_of es k ≡ Some kept → kept.place ≡ Linked dir name → dir.0 ≡ n → ⊥) →
    (m ≡ n → ⊥) → IsFileOf tree es m file → IsFileOf tree (without_where (has_number n) es) m file
IsFileOf-left tree es n m file alone other (is_root _ _ one is) = is_root m file one is
IsFileOf-left tree es n m file alone other (is_child _ _ kept dir name above not e l up c) =
    is_child m file kept dir name above not (without-other es n m other ∙ e) l (IsFileOf-left tree es n dir.0 above alone (alone m kept dir name e l) up) c
IsFileOf-left tree es n m file alone other (is_marked _ _ kept not e l) = is_marked m file kept not (without-other es n m other ∙ e) l

-- what is neither the root nor an entry names no file
pub unknown-no_file : (tree : Tree) (es : List Kept) (n : ℕ) (file : FileId) → (n ≡ 1 → ⊥) → entry_of es n ≡ None → IsFileOf tree es n file → ⊥
unknown-no_file tree es n file other none (is_root _ _ one is) = other one
unknown-no_file tree es n file other none (is_child _ _ kept dir name above not e l up c) = some-none (entry_of es n) kept e none
unknown-no_file tree es n file other none (is_marked _ _ kept not e l) = some-none (entry_of es n) kept e none

-- so what names a file is known
pub named-known : (tree : Tree) (es : List Kept) (n : ℕ) (file : FileId) → IsFileOf tree es n file → (n ≡ 1) ⊎ ((kept : Kept) × (entry_of es n ≡ Some kept))
named-known tree es n file (is_root _ _ one is) = inl one
named-known tree es n file (is_child _ _ kept dir name above not e l up c) = inr (kept, e)
named-known tree es n file (is_marked _ _ kept not e l) = inr (kept, e)

-- the file of a linked entry is the child of its directory's file
pub record IsChildOf (tree : Tree) (es : List Kept) (dir : ℕ) (name : List ℕ) (file : FileId) : Type 0 where
  pub dir_file : FileId
  pub at : IsFileOf tree es dir dir_file
  pub child : child_of tree dir_file name ≡ Some file

pub linked-child : (tree : Tree) (es : List Kept) (n : ℕ) (kept : Kept) (dir : Number) (name : List ℕ) (file : FileId) → (n ≡ 1 → ⊥) → entry_of es n ≡ Some kept → kept.place ≡ Linked dir name →
    IsFileOf tree es n file → IsChildOf tree es dir.0 name file
linked-child tree es n kept dir name file other entry linked (is_root _ _ one is) = absurd (other one)
linked-child tree es n kept dir name file other entry linked (is_marked _ _ kept' not e l) =
    absurd (linked-marked kept.place dir name file linked (ap (λ (k : Kept). k.place) (some-same (entry_of es n) kept kept' entry e) ∙ l))
linked-child tree es n kept dir name file other entry linked (is_child _ _ kept' dir' name' above not e l up c) =
    let same : kept.place ≡ Linked dir' name' = ap (λ (k : Kept). k.place) (some-same (entry_of es n) kept kept' entry e) ∙ l in
    let d : dir.0 ≡ dir'.0 = linked-dir kept.place dir dir' name name' linked same in
    let b : name ≡ name' = linked-name kept.place dir dir' name name' linked same in
    record { dir_file = above; at = subst (λ (m : ℕ). IsFileOf tree es m above) (sym d) up; child = ap (λ (m : List ℕ). child_of tree above m) b ∙ c }

-- the file of a mark
pub marked-same : (tree : Tree) (es : List Kept) (n : ℕ) (kept : Kept) (file marked : FileId) → (n ≡ 1 → ⊥) → entry_of es n ≡ Some kept → kept.place ≡ Unlinked marked → IsFileOf tree es n file → file ≡ marked
marked-same tree es n kept file marked other entry unlinked at = IsFileOf-same tree es n file marked at (is_marked n marked kept other entry unlinked)
