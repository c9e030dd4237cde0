-- Ways up from a number, one step after another.
use Rattle.std.proofs.Common.{◌≡◌, ℕ, Bool, true, false, not, suc, ◌+◌, ◌≤◌, List, [], ◌∷◌, ◌++◌, None, Some, refl, sym, ap, ◌∙◌, subst, arith, length, length-append}
use Rattle.std.specs.Prelude.{◌==◌}
use Rattle.eden_base.proofs.MemberLemmas.{some-same}
use Rattle.eden_base.proofs.NumberTests.{eq-true, true-eq}
use Rattle.eden_base.specs.declared.number.FileId.{FileId}
use Rattle.eden_base.specs.declared.number.Number.{Number}
use Rattle.eden_base.specs.declared.place.Place.TheVariants.{Linked, Unlinked}
use Rattle.manifest.specs.Tree.{Tree, child_of}
use Rattle.entry_table.specs.EntryPlaces.{StepsUp, Climbs}
use Rattle.entry_table.specs.Entries.{entry_of, IsFileOf, is_child}
use Rattle.entry_table.specs.declared.kept.Kept.{Kept}
use Rattle.entry_table.proofs.FileLemmas.{IsFileOf-same, linked-child, linked-marked, linked-dir, linked-name, unknown-no_file}
use Rattle.entry_table.proofs.Heights.{HasHeight, at_root, in_none, in_dir, named-height, height-bound}

-- one step more at the top
pub Climbs-append : (es : List Kept) (way : List Number) (n : ℕ) (top : Number) (up : ℕ) → Climbs es n way top.0 → StepsUp es top.0 up → Climbs es n (way ++ top ∷ []) up
Climbs-append es [] n top up climbs step = (sym climbs, (up, subst (λ (m : ℕ). StepsUp es m up) (sym climbs) step, refl))
Climbs-append es (at ∷ way) n top up climbs step = (climbs.0, (climbs.1.0, climbs.1.1, Climbs-append es way climbs.1.0 top up climbs.1.2 step))

-- one step fewer at the top
pub Climbs-split : (es : List Kept) (way : List Number) (n : ℕ) (top : Number) (up : ℕ) → Climbs es n (way ++ top ∷ []) up → Climbs es n way top.0 × StepsUp es top.0 up
Climbs-split es [] n top up climbs = (sym climbs.0, subst (λ (m : ℕ). StepsUp es m up) (sym climbs.0) (subst (λ (m : ℕ). StepsUp es n m) climbs.1.2 climbs.1.1))
Climbs-split es (at ∷ way) n top up climbs = let rest = Climbs-split es way climbs.1.0 top up climbs.1.2 in ((climbs.0, (climbs.1.0, climbs.1.1, rest.0)), rest.1)

-- what names a file from a number up
pub step-named : (tree : Tree) (es : List Kept) (n up : ℕ) (file : FileId) → StepsUp es n up → IsFileOf tree es n file → (above : FileId) × IsFileOf tree es up above
step-named tree es n up file step at = let c = linked-child tree es n step.kept step.dir step.name file step.not_root step.entry step.linked at in
    (c.dir_file, subst (λ (m : ℕ). IsFileOf tree es m c.dir_file) step.is_up c.at)

pub climbs-named : (tree : Tree) (es : List Kept) (way : List Number) (n top : ℕ) (file : FileId) → Climbs es n way top → IsFileOf tree es n file → (above : FileId) × IsFileOf tree es top above
climbs-named tree es [] n top file climbs at = (file, subst (λ (m : ℕ). IsFileOf tree es m file) climbs at)
climbs-named tree es (i ∷ way) n top file climbs at = let s = step-named tree es n climbs.1.0 file climbs.1.1 at in climbs-named tree es way climbs.1.0 top s.0 climbs.1.2 s.1

-- each step of a way is one of the number's height
step-height : (es : List Kept) (n up h : ℕ) → StepsUp es n up → HasHeight es n h → (k : ℕ) × (h ≡ suc k) × HasHeight es up k
step-height es n up h step (at_root _ _ one z) = absurd (step.not_root one)
step-height es n up h step (in_none _ _ kept file not e l z) =
    absurd (linked-marked step.kept.place step.dir step.name file step.linked (ap (λ (x : Kept). x.place) (some-same (entry_of es n) step.kept kept step.entry e) ∙ l))
step-height es n up h step (in_dir _ _ kept dir name k not e l above s) =
    let same : dir.0 ≡ step.dir.0 = linked-dir kept.place dir step.dir name step.name l (ap (λ (x : Kept). x.place) (some-same (entry_of es n) kept step.kept e step.entry) ∙ step.linked) in
    (k, s, subst (λ (m : ℕ). HasHeight es m k) (same ∙ step.is_up) above)

way-height : (es : List Kept) (way : List Number) (n top h : ℕ) → Climbs es n way top → HasHeight es n h → length way ≤ h
way-height es [] n top h climbs at = omega arith
way-height es (i ∷ way) n top h climbs at = let s = step-height es n climbs.1.0 h climbs.1.1 at in let r = way-height es way climbs.1.0 top s.0 climbs.1.2 s.2 in omega (arith, r, s.1)

-- A way of more steps than there are entries leads to no file.
pub long-no_file : (tree : Tree) (es : List Kept) (way : List Number) (n : ℕ) (top : Number) (up : ℕ) (file : FileId) → Climbs es n way top.0 → StepsUp es top.0 up → length es ≤ length way → IsFileOf tree es n file → ⊥
long-no_file tree es way n top up file climbs step long at =
    let h = named-height tree es n file at in
    let low : length (way ++ top ∷ []) ≤ h.0 = way-height es (way ++ top ∷ []) n up h.0 (Climbs-append es way n top up climbs step) h.1 in
    let high : h.0 ≤ length es = height-bound h.0 es n h.1 in
    let one : length (way ++ top ∷ []) ≡ length way + 1 = length-append way (top ∷ []) in
    omega arith

-- A way up to an unknown number leads to none.
pub unknown-way : (tree : Tree) (es : List Kept) (way : List Number) (n top : ℕ) (file : FileId) → Climbs es n way top → (top ≡ 1 → ⊥) → entry_of es top ≡ None → IsFileOf tree es n file → ⊥
unknown-way tree es way n top file climbs other none at = let a = climbs-named tree es way n top file climbs at in unknown-no_file tree es top a.0 other none a.1

-- one step down, to the child or to no file
pub step-down : (tree : Tree) (es : List Kept) (n up : ℕ) (above file : FileId) → (step : StepsUp es n up) → IsFileOf tree es up above → child_of tree above step.name ≡ Some file → IsFileOf tree es n file
step-down tree es n up above file step at child =
    is_child n file step.kept step.dir step.name above step.not_root step.entry step.linked (subst (λ (m : ℕ). IsFileOf tree es m above) (sym step.is_up) at) child

pub no-child-no_file : (tree : Tree) (es : List Kept) (way : List Number) (n low up : ℕ) (above file : FileId) → Climbs es n way low → (step : StepsUp es low up) → IsFileOf tree es up above →
    child_of tree above step.name ≡ None → IsFileOf tree es n file → ⊥
no-child-no_file tree es way n low up above file climbs step at child named =
    let a = climbs-named tree es way n low file climbs named in
    let c = linked-child tree es low step.kept step.dir step.name a.0 step.not_root step.entry step.linked a.1 in
    let same : c.dir_file ≡ above = IsFileOf-same tree es up c.dir_file above (subst (λ (m : ℕ). IsFileOf tree es m c.dir_file) step.is_up c.at) at in
    let s : Some a.0 ≡ None = sym c.child ∙ ap (λ (f : FileId). child_of tree f step.name) same ∙ child in
    let none : ⊥ = cc in none

-- numbers that a test found apart, and numbers that it found equal
pub ne-tested : (m n : ℕ) → true ≡ not (m == n) → m ≡ n → ⊥
ne-tested m n t e = let same : (m == n) ≡ true = eq-true m n e in let f : true ≡ not true = t ∙ ap not same in let none : ⊥ = cc in none

pub eq-tested : (m n : ℕ) → false ≡ not (m == n) → m ≡ n
eq-tested m n t = in_ (m == n) refl t where
  in_ : (b : Bool) → (m == n) ≡ b → false ≡ not b → m ≡ n
  in_ true e f = true-eq m n e
  in_ false e f = absurd (let none : ⊥ = cc in none)

-- a step, as the code reads it
pub step-read : (es : List Kept) (n : ℕ) (kept : Kept) (dir : Number) (name : List ℕ) → (n ≡ 1 → ⊥) → entry_of es n ≡ Some kept → kept.place ≡ Linked dir name → StepsUp es n dir.0
step-read es n kept dir name other entry linked = record { kept = kept; dir = dir; name = name; not_root = other; entry = entry; linked = linked; is_up = refl }

-- the name of a step, as the code reads it
pub step-name : (es : List Kept) (n up : ℕ) (kept : Kept) (dir : Number) (name : List ℕ) → (step : StepsUp es n up) → entry_of es n ≡ Some kept → kept.place ≡ Linked dir name → step.name ≡ name
step-name es n up kept dir name step entry linked =
    linked-name step.kept.place step.dir dir step.name name step.linked (ap (λ (k : Kept). k.place) (some-same (entry_of es n) step.kept kept step.entry entry) ∙ linked)

-- no mark stands on a way
pub step-no_mark : (es : List Kept) (n up : ℕ) (kept : Kept) (file : FileId) → StepsUp es n up → entry_of es n ≡ Some kept → kept.place ≡ Unlinked file → ⊥
step-no_mark es n up kept file step entry marked =
    linked-marked step.kept.place step.dir step.name file step.linked (ap (λ (k : Kept). k.place) (some-same (entry_of es n) step.kept kept step.entry entry) ∙ marked)
