-- Parts that are joined, and parted again.
use Rattle.std.proofs.Common.{◌≡◌, ℕ, ◌==◌, ◌||◌, Bool, true, false, List, [], ◌∷◌, ◌++◌, Some, None, refl, sym, ap, subst, ◌∙◌, arith, if◌then◌else◌}
use Rattle.std.proofs.lemmas.Bool.Decides.{nat_tests}
use Rattle.std.specs.List.{list_any}
use Rattle.eden_base.specs.Text.{cut}
use Rattle.manifest.specs.ManifestForm.{joined}
use Rattle.manifest.specs.Text.{parts, in_first, front, last}
use Rattle.manifest.proofs.TextLemmas.{some_part, parts-cut, parts-no_cut}

abbrev pub has : ℕ → List ℕ → Bool
has byte xs = list_any (λ b. b == byte) xs

same_byte : (a b : ℕ) → (a == b) ≡ true → a ≡ b
same_byte a b h = grind (arith, nat_tests)

-- a text without the byte, and the byte after it
pub parts-append : (byte : ℕ) (xs rest : List ℕ) → has byte xs ≡ false → parts byte (xs ++ byte ∷ rest) ≡ xs ∷ parts byte rest
parts-append byte [] rest h = let e : (byte == byte) ≡ true = grind (arith, nat_tests) in rw e refl
parts-append byte (b ∷ bs) rest h =
    elim (b == byte) as (λ t. (t || has byte bs) ≡ false → (if t then [] ∷ parts byte (bs ++ byte ∷ rest) else in_first b (parts byte (bs ++ byte ∷ rest))) ≡ (b ∷ bs) ∷ parts byte rest) [
      | true ↦ λ g. absurd (cc)
      | false ↦ λ g. ap (in_first b) (parts-append byte bs rest g)
    ] h

-- a text without the byte is its only part
pub parts-alone : (byte : ℕ) (xs : List ℕ) → has byte xs ≡ false → parts byte xs ≡ xs ∷ []
parts-alone byte [] h = refl
parts-alone byte (b ∷ bs) h =
    elim (b == byte) as (λ t. (t || has byte bs) ≡ false → (if t then [] ∷ parts byte bs else in_first b (parts byte bs)) ≡ (b ∷ bs) ∷ []) [
      | true ↦ λ g. absurd (cc)
      | false ↦ λ g. ap (in_first b) (parts-alone byte bs g)
    ] h

joined-in_first : (byte b : ℕ) (part : List ℕ) (more : List (List ℕ)) → joined byte ((b ∷ part) ∷ more) ≡ b ∷ joined byte (part ∷ more)
joined-in_first byte b part [] = refl
joined-in_first byte b part (next ∷ more) = refl

-- a text is its parts
pub joined-parts : (byte : ℕ) (xs : List ℕ) → joined byte (parts byte xs) ≡ xs
joined-parts byte [] = refl
joined-parts byte (b ∷ bs) =
    let p = some_part byte bs in
    let rest = sym (ap (joined byte) p.2) ∙ joined-parts byte bs in
    elim (b == byte) as (λ t. (b == byte) ≡ t → joined byte (if t then [] ∷ parts byte bs else in_first b (parts byte bs)) ≡ b ∷ bs) [
      | true ↦ λ e. ap (λ ps. joined byte ([] ∷ ps)) p.2 ∙ ap (λ xs. byte ∷ xs) rest ∙ ap (λ x. x ∷ bs) (sym (same_byte b byte e))
      | false ↦ λ e. ap (λ ps. joined byte (in_first b ps)) p.2 ∙ joined-in_first byte b p.0 p.1 ∙ ap (λ xs. b ∷ xs) rest
    ] refl

-- the first of several parts, and what follows the byte after it
pub record IsSplit (byte : ℕ) (text first : List ℕ) (more : List (List ℕ)) : Type 0 where
  pub rest : List ℕ
  pub is : text ≡ first ++ byte ∷ rest
  pub others : parts byte rest ≡ more
  pub without : has byte first ≡ false

pub split_from_parts : (byte : ℕ) (text first next : List ℕ) (more : List (List ℕ)) → parts byte text ≡ first ∷ next ∷ more → IsSplit byte text first (next ∷ more)
split_from_parts byte [] first next more h = absurd (cc)
split_from_parts byte (b ∷ bs) first next more h =
    elim (b == byte) as (λ t. (b == byte) ≡ t → (if t then [] ∷ parts byte bs else in_first b (parts byte bs)) ≡ first ∷ next ∷ more → IsSplit byte (b ∷ bs) first (next ∷ more)) [
      | true ↦ λ e g.
          let empty : [] ≡ first = cc in
          let others : parts byte bs ≡ next ∷ more = cc in
          subst (λ f. IsSplit byte (b ∷ bs) f (next ∷ more)) empty (record { rest = bs; is = ap (λ x. x ∷ bs) (same_byte b byte e); others = others; without = refl })
      | false ↦ λ e g.
          let p = some_part byte bs in
          let whole : (b ∷ p.0) ∷ p.1 ≡ first ∷ next ∷ more = sym (ap (in_first b) p.2) ∙ g in
          let here : b ∷ p.0 ≡ first = cc in
          let behind : p.1 ≡ next ∷ more = cc in
          let s = split_from_parts byte bs p.0 next more (p.2 ∙ ap (λ ps. p.0 ∷ ps) behind) in
          subst (λ f. IsSplit byte (b ∷ bs) f (next ∷ more)) here (record { rest = s.rest; is = ap (λ xs. b ∷ xs) s.is; others = s.others; without = ap (λ t. t || has byte p.0) e ∙ s.without })
    ] refl h

-- what stands before and after a cut
pub joined-cut : (byte : ℕ) (xs before rest : List ℕ) → cut byte xs ≡ Some (before, rest) → xs ≡ before ++ byte ∷ rest
joined-cut byte xs before rest h =
    let p = some_part byte rest in
    let all = parts-cut byte xs before rest h in
    sym (joined-parts byte xs) ∙ ap (joined byte) all ∙ ap (λ ps. joined byte (before ∷ ps)) p.2 ∙ ap (λ ys. before ++ byte ∷ ys) (sym (ap (joined byte) p.2) ∙ joined-parts byte rest)

-- the cut at a byte after a text without it
pub cut-append : (byte : ℕ) (xs rest : List ℕ) → has byte xs ≡ false → cut byte (xs ++ byte ∷ rest) ≡ Some (xs, rest)
cut-append byte xs rest h =
    let whole = parts-append byte xs rest h in
    let p = some_part byte rest in
    elim (cut byte (xs ++ byte ∷ rest)) as (λ o. cut byte (xs ++ byte ∷ rest) ≡ o → o ≡ Some (xs, rest)) [
      | None ↦ λ e. absurd (let one = parts-no_cut byte (xs ++ byte ∷ rest) e in let some = p.2 in cc (whole, one, some))
      | Some found ↦ λ e.
          let two = sym (parts-cut byte (xs ++ byte ∷ rest) found.0 found.1 e) ∙ whole in
          let first : found.0 ≡ xs = cc in
          let others : parts byte found.1 ≡ parts byte rest = cc in
          let behind = sym (joined-parts byte found.1) ∙ ap (joined byte) others ∙ joined-parts byte rest in
          λ i. Some (first i, behind i)
    ] refl

joined-push : (byte : ℕ) (part : List ℕ) (more : List (List ℕ)) (x : List ℕ) → joined byte (part ∷ (more ++ x ∷ [])) ≡ part ++ byte ∷ joined byte (more ++ x ∷ [])
joined-push byte part [] x = refl
joined-push byte part (next ∷ more) x = refl

-- none of these has the byte
abbrev pub all_without : ℕ → List (List ℕ) → Type 0
all_without byte [] = Unit {0}
all_without byte (part ∷ more) = (has byte part ≡ false) × all_without byte more

-- joined parts are parted again
pub parts-joined : (byte : ℕ) (ps : List (List ℕ)) (x : List ℕ) → all_without byte (ps ++ x ∷ []) → parts byte (joined byte (ps ++ x ∷ [])) ≡ ps ++ x ∷ []
parts-joined byte [] x h = parts-alone byte x h.0
parts-joined byte (p ∷ ps) x h =
    ap (parts byte) (joined-push byte p ps x) ∙ parts-append byte p (joined byte (ps ++ x ∷ [])) h.0 ∙ ap (λ qs. p ∷ qs) (parts-joined byte ps x h.1)

pub front-push : (ps : List (List ℕ)) (x : List ℕ) → front (ps ++ x ∷ []) ≡ ps
front-push [] x = refl
front-push (p ∷ []) x = refl
front-push (p ∷ q ∷ ps) x = ap (λ qs. p ∷ qs) (front-push (q ∷ ps) x)

pub last-push : (ps : List (List ℕ)) (x : List ℕ) → last (ps ++ x ∷ []) ≡ x
last-push [] x = refl
last-push (p ∷ []) x = refl
last-push (p ∷ q ∷ ps) x = last-push (q ∷ ps) x

-- the front and the last part are all parts, where there is one
pub front-last : (p : List ℕ) (ps : List (List ℕ)) → front (p ∷ ps) ++ last (p ∷ ps) ∷ [] ≡ p ∷ ps
front-last p [] = refl
front-last p (q ∷ ps) = ap (λ qs. p ∷ qs) (front-last q ps)
