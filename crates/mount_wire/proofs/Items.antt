-- The items at the front of bytes, and fields behind one another.
use Rattle.std.proofs.Common.{◌≡◌, ℕ, zero, suc, ◌+◌, ◌-◌, ◌<◌, List, [], ◌∷◌, ◌++◌, take, drop, refl, ap, ap₂, ◌∙◌, arith}
use Rattle.std.proofs.lemmas.List.{drop-drop}
use Rattle.fuse_wire.specs.RequestBody.{item_at, items_at}

-- a field behind another
pub fields_apart : (offset : ℕ) (bytes : List ℕ) → drop 8 (drop offset bytes) ≡ drop (offset + 8) bytes
fields_apart offset bytes = drop-drop 8 offset bytes ∙ ap (λ (n : ℕ). drop n bytes) (omega arith)

-- what is behind the blocks and the times, and what is behind the owner
times_apart : (offset : ℕ) (bytes : List ℕ) → drop 44 (drop offset bytes) ≡ drop (offset + 44) bytes
times_apart offset bytes = drop-drop 44 offset bytes ∙ ap (λ (n : ℕ). drop n bytes) (omega arith)

owner_apart : (offset : ℕ) (bytes : List ℕ) → drop 8 (drop 8 (drop (offset + 44) bytes)) ≡ drop (offset + 60) bytes
owner_apart offset bytes =
    ap (λ (rest : List ℕ). drop 8 rest) (drop-drop 8 (offset + 44) bytes) ∙ drop-drop 8 (offset + 44 + 8) bytes
    ∙ ap (λ (n : ℕ). drop n bytes) (omega arith)

-- what is put one after the other is the text with what is put in
pub put_in : (text : List ℕ) (offset : ℕ) (before rest behind mode more after filled owner none p1 p2 p3 p4 all : List ℕ) →
    rest ≡ drop offset text → behind ≡ drop 44 rest → mode ≡ take 8 behind → more ≡ drop 8 behind → after ≡ drop 8 more →
    none ≡ [] → p1 ≡ none ++ before → p2 ≡ p1 ++ filled → p3 ≡ p2 ++ mode → p4 ≡ p3 ++ owner → all ≡ p4 ++ after →
    all ≡ before ++ filled ++ take 8 (drop (offset + 44) text) ++ owner ++ drop (offset + 60) text
put_in text offset before rest behind mode more after filled owner none p1 p2 p3 p4 all is_rest is_behind is_mode is_more is_after is_none is_p1 is_p2 is_p3 is_p4 is_all =
    let behind_is : behind ≡ drop (offset + 44) text = is_behind ∙ ap (λ (r : List ℕ). drop 44 r) is_rest ∙ times_apart offset text in
    let mode_is : mode ≡ take 8 (drop (offset + 44) text) = is_mode ∙ ap (λ (r : List ℕ). take 8 r) behind_is in
    let after_is : after ≡ drop (offset + 60) text =
    is_after ∙ ap (λ (r : List ℕ). drop 8 r) (is_more ∙ ap (λ (r : List ℕ). drop 8 r) behind_is) ∙ owner_apart offset text in
    let p1_is : p1 ≡ before = is_p1 ∙ ap (λ (n : List ℕ). n ++ before) is_none in
    let p2_is : p2 ≡ before ++ filled = is_p2 ∙ ap (λ (p : List ℕ). p ++ filled) p1_is in
    let p3_is : p3 ≡ (before ++ filled) ++ take 8 (drop (offset + 44) text) = is_p3 ∙ ap₂ (λ (p m : List ℕ). p ++ m) p2_is mode_is in
    let p4_is : p4 ≡ ((before ++ filled) ++ take 8 (drop (offset + 44) text)) ++ owner = is_p4 ∙ ap (λ (p : List ℕ). p ++ owner) p3_is in
    is_all ∙ ap₂ (λ (p r : List ℕ). p ++ r) p4_is after_is

pub no_items : (count : ℕ) (bytes : List ℕ) → count ≡ 0 → items_at count bytes ≡ []
unfolding items_at
no_items zero bytes is = refl
no_items (suc n) bytes is = absurd (omega arith)

pub some_items : (count : ℕ) (bytes : List ℕ) → 0 < count → items_at count bytes ≡ item_at bytes ∷ items_at (count - 1) (drop 16 bytes)
unfolding items_at
some_items zero bytes lt = absurd (omega arith)
some_items (suc n) bytes lt = ap (λ (k : ℕ). item_at bytes ∷ items_at k (drop 16 bytes)) (omega arith)
