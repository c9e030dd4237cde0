-- A part of a blob at its size is what the blob has there, filled with zeros.
use Rattle.std.proofs.Common.{◌≡◌, ℕ, zero, suc, ◌+◌, ◌-◌, ◌≤◌, List, [], ◌∷◌, ◌++◌, take, drop, replicate, refl, ap, ◌∙◌, sym, arith}
use Rattle.blob_store.specs.Blob.{filled, part, sized}

less_zero : (n : ℕ) → n - 0 ≡ n
less_zero n = omega arith

take_zeros : (n m : ℕ) → n ≤ m → take n (replicate m (zero)) ≡ replicate n (zero)
take_zeros zero m few = refl
take_zeros (suc n) zero few = absurd (omega (arith, few))
take_zeros (suc n) (suc m) few = ap (λ (l : List ℕ). 0 ∷ l) (take_zeros n m (omega (arith, few)))

sized_none : (n : ℕ) → sized n [] ≡ replicate n (zero)
sized_none zero = refl
sized_none (suc n) = ap (λ k. replicate k (zero)) (less_zero (suc n))

filled_more : (len byte : ℕ) (bytes : List ℕ) → filled (suc len) (byte ∷ bytes) ≡ byte ∷ filled len bytes
filled_more len byte bytes = ap (λ (k : ℕ). byte ∷ (bytes ++ replicate k (zero))) (omega arith)

-- the front of a blob at its size
front_filled : (len size : ℕ) (blob : List ℕ) → len ≤ size → take len (sized size blob) ≡ filled len (take len blob)
front_filled zero size blob few = refl
front_filled (suc len) zero blob few = absurd (omega (arith, few))
front_filled (suc len) (suc size) [] few =
    ap (λ (l : List ℕ). take (suc len) l) (sized_none (suc size)) ∙ take_zeros (suc len) (suc size) few ∙ sym (sized_none (suc len))
front_filled (suc len) (suc size) (byte ∷ blob) few =
    ap (λ (l : List ℕ). take (suc len) l) (filled_more size byte (take size blob))
    ∙ ap (λ (l : List ℕ). byte ∷ l) (front_filled len size blob (omega (arith, few)))
    ∙ sym (filled_more len byte (take len blob))

drop_none : (n : ℕ) (l : List ℕ) → l ≡ [] → drop n l ≡ []
drop_none zero l none = none
drop_none (suc n) [] none = refl
drop_none (suc n) (x ∷ l) none = absurd cc

pub part_filled : (offset len size : ℕ) (blob : List ℕ) → offset + len ≤ size → part offset len (sized size blob) ≡ filled len (part offset len blob)
part_filled zero len size blob few = front_filled len size blob (omega (arith, few))
part_filled (suc offset) len zero blob few = absurd (omega (arith, few))
part_filled (suc offset) len (suc size) [] few =
    ap (λ (l : List ℕ). take len (drop (suc offset) l)) (sized_none (suc size))
    ∙ ap (λ (l : List ℕ). take len (drop offset l)) (sym (sized_none size))
    ∙ part_filled offset len size [] (omega (arith, few))
    ∙ ap (λ (l : List ℕ). filled len (take len l)) (drop_none offset [] refl)
part_filled (suc offset) len (suc size) (byte ∷ blob) few =
    ap (λ (l : List ℕ). take len (drop (suc offset) l)) (filled_more size byte (take size blob))
    ∙ part_filled offset len size blob (omega (arith, few))
