-- What the buckets of a tier have for each key once they are spread over twice as many.
use Rattle.std.proofs.Common.{◌≡◌, ℕ, ◌+◌, ◌*◌, ◌/◌, ◌%◌, ◌<◌, ◌==◌, ◌&&◌, Bool, true, false, List, length, get_or, Option, Some, None, if◌then◌else◌, refl, sym, ap, ◌∙◌, inl, inr, ◌⊎◌, arith}
use Rattle.std.proofs.Math.Nat.{div-add-mod, mul-add-mod_self_left}
use Rattle.std.proofs.lemmas.Bool.Decides.{nat_tests}
use Rattle.key_map.specs.Cells.{bits, home, in_cell, in_bucket, empty_cell, empty_bucket, kept, kept_at, bucket_at, spread}
use Rattle.key_map.specs.declared.bucket.Bucket.{Bucket}
use Rattle.key_map.specs.declared.cells.Cell.{Cell}

-- two numbers are the same or not
pub same-or : (a b : ℕ) → (a ≡ b) ⊎ ((a == b) ≡ false)
same-or a b = in_ (a == b) refl where
  in_ : (t : Bool) → (a == b) ≡ t → (a ≡ b) ⊎ ((a == b) ≡ false)
  in_ true e = inl (grind (arith, nat_tests))
  in_ false e = inr e

-- the remainder by a number, of the remainder by its double
mod-double : (h m : ℕ) → (h % (m * 2)) % m ≡ h % m
mod-double h m =
    let q : ℕ = h / (m * 2) in
    let r : ℕ = h % (m * 2) in
    let whole : m * 2 * q + r ≡ h = div-add-mod h (m * 2) in
    let same : m * (2 * q) + r ≡ h = omega (arith, whole) in
    sym (mul-add-mod_self_left m (2 * q) r) ∙ ap (λ (n : ℕ). n % m) same

-- a cell that another key chose, or no key, has nothing for this one
in_other : (k : ℕ) (cell : Cell) → (cell.key == k) ≡ false → in_cell k cell ≡ None
in_other k cell other = rw other refl

in_empty : (k : ℕ) → in_cell k empty_cell ≡ None
in_empty k = in_ (0 == k) where
  in_ : (b : Bool) → if◌then◌else◌ {A = Option ℕ} (b && false) (Some 0) None ≡ None
  in_ true = refl
  in_ false = refl

-- a cell that is moved has for a key that may stand at its new place what it had
moved : (shift len place k : ℕ) (cell : Cell) → home shift len k ≡ place → in_cell k (kept_at shift len place cell) ≡ in_cell k cell
moved shift len place k cell here = by_key (same-or cell.key k) where
  by_key : (cell.key ≡ k) ⊎ ((cell.key == k) ≡ false) → in_cell k (kept_at shift len place cell) ≡ in_cell k cell
  by_key (inl same) =
      let at : home shift len cell.key ≡ place = ap (home shift len) same ∙ here in
      let t : (home shift len cell.key == place) ≡ true = grind (arith, nat_tests) in
      rw t refl
  by_key (inr other) = in_ (home shift len cell.key == place) where
    in_ : (b : Bool) → in_cell k (if b then cell else empty_cell) ≡ in_cell k cell
    in_ true = refl
    in_ false = in_empty k ∙ sym (in_other k cell other)

-- so does a bucket
moved_bucket : (shift len place k : ℕ) (bucket : Bucket) → home shift len k ≡ place → in_bucket k (bucket_at shift len place bucket) ≡ in_bucket k bucket
moved_bucket shift len place k bucket here =
    rw (moved shift len place k bucket.first here, moved shift len place k bucket.second here, moved shift len place k bucket.third here, moved shift len place k bucket.fourth here) refl

-- twice as many buckets have for each key what the buckets had
pub doubled_same : (buckets wide : List Bucket) (shift k : ℕ) → home shift (length buckets * 2) k < length buckets * 2 → length wide ≡ length buckets * 2 →
    ((i : ℕ) → i < length buckets * 2 → get_or wide i empty_bucket ≡ spread buckets shift (length buckets * 2) i) → kept wide shift k ≡ kept buckets shift k
doubled_same buckets wide shift k less long are =
    let m : ℕ = length buckets in
    let place : ℕ = home shift (m * 2) k in
    let at = ap (λ (n : ℕ). get_or wide (home shift n k) empty_bucket) long ∙ are place less in
    ap (in_bucket k) at ∙ moved_bucket shift (m * 2) place k (get_or buckets (place % m) empty_bucket) refl ∙ ap (λ (i : ℕ). in_bucket k (get_or buckets i empty_bucket)) (mod-double (bits shift k) m)
