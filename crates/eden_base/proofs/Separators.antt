-- A slash or a NUL among bytes, where each was looked for by itself.
use Rattle.std.proofs.Common.{◌≡◌, ℕ, Bool, true, false, ◌||◌, List, [], ◌∷◌, refl, ap}
use Rattle.std.specs.Prelude.{◌==◌}
use Rattle.std.specs.List.{list_any}
use Rattle.eden_base.specs.Name.{is_separator}

-- where no slash is, a separator is a NUL
pub without-slash : (bytes : List ℕ) → list_any (λ (byte : ℕ). byte == 47) bytes ≡ false → list_any (λ (byte : ℕ). byte == 0) bytes ≡ list_any is_separator bytes
without-slash [] none = refl
without-slash (byte ∷ bytes) none = in_ (byte == 47) none (λ h. without-slash bytes h) where
  in_ : (slash : Bool) → (slash || list_any (λ (b : ℕ). b == 47) bytes) ≡ false
      → (list_any (λ (b : ℕ). b == 47) bytes ≡ false → list_any (λ (b : ℕ). b == 0) bytes ≡ list_any is_separator bytes)
      → ((byte == 0) || list_any (λ (b : ℕ). b == 0) bytes) ≡ ((slash || byte == 0) || list_any is_separator bytes)
  in_ true h rest = absurd (let none : ⊥ = cc in none)
  in_ false h rest = ap (λ (more : Bool). byte == 0 || more) (rest h)
