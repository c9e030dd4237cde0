-- Of each changes value at most one is the first bad change.
use Rattle.std.proofs.Common.{◌≡◌, ◌+◌, ℕ, Option, Some, None, sym, ap, ◌∙◌, inl, inr}
use Rattle.std.proofs.lemmas.Bool.{cases_order}
use Rattle.checkout.specs.declared.changes.Changes.{Changes}
use Rattle.checkout.specs.BadChanges.{Else, IsBadAround, IsBadChange, bad_by_other, bad_itself, first_link}
use Rattle.manifest.specs.Manifest.{Manifest}

else_one : (earlier : Option ℕ) (Later : Option ℕ → Type 0) → ((a b : Option ℕ) → Later a → Later b → a ≡ b) → (a b : Option ℕ) → Else earlier Later a → Else earlier Later b → a ≡ b
else_one (Some place) Later one a b g h = g ∙ sym h
else_one None Later one a b g h = one a b g h

module _ (m : Manifest) (c : Changes) where
  around_one : (a b : Option ℕ) → IsBadAround m c a → IsBadAround m c b → a ≡ b
  around_one a b (inl g) (inl h) =
      elim (cases_order g.0 h.0) [
        | inl same ↦ g.2 ∙ ap (λ i. Some (first_link c + i)) same ∙ sym h.2
        | inr (inl below) ↦ absurd (h.5 g.0 g.1 below g.3 g.4)
        | inr (inr above) ↦ absurd (g.5 h.0 h.1 above h.3 h.4)
      ]
  around_one a b (inl g) (inr h) = absurd (h.1 g.0 g.1 g.3 g.4)
  around_one a b (inr g) (inl h) = absurd (g.1 h.0 h.1 h.3 h.4)
  around_one a b (inr g) (inr h) = g.0 ∙ sym h.0

  pub one_bad_change : (a b : Option ℕ) → IsBadChange m c a → IsBadChange m c b → a ≡ b
  one_bad_change a b g h =
      else_one (bad_itself m c) (Else (bad_by_other m c) (IsBadAround m c)) (else_one (bad_by_other m c) (IsBadAround m c) around_one) a b g h
