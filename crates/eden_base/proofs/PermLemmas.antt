-- Permissions are their bits.
use Rattle.std.proofs.Common.{◌≡◌, ℕ, ◌≤◌, ap, subst}
use Rattle.std.proofs.Math.Bridge.{le_prop}
use Rattle.eden_base.specs.declared.attr.Perm.{Perm}

abbrev perm_of : (bits : ℕ) → bits ≤ 4095 → Perm
perm_of bits low = record { bits = bits; in_range = low }

pub same_perm : (p q : Perm) → p.bits ≡ q.bits → p ≡ q
same_perm p q e = subst (λ (bits : ℕ). (low : bits ≤ 4095) → p ≡ perm_of bits low) e (λ low. ap (perm_of p.bits) (le_prop p.in_range low)) q.in_range
