-- Permissions that were read are those of their bits.
use Rattle.std.proofs.Common.{◌≡◌, ℕ, ◌≤◌, cond, ltb, List, Result, Ok, Err, false, ap, subst, arith}
use Rattle.std.proofs.lemmas.Bool.{le-ltb}
use Rattle.std.specs.Int.{w16}
use Rattle.byte_codec.specs.Reading.{number_at}
use Rattle.eden_base.proofs.PermLemmas.{same_perm}
use Rattle.eden_base.specs.declared.attr.Perm.{Perm}
use Rattle.map_image.specs.declared.fault.ImageFault.{ImageFault}
use Rattle.map_image.specs.declared.fault.ImageFault.TheVariants.{Short, BadMark}
use Rattle.map_image.specs.ImageReading.{perm_of, perm_at}

abbrev read : Perm → List ℕ → Result (Perm × List ℕ) ImageFault
read perm rest = Ok (perm, rest)

-- bits that were read, as permissions
abbrev pub see_perm : ℕ × List ℕ → Result (Perm × List ℕ) ImageFault
see_perm bits = cond (ltb 4095 bits.0) (Err BadMark) (Ok (perm_of bits.0, bits.1))

pub perm_seen : (bits : ℕ) (rest : List ℕ) (perm : Perm) → perm.bits ≡ bits → see_perm (bits, rest) ≡ Ok (perm, rest)
perm_seen bits rest perm is =
    let low : bits ≤ 4095 = subst (λ (n : ℕ). n ≤ 4095) is perm.in_range in
    let test : ltb 4095 bits ≡ false = le-ltb _ _ low in
    let same : perm_of bits ≡ perm = same_perm (perm_of bits) perm (omega (arith, is, low)) in
    rw test (ap (λ (p : Perm). read p rest) same)

pub perm_read : (bytes : List ℕ) (bits : ℕ) (rest : List ℕ) (perm : Perm) → number_at Short w16 bytes ≡ Ok (bits, rest) → perm.bits ≡ bits → perm_at bytes ≡ Ok (perm, rest)
unfolding perm_at
perm_read bytes bits rest perm e is = rw e (perm_seen bits rest perm is)
