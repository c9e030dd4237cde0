-- The files of a list from one of them on.
use Rattle.std.proofs.Common.{◌≡◌, ◌==◌, ◌||◌, true, false, List, [], ◌∷◌, Option, if◌then◌else◌, refl, ap, arith}
use Rattle.std.proofs.lemmas.Bool.Decides.{nat_tests}
use Rattle.std.specs.FinMap.{FinMap}
use Rattle.eden_base.specs.declared.number.FileId.{FileId}
use Rattle.checkout.specs.Around.{among, from_file, IsWay}
use Rattle.manifest.specs.Tree.{link_cmp}
use Rattle.checkout.proofs.AroundWays.{later_among}
use Rattle.manifest.proofs.ManifestTree.{same_id}

-- they are among all
pub among_from : (from : FileId) (files : List FileId) (file : FileId) → among file (from_file from files) ≡ true → among file files ≡ true
among_from from [] file h = h
among_from from (x ∷ xs) file h =
    elim (x.0 == from.0) as (λ b. among file (if b then x ∷ xs else from_file from xs) ≡ true → among file (x ∷ xs) ≡ true) [
      | true ↦ λ g. g
      | false ↦ λ g. later_among file x xs (among_from from xs file g)
    ] h

-- the first of them is the one
pub from_there : (from : FileId) (files : List FileId) → among from files ≡ true → (rest : List FileId) × (from_file from files ≡ from ∷ rest)
from_there from [] h = absurd (cc)
from_there from (x ∷ xs) h =
    elim (x.0 == from.0) as (λ b. (x.0 == from.0) ≡ b → (b || among from xs) ≡ true → (rest : List FileId) × ((if b then x ∷ xs else from_file from xs) ≡ from ∷ rest)) [
      | true ↦ λ e _. (xs, ap (λ (f : FileId). f ∷ xs) (same_id x from (grind (arith, nat_tests))))
      | false ↦ λ e g. from_there from xs g
    ] refl h

pub from_none : (from : FileId) (files : List FileId) → among from files ≡ false → from_file from files ≡ []
from_none from [] h = refl
from_none from (x ∷ xs) h =
    elim (x.0 == from.0) as (λ b. (b || among from xs) ≡ false → (if b then x ∷ xs else from_file from xs) ≡ []) [
      | true ↦ λ g. absurd (cc)
      | false ↦ λ g. from_none from xs g
    ] h

-- of a way up they are one
pub way_from : (links : FinMap link_cmp FileId) (from : FileId) (way : List FileId) (top : Option FileId) → IsWay links way top → IsWay links (from_file from way) top
way_from links from [] top is = is
way_from links from (x ∷ xs) top is =
    elim (x.0 == from.0) as (λ b. IsWay links (if b then x ∷ xs else from_file from xs) top) [ true ↦ is | false ↦ way_from links from xs top is.1 ]
