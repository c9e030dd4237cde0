-- A stream ends in one way.
use Rattle.std.proofs.Common.{◌≡◌, List, ℕ, Option, refl, sym, subst, ◌∙◌}
use Rattle.frames.specs.declared.fault.FrameFault.{FrameFault}
use Rattle.frames.specs.declared.frame.Frame.{Frame}
use Rattle.frames.specs.Reading.{First, said}
use Rattle.frames.specs.Stream.{Ends, Whole, Cut, Bad, Behind}

same_rest : (frame other : Frame) (rest left : List ℕ) → First frame rest ≡ First other left → rest ≡ left
same_rest frame other rest left e = cc

pub one_end : {bytes : List ℕ} {end other : Option FrameFault} → Ends bytes end → Ends bytes other → end ≡ other
unfolding said
one_end Whole Whole = refl
one_end Whole (Cut some is) = absurd (some refl)
one_end Whole (Bad is) = refl
one_end Whole (Behind is later) = absurd cc
one_end (Cut some is) Whole = absurd (some refl)
one_end (Cut some is) (Cut more its) = refl
one_end (Cut some is) (Bad its) = absurd cc
one_end (Cut some is) (Behind its later) = absurd cc
one_end (Bad is) Whole = refl
one_end (Bad is) (Cut some its) = absurd cc
one_end (Bad is) (Bad its) = refl
one_end (Bad is) (Behind its later) = absurd cc
one_end (Behind is later) Whole = absurd cc
one_end (Behind is later) (Cut some its) = absurd cc
one_end (Behind is later) (Bad its) = absurd cc
one_end {other = other} (Behind {rest = rest} {frame = frame} is later) (Behind {rest = left} {frame = its_frame} its after) =
    one_end later (subst (λ (t : List ℕ). Ends t other) (sym (same_rest frame its_frame rest left (sym is ∙ its))) after)
