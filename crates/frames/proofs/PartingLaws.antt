-- Frames that stand at the front of a stream, one after the other.
use Rattle.std.proofs.Common.{◌≡◌, ◌≢◌, ℕ, List, [], ◌∷◌, ◌++◌, refl, sym, ap, subst, ◌∙◌}
use Rattle.frames.specs.declared.fault.FrameFault.{FrameFault}
use Rattle.frames.specs.declared.frame.Frame.{Frame}
use Rattle.frames.specs.Laws.{AreFirst, FaultyRest, Parts, Rest, Tail, grown}
use Rattle.frames.specs.Reading.{Faulty, First, NotYet, said}
use Rattle.frames.proofs.GrowingLaws.{grows}

-- a frame that stands in front still does with more bytes after
first_grows : (bytes rest more : List ℕ) (frame : Frame) → said bytes ≡ First frame rest → said (bytes ++ more) ≡ First frame (rest ++ more)
first_grows bytes rest more frame is =
    let some : said bytes ≢ NotYet = λ none. absurd cc in
    grows bytes more some ∙ ap (λ what. grown what more) is

pub pieces_join : (bytes rest more : List ℕ) (frames : List Frame) → AreFirst bytes frames rest → AreFirst (bytes ++ more) frames (rest ++ more)
pieces_join bytes rest more [] are = ap (λ (t : List ℕ). t ++ more) are
pieces_join bytes rest more (frame ∷ frames) are =
    (are.0 ++ more, first_grows bytes are.0 more frame are.1, pieces_join are.0 rest more frames are.2)

pub frames_join : (bytes rest left : List ℕ) (frames : List Frame) (frame : Frame) → AreFirst bytes frames rest → said rest ≡ First frame left → AreFirst bytes (frames ++ frame ∷ []) left
frames_join bytes rest left [] frame are is = (left, ap said are ∙ is, refl)
frames_join bytes rest left (first ∷ frames) frame are is = (are.0, are.1, frames_join are.0 rest left frames frame are.2 is)

-- a fault stays with more bytes after it
fault_grows : (rest more : List ℕ) (fault : FrameFault) → said rest ≡ Faulty fault → said (rest ++ more) ≡ Faulty fault
fault_grows rest more fault is =
    let some : said rest ≢ NotYet = λ none. absurd cc in
    grows rest more some ∙ ap (λ what. grown what more) is

pub fault_stays : (bytes rest more : List ℕ) (frames : List Frame) (fault : FrameFault) → Parts bytes frames (FaultyRest fault rest) → Parts (bytes ++ more) frames (FaultyRest fault (rest ++ more))
fault_stays bytes rest more frames fault are = (pieces_join bytes rest more frames are.0, fault_grows rest more fault are.1)

-- ---- a stream has one parting

same_first : (frame other : Frame) (rest left : List ℕ) → First frame rest ≡ First other left → (frame ≡ other) × (rest ≡ left)
same_first frame other rest left e = (cc, cc)

-- no frame is first
abbrev IsTail : List ℕ → Type 0
IsTail rest = (frame : Frame) (left : List ℕ) → said rest ≢ First frame left

not_yet_is_tail : (rest : List ℕ) → said rest ≡ NotYet → IsTail rest
not_yet_is_tail rest is frame left e = absurd cc

faulty_is_tail : (rest : List ℕ) (fault : FrameFault) → said rest ≡ Faulty fault → IsTail rest
faulty_is_tail rest fault is frame left e = absurd cc

one_front : (bytes rest left : List ℕ) (frames others : List Frame) → AreFirst bytes frames rest → AreFirst bytes others left → IsTail rest → IsTail left → (frames ≡ others) × (rest ≡ left)
one_front bytes rest left [] [] are its none here = (refl, sym are ∙ its)
one_front bytes rest left [] (other ∷ others) are its none here = absurd (none other its.0 (ap said (sym are) ∙ its.1))
one_front bytes rest left (frame ∷ frames) [] are its none here = absurd (here frame are.0 (ap said (sym its) ∙ are.1))
one_front bytes rest left (frame ∷ frames) (other ∷ others) are its none here =
    let same = same_first frame other are.0 its.0 (sym are.1 ∙ its.1) in
    let later = one_front are.0 rest left frames others are.2 (subst (λ (t : List ℕ). AreFirst t others left) (sym same.1) its.2) none here in
    (ap (λ (x : Frame). x ∷ frames) same.0 ∙ ap (λ (t : List Frame). other ∷ t) later.0, later.1)

same_fault : (rest left : List ℕ) (fault other : FrameFault) → rest ≡ left → said rest ≡ Faulty fault → said left ≡ Faulty other → fault ≡ other
same_fault rest left fault other e is its = cc

not_both : (rest left : List ℕ) (fault : FrameFault) → rest ≡ left → said rest ≡ NotYet → said left ≡ Faulty fault → ⊥
not_both rest left fault e is its = absurd cc

pub one_parting : (bytes : List ℕ) (frames others : List Frame) (tail other : Tail) → Parts bytes frames tail → Parts bytes others other → (frames ≡ others) × (tail ≡ other)
one_parting bytes frames others (Rest rest) (Rest left) are its =
    let same = one_front bytes rest left frames others are.0 its.0 (not_yet_is_tail rest are.1) (not_yet_is_tail left its.1) in
    (same.0, ap Rest same.1)
one_parting bytes frames others (Rest rest) (FaultyRest fault left) are its =
    let same = one_front bytes rest left frames others are.0 its.0 (not_yet_is_tail rest are.1) (faulty_is_tail left fault its.1) in
    absurd (not_both rest left fault same.1 are.1 its.1)
one_parting bytes frames others (FaultyRest fault rest) (Rest left) are its =
    let same = one_front bytes rest left frames others are.0 its.0 (faulty_is_tail rest fault are.1) (not_yet_is_tail left its.1) in
    absurd (not_both left rest fault (sym same.1) its.1 are.1)
one_parting bytes frames others (FaultyRest fault rest) (FaultyRest other left) are its =
    let same = one_front bytes rest left frames others are.0 its.0 (faulty_is_tail rest fault are.1) (faulty_is_tail left other its.1) in
    let fault_is = same_fault rest left fault other same.1 are.1 its.1 in
    (same.0, ap (λ (f : FrameFault). FaultyRest f rest) fault_is ∙ ap (FaultyRest other) same.1)
