-- Each stream parts, and ends as its parting does.
use Rattle.std.proofs.Common.{◌≡◌, ◌<◌, ◌≤◌, ℕ, zero, suc, Bool, true, false, cond, ltb, List, [], ◌∷◌, length, take, drop, Option, Some, None, Result, Ok, Err, refl, sym, ap, subst, ◌∙◌, arith}
use Rattle.std.specs.Prelude.{◌↔◌}
use Rattle.std.proofs.lemmas.List.{length-drop}
use Rattle.frames.specs.declared.fault.FrameFault.{FrameFault}
use Rattle.frames.specs.declared.fault.FrameFault.TheVariants.{TooLong, Torn}
use Rattle.frames.specs.declared.frame.Frame.{Frame}
use Rattle.frames.specs.declared.kind.FrameKind.{FrameKind}
use Rattle.frames.specs.FrameText.{longest_body}
use Rattle.frames.specs.Kind.{kind_with}
use Rattle.frames.specs.Laws.{AreFirst, FaultyRest, Parts, Rest, Tail, end_with}
use Rattle.frames.specs.Reading.{Said, Faulty, First, NotYet, frame_of, said, said_frame}
use Rattle.frames.specs.Stream.{Ends, Whole, Cut, Bad, Behind}
use Rattle.frames.proofs.EndLaws.{one_end}
use Rattle.frames.proofs.GrowingLaws.{four_are}
use Rattle.frames.proofs.StreamLaws.{is_long, of_four, said_behind}

-- ---- a frame in front takes bytes up

its_rest : (read : Result Frame FrameFault) (rest left : List ℕ) (frame : Frame) → said_frame read rest ≡ First frame left → left ≡ rest
its_rest (Ok first) rest left frame e = cc
its_rest (Err fault) rest left frame e = absurd cc

whole_rest : (short : Bool) (what : Said) (left : List ℕ) (frame : Frame) → cond short NotYet what ≡ First frame left → what ≡ First frame left
whole_rest true what left frame e = absurd cc
whole_rest false what left frame e = e

short_rest : (over : Bool) (what : Said) (left : List ℕ) (frame : Frame) → cond over (Faulty TooLong) what ≡ First frame left → what ≡ First frame left
short_rest true what left frame e = absurd cc
short_rest false what left frame e = e

not_longer : (kind : Option FrameKind) (len : ℕ) (bytes left : List ℕ) (frame : Frame) → said_behind kind len bytes ≡ First frame left → length left ≤ length bytes
not_longer None len bytes left frame e = absurd cc
not_longer (Some kind) len bytes left frame e =
    let read = frame_of kind (take len bytes) in
    let is = its_rest read (drop len bytes) left frame (whole_rest (ltb (length bytes) len) (said_frame read (drop len bytes)) left frame e) in
    omega (arith, ap length is, length-drop len bytes)

no_frame : (left : List ℕ) (frame : Frame) → NotYet ≡ First frame left → ⊥
no_frame left frame e = absurd cc

shorter : (bytes left : List ℕ) (frame : Frame) → said bytes ≡ First frame left → length left < length bytes
unfolding said
shorter [] left frame e = absurd (no_frame left frame e)
shorter (a ∷ []) left frame e = absurd (no_frame left frame e)
shorter (a ∷ b ∷ []) left frame e = absurd (no_frame left frame e)
shorter (a ∷ b ∷ c ∷ []) left frame e = absurd (no_frame left frame e)
shorter (a ∷ b ∷ c ∷ d ∷ []) left frame e =
    absurd (no_frame left frame (short_rest (ltb longest_body (of_four a b c d)) NotYet left frame (sym (four_are a b c d) ∙ e)))
shorter (a ∷ b ∷ c ∷ d ∷ n ∷ bytes) left frame e =
    let len = of_four a b c d in
    let behind = short_rest (ltb longest_body len) (said_behind (kind_with n) len bytes) left frame (sym (is_long a b c d n bytes) ∙ e) in
    omega (arith, not_longer (kind_with n) len bytes left frame behind)

-- ---- each stream parts

abbrev Parting : List ℕ → Type 0
Parting bytes = (frames : List Frame) × (tail : Tail) × Parts bytes frames tail

first_parts : (bytes rest : List ℕ) (frame : Frame) (frames : List Frame) (tail : Tail) → said bytes ≡ First frame rest → Parts rest frames tail → Parts bytes (frame ∷ frames) tail
first_parts bytes rest frame frames (Rest left) is are = ((rest, is, are.0), are.1)
first_parts bytes rest frame frames (FaultyRest fault left) is are = ((rest, is, are.0), are.1)

parted_by : (bytes : List ℕ) (what : Said) → said bytes ≡ what → ((rest : List ℕ) → length rest < length bytes → Parting rest) → Parting bytes
parted_by bytes (First frame rest) is later =
    let parting = later rest (shorter bytes rest frame is) in
    (frame ∷ parting.0, parting.1, first_parts bytes rest frame parting.0 parting.1 is parting.2)
parted_by bytes (Faulty fault) is later = ([], FaultyRest fault bytes, (refl, is))
parted_by bytes NotYet is later = ([], Rest bytes, (refl, is))

parted : (n : ℕ) (bytes : List ℕ) → length bytes < n → Parting bytes
parted zero bytes lt = absurd (omega (arith, lt))
parted (suc n) bytes lt = parted_by bytes (said bytes) refl (λ rest less. parted n rest (omega (arith, lt, less)))

pub a_parting : (bytes : List ℕ) → Parting bytes
a_parting bytes = parted (suc (length bytes)) bytes (omega arith)

-- ---- a stream ends as its parting does

ends_behind : (bytes rest : List ℕ) (frames : List Frame) (end : Option FrameFault) → AreFirst bytes frames rest → Ends rest end → Ends bytes end
ends_behind bytes rest [] end are ends = subst (λ (t : List ℕ). Ends t end) (sym are) ends
ends_behind bytes rest (frame ∷ frames) end are ends = Behind are.1 (ends_behind are.0 rest frames end are.2 ends)

tail_ends : (bytes : List ℕ) (frames : List Frame) (tail : Tail) → Parts bytes frames tail → Ends bytes (end_with tail)
tail_ends bytes frames (Rest []) are = ends_behind bytes [] frames None are.0 Whole
tail_ends bytes frames (Rest (byte ∷ rest)) are = ends_behind bytes (byte ∷ rest) frames (Some Torn) are.0 (Cut (λ e. absurd cc) are.1)
tail_ends bytes frames (FaultyRest fault rest) are = ends_behind bytes rest frames None are.0 (Bad are.1)

pub ends_as_it_parts : (bytes : List ℕ) (frames : List Frame) (tail : Tail) (end : Option FrameFault) → Parts bytes frames tail → (Ends bytes end ↔ (end ≡ end_with tail))
ends_as_it_parts bytes frames tail end are =
    (λ ends. one_end ends (tail_ends bytes frames tail are), λ e. subst (Ends bytes) (sym e) (tail_ends bytes frames tail are))
