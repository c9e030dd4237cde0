-- The answer that a frame is, as its head and its body say.
use Rattle.std.proofs.Common.{◌≡◌, ℕ, true, List, [], ◌++◌, length, Some, Result, Ok, Err, refl, ap, subst, ◌∙◌}
use Rattle.std.specs.Prelude.{is_ok, slice_index}
use Rattle.byte_codec.specs.Field.{AreBytes}
use Rattle.byte_codec.proofs.FieldLaws.{eight}
use Rattle.byte_codec.proofs.YieldLemmas.{yielded}
use Rattle.frames.specs.declared.answer.BrokerAnswer.TheVariants as answers
use Rattle.frames.specs.declared.fault.FrameFault.{FrameFault}
use Rattle.frames.specs.declared.fault.FrameFault.TheVariants.{BadBody}
use Rattle.frames.specs.declared.frame.Frame.{Frame}
use Rattle.frames.specs.declared.frame.Frame.TheVariants.{Take, Ask, Empty, Post, Posted, Ended, Stale, NotAsked, Claim, Claimed, Unanswered, LastGeneration, Mount, Mounted, Seated, Attach, Attached, Takeover}
use Rattle.frames.specs.declared.kind.FrameKind.{FrameKind}
use Rattle.frames.specs.Answer.{IsAnswer, answer_by, answer_of}
use Rattle.frames.specs.FrameText.{Fits, body_of, kind_of}
use Rattle.frames.specs.Kind.{kind_with}
use Rattle.frames.specs.Lacking.{lacking}
use Rattle.frames.specs.Reading.{Faulty, frame_of, said, said_frame}
use Rattle.frames.proofs.FoundFrames.{IsFrameOf, frame_yields}
use Rattle.frames.proofs.LackingLaws.{body_says, parts_text}

-- a frame is the answer that its kind and its body say
by_frame : (frame : Frame) → Fits frame → answer_by (kind_of frame) (body_of frame) ≡ answer_of frame
by_frame (Take generation) fits = refl
by_frame (Ask request) fits = refl
by_frame Empty fits = refl
by_frame (Post generation reply) fits = refl
by_frame Posted fits = refl
by_frame Ended fits = refl
by_frame (Stale now) fits = ap (λ (n : ℕ). answers.Stale n) (eight.again now fits)
by_frame NotAsked fits = refl
by_frame (Claim generation) fits = refl
by_frame (Claimed generation) fits = refl
by_frame (Unanswered asks) fits = refl
by_frame LastGeneration fits = refl
by_frame Mount fits = refl
by_frame (Mounted generation) fits = refl
by_frame Seated fits = refl
by_frame (Attach daemon) fits = refl
by_frame (Attached daemon) fits = refl
by_frame (Takeover message) fits = refl

of_frame : (kind : FrameKind) (body : List ℕ) (frame : Frame) → IsFrameOf kind body frame → answer_by kind body ≡ answer_of frame
of_frame kind body frame is =
    let by_kind = subst (λ (k : FrameKind). answer_by k (body_of frame) ≡ answer_of frame) is.kind_is (by_frame frame is.fits) in
    subst (λ (t : List ℕ). answer_by kind t ≡ answer_of frame) is.body_is by_kind

answered : (head body : List ℕ) (kind : FrameKind) (read : Result Frame FrameFault) → frame_of kind body ≡ read → is_ok read ≡ true → AreBytes head → AreBytes body → said (head ++ body) ≡ said_frame read [] → IsAnswer (head ++ body) body (answer_by kind body)
answered head body kind (Ok frame) e ok are its says =
    let is = yielded (frame_of kind body) frame (frame_yields kind body its) e in
    record {
      frame = frame;
      is_first = parts_text head body frame are its says;
      has_body = is.body_is;
      is_told = of_frame kind body frame is;
    }
answered head body kind (Err fault) e ok are its says = absurd cc

-- a whole body of a frame says its answer
pub is_answer : (head body : List ℕ) (kind : FrameKind) → length head ≡ 5 → lacking head ≡ Ok (length body) → kind_with (slice_index head 4) ≡ Some kind → is_ok (frame_of kind body) ≡ true → AreBytes head → AreBytes body → IsAnswer (head ++ body) body (answer_by kind body)
is_answer head body kind five whole is ok are its = answered head body kind (frame_of kind body) refl ok are its (body_says head body kind five whole is)

-- a whole body of no frame is at fault
pub bad_answer : (head body : List ℕ) (kind : FrameKind) → length head ≡ 5 → lacking head ≡ Ok (length body) → kind_with (slice_index head 4) ≡ Some kind → frame_of kind body ≡ Err BadBody → said (head ++ body) ≡ Faulty BadBody
bad_answer head body kind five whole is bad = body_says head body kind five whole is ∙ ap (λ read. said_frame read []) bad

-- a frame has the kind with which it was read
pub kind_read : (kind : FrameKind) (body : List ℕ) (frame : Frame) → AreBytes body → frame_of kind body ≡ Ok frame → kind_of frame ≡ kind
kind_read kind body frame are e = let is = yielded (frame_of kind body) frame (frame_yields kind body are) e in is.kind_is
