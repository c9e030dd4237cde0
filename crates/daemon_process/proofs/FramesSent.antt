-- Frames that are written one after the other.
use Rattle.std.proofs.Common.{◌≡◌, ℕ, List, [], ◌∷◌, ◌++◌, Option, Some, Err, refl, sym, ap, subst, ◌∙◌, append_assoc}
use Rattle.std.specs.Prelude.{map}
use Rattle.std.specs.Io.KnownBytes.{Appends}
use Rattle.std.specs.List.{concat}
use Rattle.std.proofs.KnownBytes.{Appends-nil, Appends-trans}
use Rattle.std.proofs.lemmas.List.{append-nil, map-append}
use Rattle.std.proofs.lemmas.List.Folds.{concat-append}
use Rattle.frames.specs.FrameText.{frame_text}
use Rattle.frames.specs.declared.fault.FrameFault.{FrameFault}
use Rattle.frames.specs.declared.frame.Frame.{Frame}
use Rattle.links.specs.Writing.{Sends, Writes}
use Rattle.daemon_process.specs.SentFrames.{SendsAll, SendsSome}

pub sends_none : (known : Option (List ℕ)) → SendsAll [] known known
sends_none known = record { texts = []; are_texts = refl; written = Appends-nil known }

sends_one : (frame : Frame) (old new : Option (List ℕ)) → Sends old new frame → SendsAll (frame ∷ []) old new
sends_one frame old new h = record {
  texts = h.text ∷ [];
  are_texts = ap (λ (t : Option (List ℕ)). t ∷ []) h.is_text;
  written = subst (Appends old new) (sym (append-nil h.text)) h.written;
}

sends_both : (before behind : List Frame) (old mid new : Option (List ℕ)) → SendsAll before old mid → SendsAll behind mid new → SendsAll (before ++ behind) old new
sends_both before behind old mid new first then = record {
  texts = first.texts ++ then.texts;
  are_texts = map-append frame_text before behind ∙ ap (λ (t : List (Option (List ℕ))). t ++ map frame_text behind) first.are_texts
      ∙ ap (λ (t : List (Option (List ℕ))). map Some first.texts ++ t) then.are_texts ∙ sym (map-append Some first.texts then.texts);
  written = subst (Appends old new) (sym (concat-append first.texts then.texts)) (Appends-trans old mid new (concat first.texts) (concat then.texts) first.written then.written);
}

-- one more frame is written
pub passes : (all left rest : List Frame) (frame : Frame) (old mid new : Option (List ℕ)) → ((before : List Frame) × (all ≡ before ++ left) × SendsAll before old mid) → left ≡ frame ∷ rest → Sends mid new frame → (before : List Frame) × (all ≡ before ++ rest) × SendsAll before old new
passes all left rest frame old mid new was next sent = (
  was.0 ++ frame ∷ [],
  was.1 ∙ ap (λ (l : List Frame). was.0 ++ l) next ∙ sym (append_assoc was.0 (frame ∷ []) rest),
  sends_both was.0 (frame ∷ []) old mid new was.2 (sends_one frame mid new sent),
)

-- the next frame is not written
pub stops : (all before left rest : List Frame) (frame : Frame) (old mid new : Option (List ℕ)) (fault : FrameFault) → all ≡ before ++ left → left ≡ frame ∷ rest → SendsAll before old mid → Writes mid new frame (Err fault) → SendsSome all old new
stops all before left rest frame old mid new fault is next sent fails = record {
  before = before;
  failed = frame;
  behind = rest;
  parted = is ∙ ap (λ (l : List Frame). before ++ l) next;
  mid = mid;
  sent = sent;
  fault = fault;
  fails = fails;
}

-- no frame is left
pub ends : (all before left : List Frame) (old new : Option (List ℕ)) → all ≡ before ++ left → left ≡ [] → SendsAll before old new → SendsAll all old new
ends all before left old new is none sent =
    subst (λ (frames : List Frame). SendsAll frames old new) (sym (is ∙ ap (λ (l : List Frame). before ++ l) none ∙ append-nil before)) sent
