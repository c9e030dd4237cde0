-- What reading a frame takes from a reader, and what it gives. (This project's own.)
use Rattle.std.specs.Prelude.{◌≡◌, ◌<◌, ℕ, List, [], ◌++◌, length, Option, Some, None, Result, Ok, Err, ⊤}
use Rattle.std.specs.Io.KnownBytes.{Consumes, IsAtEnd}
use Rattle.frames.specs.declared.answer.BrokerAnswer.{BrokerAnswer}
use Rattle.frames.specs.declared.fault.FrameFault.{FrameFault}
use Rattle.frames.specs.declared.fault.FrameFault.TheVariants.{Torn, Read, Write, NoMemory}
use Rattle.frames.specs.declared.frame.Frame.{Frame}
use Rattle.frames.specs.Answer.{IsAnswer}
use Rattle.frames.specs.Lacking.{lacking}
use Rattle.frames.specs.Reading.{First, Faulty, NotYet, said}
use Rattle.frames.specs.Says.{IsFirst}

-- There are bytes that were read, and `Holds` holds of them. If it is known what a reader has left, `bytes` stood in
-- front of that before, and the rest is left. Of a socket that is not known, and there are such bytes all the same.
pub record Took (old new : Option (List ℕ)) (Holds : List ℕ → Type 0) : Type 0 where
  pub bytes : List ℕ
  pub taken : Consumes old new bytes
  pub holds : Holds bytes

-- Why the bytes that were read give no frame. Torn: the input has ended within a frame. Read: a read failed, or there
-- were too many, before a frame was whole. NoMemory: the memory for a body was refused after its head of five bytes.
-- Another fault: the bytes are a faulty frame, or its front.
abbrev pub IsFault : List ℕ → Option (List ℕ) → FrameFault → Type 0
IsFault bytes left Torn = (0 < length bytes) × (said bytes ≡ NotYet) × IsAtEnd left
IsFault bytes left Read = said bytes ≡ NotYet
IsFault bytes left Write = ⊥
IsFault bytes left NoMemory = (length bytes ≡ 5) × (said bytes ≡ NotYet)
IsFault bytes left fault = said bytes ≡ Faulty fault

-- What the bytes that were read give: a frame, of which they are the text and no more; or none, if there are no bytes
-- and the input has ended; or a fault.
abbrev pub Gives : List ℕ → Option (List ℕ) → Result (Option Frame) FrameFault → Type 0
Gives bytes left (Ok (Some frame)) = IsFirst bytes frame []
Gives bytes left (Ok None) = (bytes ≡ []) × IsAtEnd left
Gives bytes left (Err fault) = IsFault bytes left fault

-- The same of all bytes that a reader had. A frame: it was in front, and the rest is left. None: there were no bytes.
-- Torn: all of them are the front of a frame. Another fault: a faulty frame was in front. A read that failed and a lack
-- of memory say nothing.
abbrev pub GivesFirst : List ℕ → List ℕ → Result (Option Frame) FrameFault → Type 0
GivesFirst all left (Ok (Some frame)) = (said all ≡ First frame left) × IsFirst all frame left
GivesFirst all left (Ok None) = (all ≡ []) × (left ≡ [])
GivesFirst all left (Err Torn) = (0 < length all) × (said all ≡ NotYet) × (left ≡ [])
GivesFirst all left (Err Read) = ⊤
GivesFirst all left (Err Write) = ⊥
GivesFirst all left (Err NoMemory) = ⊤
GivesFirst all left (Err fault) = said all ≡ Faulty fault

-- as `GivesFirst`, if it is known which bytes the reader had; if not, nothing is said
abbrev pub GivesKnown : Option (List ℕ) → Option (List ℕ) → Result (Option Frame) FrameFault → Type 0
GivesKnown None new result = ⊤
GivesKnown (Some all) None result = ⊥
GivesKnown (Some all) (Some left) result = GivesFirst all left result

-- What the bytes that were read give as the answer to a Take or a Post: the answer that their frame is, which has this
-- body; or none or a fault, as for a frame.
abbrev pub GivesAnswer : List ℕ → Option (List ℕ) → List ℕ → Result (Option BrokerAnswer) FrameFault → Type 0
GivesAnswer bytes left body (Ok (Some answer)) = IsAnswer bytes body answer
GivesAnswer bytes left body (Ok None) = (bytes ≡ []) × IsAtEnd left
GivesAnswer bytes left body (Err fault) = IsFault bytes left fault

-- ---- in two parts, head and body

-- what reading a head of five bytes gives: the length of the body after it, or none or a fault as for a frame
abbrev pub GivesHead : Option (List ℕ) → Option (List ℕ) → List ℕ → Result (Option ℕ) FrameFault → Type 0
GivesHead old new head (Ok (Some count)) = Consumes old new head × (lacking head ≡ Ok count)
GivesHead old new head (Ok None) = Took old new (λ bytes. Gives bytes new (Ok None))
GivesHead old new head (Err fault) = Took old new (λ bytes. IsFault bytes new fault)

-- what reading the kind after a length gives: the length of the body, or a fault
abbrev pub GivesKind : List ℕ → Option (List ℕ) → Option (List ℕ) → List ℕ → Result ℕ FrameFault → Type 0
GivesKind front old new head (Ok count) =
    (length head ≡ 5) × Took old new (λ bytes. head ≡ front ++ bytes) × (lacking head ≡ Ok count)
GivesKind front old new head (Err fault) = Took old new (λ bytes. IsFault (front ++ bytes) new fault)

-- what reading on gives, after these bytes of a frame were read
abbrev pub GivesBehind : List ℕ → Option (List ℕ) → Option (List ℕ) → Result Frame FrameFault → Type 0
GivesBehind front old new (Ok frame) = Took old new (λ bytes. IsFirst (front ++ bytes) frame [])
GivesBehind front old new (Err fault) = Took old new (λ bytes. IsFault (front ++ bytes) new fault)

-- the same of an answer whose frame has this body
abbrev pub AnswersBehind : List ℕ → Option (List ℕ) → Option (List ℕ) → List ℕ → Result BrokerAnswer FrameFault → Type 0
AnswersBehind front old new body (Ok answer) = Took old new (λ bytes. IsAnswer (front ++ bytes) body answer)
AnswersBehind front old new body (Err fault) = Took old new (λ bytes. IsFault (front ++ bytes) new fault)
