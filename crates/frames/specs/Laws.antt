-- The laws of frames and streams.
use Rattle.std.specs.Prelude.{◌≡◌, ◌≢◌, ◌↔◌, List, ℕ, [], ◌∷◌, ◌++◌, Option, Some, None}
use Rattle.byte_codec.specs.Field.{AreBytes}
use Rattle.frames.specs.declared.fault.FrameFault.{FrameFault}
use Rattle.frames.specs.declared.fault.FrameFault.TheVariants.{Torn}
use Rattle.frames.specs.declared.frame.Frame.{Frame}
use Rattle.frames.specs.FrameText.{Fits, frame_text}
use Rattle.frames.specs.Reading.{Said, First, Faulty, NotYet, said}
use Rattle.frames.specs.Says.{Says}
use Rattle.frames.specs.Stream.{Ends}

-- the text of a frame is read as that frame, and the bytes after it are left
abbrev pub ReadsWhatWasWritten : Type 0
ReadsWhatWasWritten =
    (frame : Frame) (text rest : List ℕ) →
    Fits frame → frame_text frame ≡ Some text → said (text ++ rest) ≡ First frame rest

-- what a stream says, with more bytes after it
abbrev pub grown : Said → List ℕ → Said
grown (First frame rest) more = First frame (rest ++ more)
grown what more = what

-- bytes that follow do not change what a stream says, so that the pieces in which it comes make no difference
abbrev pub MoreChangesNothing : Type 0
MoreChangesNothing =
    (bytes more : List ℕ) → said bytes ≢ NotYet → said (bytes ++ more) ≡ grown (said bytes) more

-- a stream is read as what the texts of frames say, and these say nothing else
abbrev pub SaysWhatIsRead : Type 0
SaysWhatIsRead = (bytes : List ℕ) (what : Said) → AreBytes bytes → (Says bytes what ↔ (said bytes ≡ what))

-- a stream ends in one way only
abbrev pub EndsOneWay : Type 0
EndsOneWay = (bytes : List ℕ) (end other : Option FrameFault) → Ends bytes end → Ends bytes other → end ≡ other

-- these frames stand at the front of the bytes, one after the other, and then comes this rest
abbrev pub AreFirst : List ℕ → List Frame → List ℕ → Type 0
AreFirst bytes [] rest = bytes ≡ rest
AreFirst bytes (frame ∷ frames) rest =
    (others : List ℕ) × (said bytes ≡ First frame others) × AreFirst others frames rest

-- frames at the front of what was fed are at the front of all that is fed
abbrev pub PiecesJoin : Type 0
PiecesJoin =
    (bytes rest more : List ℕ) (frames : List Frame) →
    AreFirst bytes frames rest → AreFirst (bytes ++ more) frames (rest ++ more)

-- a frame that is taken next follows the frames that were taken before
abbrev pub FramesJoin : Type 0
FramesJoin =
    (bytes rest left : List ℕ) (frames : List Frame) (frame : Frame) →
    AreFirst bytes frames rest → said rest ≡ First frame left → AreFirst bytes (frames ++ frame ∷ []) left

-- what is left of a stream after its whole frames: bytes in which no frame is whole, or bytes that begin with a faulty
-- one
pub data Tail : Type 0 where
  Rest : (rest : List ℕ) → Tail
  FaultyRest : (fault : FrameFault) (rest : List ℕ) → Tail

-- a stream consists of these whole frames, one after the other, and this tail
abbrev pub Parts : List ℕ → List Frame → Tail → Type 0
Parts bytes frames (Rest rest) = AreFirst bytes frames rest × (said rest ≡ NotYet)
Parts bytes frames (FaultyRest fault rest) = AreFirst bytes frames rest × (said rest ≡ Faulty fault)

-- each stream consists of whole frames and a tail
abbrev pub HasAParting : Type 0
HasAParting = (bytes : List ℕ) → (frames : List Frame) × (tail : Tail) × Parts bytes frames tail

-- a stream consists of whole frames and a tail in one way only
abbrev pub HasOneParting : Type 0
HasOneParting =
    (bytes : List ℕ) (frames others : List Frame) (tail other : Tail) →
    Parts bytes frames tail → Parts bytes others other → (frames ≡ others) × (tail ≡ other)

-- a faulty frame still follows the same frames, whatever bytes follow
abbrev pub FaultStays : Type 0
FaultStays =
    (bytes rest more : List ℕ) (frames : List Frame) (fault : FrameFault) →
    Parts bytes frames (FaultyRest fault rest) → Parts (bytes ++ more) frames (FaultyRest fault (rest ++ more))

-- how a stream with this tail ends: torn if bytes are left in which no frame is whole, else without a fault
abbrev pub end_with : Tail → Option FrameFault
end_with (Rest []) = None
end_with (Rest (byte ∷ rest)) = Some Torn
end_with (FaultyRest fault rest) = None

-- a stream ends as its tail says
abbrev pub EndsAsItParts : Type 0
EndsAsItParts =
    (bytes : List ℕ) (frames : List Frame) (tail : Tail) (end : Option FrameFault) →
    Parts bytes frames tail → (Ends bytes end ↔ (end ≡ end_with tail))
