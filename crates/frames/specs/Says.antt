-- What a stream of bytes says, by the texts of frames alone. (This project's own.)
use Rattle.std.specs.Prelude.{◌≡◌, ◌≢◌, ◌⊎◌, ◌<◌, ◌≤◌, ℕ, ◌+◌, List, ◌++◌, length, slice_index, Some}
use Rattle.frames.specs.declared.fault.FrameFault.TheVariants.{TooLong, BadKind, BadBody}
use Rattle.frames.specs.declared.frame.Frame.{Frame}
use Rattle.frames.specs.declared.kind.FrameKind.{FrameKind}
use Rattle.frames.specs.FrameText.{Fits, body_of, frame_text, kind_of, longest_body}
use Rattle.frames.specs.Kind.{number_of}
use Rattle.frames.specs.Reading.{Said, First, Faulty, NotYet, body_in, body_len}

-- the bytes are the text of this frame, and then this rest
pub record IsFirst (bytes : List ℕ) (frame : Frame) (rest : List ℕ) : Type 0 where
  pub text : List ℕ
  pub is_text : frame_text frame ≡ Some text
  pub in_front : bytes ≡ text ++ rest
  pub fits : Fits frame

-- the length of a body is whole, and not too long
pub record HasLength (bytes : List ℕ) : Type 0 where
  pub whole : 4 ≤ length bytes
  pub few : body_len bytes ≤ longest_body

-- such a length is followed by the number of this kind
pub record HasKind (bytes : List ℕ) (kind : FrameKind) : Type 0 where
  pub len : HasLength bytes
  pub whole : 5 ≤ length bytes
  pub number : slice_index bytes 4 ≡ number_of kind

-- no frame of this kind has this body
abbrev pub IsNoBody : FrameKind → List ℕ → Type 0
IsNoBody kind body = (frame : Frame) → Fits frame → kind_of frame ≡ kind → body_of frame ≢ body

-- what the bytes say, by texts. A frame: its text is in front. TooLong: the length is whole and too long. BadKind: a
-- length is followed by the number of no kind. BadBody: the body is whole and no frame's. NotYet: the length is not
-- whole, or nothing follows it, or the body is not whole.
abbrev pub Says : List ℕ → Said → Type 0
Says bytes (First frame rest) = IsFirst bytes frame rest
Says bytes (Faulty TooLong) = (4 ≤ length bytes) × (longest_body < body_len bytes)
Says bytes (Faulty BadKind) =
    HasLength bytes × (5 ≤ length bytes) × ((kind : FrameKind) → slice_index bytes 4 ≢ number_of kind)
Says bytes (Faulty BadBody) =
    (kind : FrameKind) × HasKind bytes kind × (5 + body_len bytes ≤ length bytes) × IsNoBody kind (body_in bytes)
Says bytes (Faulty fault) = ⊥
Says bytes NotYet =
    (length bytes < 4)
    ⊎ ((HasLength bytes × (length bytes ≡ 4))
    ⊎ ((kind : FrameKind) × HasKind bytes kind × (length bytes < 5 + body_len bytes)))
