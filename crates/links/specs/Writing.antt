-- What writing a frame appends to what a writer holds. (This project's own.)
use Rattle.std.specs.Prelude.{◌≡◌, ◌<◌, ℕ, List, length, take, Option, Some, Result, Ok, Err}
use Rattle.std.specs.Io.KnownBytes.{Appends, Keeps}
use Rattle.frames.specs.declared.fault.FrameFault.{FrameFault}
use Rattle.frames.specs.declared.fault.FrameFault.TheVariants.{Write}
use Rattle.frames.specs.declared.frame.Frame.{Frame}
use Rattle.frames.specs.FrameText.{IsNotWritten, frame_text}

-- the whole text of a frame was written
pub record Sends (old new : Option (List ℕ)) (frame : Frame) : Type 0 where
  pub text : List ℕ
  pub is_text : frame_text frame ≡ Some text
  pub written : Appends old new text

-- a part of a text was written, from its front, and not all of it
pub record Cuts (old new : Option (List ℕ)) (text : List ℕ) : Type 0 where
  pub count : ℕ
  pub fewer : count < length text
  pub written : Appends old new (take count text)

-- only a part of a frame's text was written
pub record SendsPart (old new : Option (List ℕ)) (frame : Frame) : Type 0 where
  pub text : List ℕ
  pub is_text : frame_text frame ≡ Some text
  pub part : Cuts old new text

-- the outcome of writing a frame: its text was appended; or a part of it, if a write failed; or nothing, if the frame
-- has no text or memory was refused for it
abbrev pub Writes : Option (List ℕ) → Option (List ℕ) → Frame → Result (Unit {0}) FrameFault → Type 0
Writes old new frame (Ok done) = Sends old new frame
Writes old new frame (Err Write) = SendsPart old new frame
Writes old new frame (Err fault) = Keeps old new × IsNotWritten frame fault
