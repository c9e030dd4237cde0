-- The frames that another daemon is sent, as the bytes that are written. (This project's own.)
use Rattle.std.specs.Prelude.{◌≡◌, ℕ, Bool, true, false, List, ◌∷◌, ◌++◌, map, Option, Some, Err}
use Rattle.std.specs.Io.KnownBytes.{Appends}
use Rattle.std.specs.List.{concat}
use Rattle.frames.specs.FrameText.{frame_text}
use Rattle.frames.specs.declared.fault.FrameFault.{FrameFault}
use Rattle.frames.specs.declared.frame.Frame.{Frame}
use Rattle.links.specs.Writing.{Writes}

-- each frame has a text, and these texts were written in order
pub record SendsAll (frames : List Frame) (old new : Option (List ℕ)) : Type 0 where
  pub texts : List (List ℕ)
  pub are_texts : map frame_text frames ≡ map Some texts
  pub written : Appends old new (concat texts)

-- One frame was written in part or not at all. The frames before were written whole, and none after.
pub record SendsSome (frames : List Frame) (old new : Option (List ℕ)) : Type 0 where
  pub before : List Frame
  pub failed : Frame
  pub behind : List Frame
  pub parted : frames ≡ before ++ failed ∷ behind
  pub mid : Option (List ℕ)
  pub sent : SendsAll before old mid
  pub fault : FrameFault
  pub fails : Writes mid new failed (Err fault)

-- all frames were written, or not all
abbrev pub SendsBy : Bool → List Frame → Option (List ℕ) → Option (List ℕ) → Type 0
SendsBy true frames old new = SendsAll frames old new
SendsBy false frames old new = SendsSome frames old new
