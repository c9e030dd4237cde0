-- How a stream of bytes ends. (This project's own.)
use Rattle.std.specs.Prelude.{◌≡◌, ◌≢◌, ℕ, List, [], Option, Some, None}
use Rattle.frames.specs.declared.fault.FrameFault.{FrameFault}
use Rattle.frames.specs.declared.fault.FrameFault.TheVariants.{Torn}
use Rattle.frames.specs.declared.frame.Frame.{Frame}
use Rattle.frames.specs.Reading.{First, Faulty, NotYet, said}

-- how a stream ends if no byte follows: torn within a frame; else without a fault, after whole frames or at a faulty
-- one
pub data Ends : List ℕ → Option FrameFault → Type 0 where
  Whole : Ends [] None
  Cut : {bytes : List ℕ} → bytes ≢ [] → said bytes ≡ NotYet → Ends bytes (Some Torn)
  Bad : {bytes : List ℕ} {fault : FrameFault} → said bytes ≡ Faulty fault → Ends bytes None
  Behind : {bytes rest : List ℕ} {frame : Frame} {end : Option FrameFault} →
      said bytes ≡ First frame rest → Ends rest end → Ends bytes end
