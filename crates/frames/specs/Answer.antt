-- What a frame is as the answer to a Take or a Post. (This project's own.)
use Rattle.std.specs.Prelude.{◌≡◌, ℕ, List, []}
use Rattle.std.specs.Int.{w64}
use Rattle.byte_codec.specs.Field.{number_in}
use Rattle.frames.specs.declared.answer.BrokerAnswer.{BrokerAnswer}
use Rattle.frames.specs.declared.answer.BrokerAnswer.TheVariants as answers
use Rattle.frames.specs.declared.frame.Frame.{Frame}
use Rattle.frames.specs.declared.frame.Frame.TheVariants.{Ask, Empty, Posted, Ended, Stale}
use Rattle.frames.specs.declared.kind.FrameKind.{FrameKind}
use Rattle.frames.specs.declared.kind.FrameKind.TheVariants as kinds
use Rattle.frames.specs.FrameText.{body_of}
use Rattle.frames.specs.Says.{IsFirst}

-- the answer that a frame is; a frame of any other kind answers neither a Take nor a Post
abbrev pub answer_of : Frame → BrokerAnswer
answer_of (Ask request) = answers.Ask
answer_of Empty = answers.Empty
answer_of Posted = answers.Posted
answer_of Ended = answers.Ended
answer_of (Stale now) = answers.Stale now
answer_of frame = answers.Other

-- the bytes are the text of a frame with this body, which is this answer
pub record IsAnswer (bytes body : List ℕ) (answer : BrokerAnswer) : Type 0 where
  pub frame : Frame
  pub is_first : IsFirst bytes frame []
  pub has_body : body_of frame ≡ body
  pub is_told : answer ≡ answer_of frame

-- the answer that a frame of this kind and with this body is
abbrev pub answer_by : FrameKind → List ℕ → BrokerAnswer
answer_by kinds.Ask body = answers.Ask
answer_by kinds.Empty body = answers.Empty
answer_by kinds.Posted body = answers.Posted
answer_by kinds.Ended body = answers.Ended
answer_by kinds.Stale body = answers.Stale (number_in w64 body)
answer_by kind body = answers.Other
