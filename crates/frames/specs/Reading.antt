-- How a body is read as a frame, and what is at the front of a stream of bytes. (This project's own.)
use Rattle.std.specs.Prelude.{◌≡◌, ℕ, suc, zero, ◌+◌, ◌*◌, ◌==◌, nat_lt, nat_le, ◌&&◌, List, [], ◌∷◌, length, take, drop, slice_index, Option, Some, None, Result, Ok, Err, if◌then◌else◌}
use Rattle.std.specs.Int.{Width, w16, w32, w64, byte_len}
use Rattle.byte_codec.specs.Field.{number_in}
use Rattle.byte_codec.specs.Reading.{◌>>=◌, number_at}
use Rattle.takeover_core.specs.declared.message.Message.{Message}
use Rattle.takeover_core.specs.declared.message.Message.TheVariants.{Offer, Choice, NoCommon, Busy, Ready, Pong, Data, Part, Failed}
use Rattle.frames.specs.declared.fault.FrameFault.{FrameFault}
use Rattle.frames.specs.declared.fault.FrameFault.TheVariants.{TooLong, BadKind, BadBody}
use Rattle.frames.specs.declared.frame.Frame.{Frame}
use Rattle.frames.specs.declared.frame.Frame.TheVariants.{Take, Ask, Empty, Post, Posted, Ended, Stale, NotAsked, Claim, Claimed, Unanswered, LastGeneration, Mount, Mounted, Seated, Attach, Attached, Takeover}
use Rattle.frames.specs.declared.kind.FrameKind.{FrameKind}
use Rattle.frames.specs.declared.kind.FrameKind.TheVariants as kinds
use Rattle.frames.specs.declared.kind.MessageKind.{MessageKind}
use Rattle.frames.specs.declared.kind.MessageKind.TheVariants as messages
use Rattle.frames.specs.FrameText.{longest_body}
use Rattle.frames.specs.Kind.{kind_with}

-- ---- bodies, as they are read

-- a call returned what reading gives: the value, seen by `view`, or BadBody
abbrev pub Is : {X Y : Type 0} → (X → Y) → Result X FrameFault → Result Y FrameFault → Type 0
Is view (Ok x) read = read ≡ Ok (view x)
Is view (Err fault) read = (fault ≡ BadBody) × (read ≡ Err BadBody)

-- the number that a body is, if it has as many bytes as the width, else BadBody
unfoldable pub alone : Width → List ℕ → Result ℕ FrameFault
alone width body = if length body == byte_len width then Ok (number_in width body) else Err BadBody

-- the number at the front of a body and what follows it, or BadBody if there are too few bytes
abbrev pub front : Width → List ℕ → Result (ℕ × List ℕ) FrameFault
front width body = number_at BadBody width body

-- nothing if the body is empty, else BadBody
unfoldable pub nothing : List ℕ → Result (Unit {0}) FrameFault
nothing [] = Ok tt
nothing (byte ∷ rest) = Err BadBody

-- this many numbers at the front of the bytes, of two bytes each
abbrev pub numbers_at : ℕ → List ℕ → List ℕ
numbers_at zero bytes = []
numbers_at (suc n) bytes = number_in w16 (take 2 bytes) ∷ numbers_at n (drop 2 bytes)

-- the versions in a body: a count of at most eight, and then as many versions; or BadBody
unfoldable pub versions_of : List ℕ → Result (List ℕ) FrameFault
versions_of [] = Err BadBody
versions_of (count ∷ rest) =
    if nat_le count 8 && length rest == 2 * count then Ok (numbers_at count rest) else Err BadBody

-- the message of this kind with this body, or BadBody
unfoldable pub message_of : MessageKind → List ℕ → Result Message FrameFault
message_of messages.Offer body = versions_of body >>= λ versions. Ok (Offer versions)
message_of messages.Choice body = do
  session ← front w32 body
  version ← alone w16 session.1
  Ok (Choice session.0 version)
message_of messages.NoCommon body = nothing body >>= λ _. Ok NoCommon
message_of messages.Busy body = nothing body >>= λ _. Ok Busy
message_of messages.Ready body = do
  session ← front w32 body
  generation ← alone w64 session.1
  Ok (Ready session.0 generation)
message_of messages.Pong body = alone w32 body >>= λ session. Ok (Pong session)
message_of messages.Data body = do
  session ← front w32 body
  generation ← front w64 session.1
  Ok (Data session.0 generation.0 generation.1)
message_of messages.Part body = do
  session ← front w32 body
  generation ← front w64 session.1
  position ← front w32 generation.1
  count ← front w32 position.1
  Ok (Part session.0 generation.0 position.0 count.0 count.1)
message_of messages.Failed body = alone w32 body >>= λ session. Ok (Failed session)

-- this frame, which has no field, if the body is empty, else BadBody
abbrev pub bare : Frame → List ℕ → Result Frame FrameFault
bare frame body = nothing body >>= λ _. Ok frame

-- the frame of this kind with this body, or BadBody
unfoldable pub frame_of : FrameKind → List ℕ → Result Frame FrameFault
frame_of kinds.Take body = alone w64 body >>= λ generation. Ok (Take generation)
frame_of kinds.Ask body = Ok (Ask body)
frame_of kinds.Empty body = bare Empty body
frame_of kinds.Post body = front w64 body >>= λ generation. Ok (Post generation.0 generation.1)
frame_of kinds.Posted body = bare Posted body
frame_of kinds.Ended body = bare Ended body
frame_of kinds.Stale body = alone w64 body >>= λ now. Ok (Stale now)
frame_of kinds.NotAsked body = bare NotAsked body
frame_of kinds.Claim body = alone w64 body >>= λ generation. Ok (Claim generation)
frame_of kinds.Claimed body = alone w64 body >>= λ generation. Ok (Claimed generation)
frame_of kinds.Unanswered body = alone w64 body >>= λ asks. Ok (Unanswered asks)
frame_of kinds.LastGeneration body = bare LastGeneration body
frame_of kinds.Mount body = bare Mount body
frame_of kinds.Mounted body = alone w64 body >>= λ generation. Ok (Mounted generation)
frame_of kinds.Seated body = bare Seated body
frame_of kinds.Attach body = alone w64 body >>= λ daemon. Ok (Attach (record { 0 = daemon }))
frame_of kinds.Attached body = alone w64 body >>= λ daemon. Ok (Attached (record { 0 = daemon }))
frame_of (kinds.Takeover kind) body = message_of kind body >>= λ message. Ok (Takeover message)

-- ---- the front of a stream

-- what is at the front of a stream: a frame, and this rest after it; or a faulty frame; or no whole frame yet
pub data Said : Type 0 where
  First : (frame : Frame) (rest : List ℕ) → Said
  Faulty : (fault : FrameFault) → Said
  NotYet : Said

-- the length of the first body, as the first four bytes say
abbrev pub body_len : List ℕ → ℕ
body_len bytes = number_in w32 (take 4 bytes)

-- the first body; `behind` is what follows it
abbrev pub body_in : List ℕ → List ℕ
body_in bytes = take (body_len bytes) (drop 5 bytes)

abbrev pub behind : List ℕ → List ℕ
behind bytes = drop (5 + body_len bytes) bytes

-- what is at the front of a stream, once its first body was read: the frame and the rest after it, or the fault
abbrev pub said_frame : Result Frame FrameFault → List ℕ → Said
said_frame (Ok frame) rest = First frame rest
said_frame (Err fault) rest = Faulty fault

-- what is at the front, once the number of the kind is there, by the kind that has the number, if any
abbrev pub said_by : Option FrameKind → List ℕ → Said
said_by None bytes = Faulty BadKind
said_by (Some kind) bytes =
    if nat_lt (length bytes) (5 + body_len bytes) then NotYet
    else said_frame (frame_of kind (body_in bytes)) (behind bytes)

-- what is at the front of a stream of bytes
unfoldable pub said : List ℕ → Said
said bytes =
    if nat_lt (length bytes) 4 then NotYet
    else if nat_lt longest_body (body_len bytes) then Faulty TooLong
    else if nat_lt (length bytes) 5 then NotYet
    else said_by (kind_with (slice_index bytes 4)) bytes
