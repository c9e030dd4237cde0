-- The text of a frame: the length of its body in four bytes, the number of its kind in one byte, and its body. (This
-- project's own.)
use Rattle.std.specs.Prelude.{◌≡◌, ◌<◌, ◌≤◌, ◌+◌, ◌^◌, ℕ, nat_lt, List, [], ◌∷◌, ◌++◌, length, Option, Some, None, IsSome, if◌then◌else◌, vec_capacity}
use Rattle.std.specs.Global.{Vec}
use Rattle.std.specs.Int.{w16, w32, w64}
use Rattle.std.specs.List.{All, flat_map}
use Rattle.byte_codec.specs.Field.{number_bytes}
use Rattle.takeover_core.specs.declared.message.Message.{Message}
use Rattle.takeover_core.specs.declared.message.Message.TheVariants.{Offer, Choice, NoCommon, Busy, Ready, Pong, Data, Part, Failed}
use Rattle.frames.specs.declared.fault.FrameFault.{FrameFault}
use Rattle.frames.specs.declared.fault.FrameFault.TheVariants.{TooLong, NoMemory}
use Rattle.frames.specs.declared.frame.Frame.{Frame}
use Rattle.frames.specs.declared.frame.Frame.TheVariants.{Take, Ask, Empty, Post, Posted, Ended, Stale, NotAsked, Claim, Claimed, Unanswered, LastGeneration, Mount, Mounted, Seated, Attach, Attached, Takeover}
use Rattle.frames.specs.declared.kind.FrameKind.{FrameKind}
use Rattle.frames.specs.declared.kind.FrameKind.TheVariants as kinds
use Rattle.frames.specs.declared.kind.MessageKind.{MessageKind}
use Rattle.frames.specs.declared.kind.MessageKind.TheVariants as messages
use Rattle.frames.specs.Kind.{number_of}

-- how many bytes a body may have
abbrev pub longest_body : ℕ
longest_body = 65536

-- ---- kinds

abbrev pub message_kind : Message → MessageKind
message_kind (Offer versions) = messages.Offer
message_kind (Choice session version) = messages.Choice
message_kind NoCommon = messages.NoCommon
message_kind Busy = messages.Busy
message_kind (Ready session generation) = messages.Ready
message_kind (Pong session) = messages.Pong
message_kind (Data session generation bytes) = messages.Data
message_kind (Part session generation position count bytes) = messages.Part
message_kind (Failed session) = messages.Failed

abbrev pub kind_of : Frame → FrameKind
kind_of (Take generation) = kinds.Take
kind_of (Ask request) = kinds.Ask
kind_of Empty = kinds.Empty
kind_of (Post generation reply) = kinds.Post
kind_of Posted = kinds.Posted
kind_of Ended = kinds.Ended
kind_of (Stale now) = kinds.Stale
kind_of NotAsked = kinds.NotAsked
kind_of (Claim generation) = kinds.Claim
kind_of (Claimed generation) = kinds.Claimed
kind_of (Unanswered asks) = kinds.Unanswered
kind_of LastGeneration = kinds.LastGeneration
kind_of Mount = kinds.Mount
kind_of (Mounted generation) = kinds.Mounted
kind_of Seated = kinds.Seated
kind_of (Attach daemon) = kinds.Attach
kind_of (Attached daemon) = kinds.Attached
kind_of (Takeover message) = kinds.Takeover (message_kind message)

-- ---- bodies

-- a version, in two bytes
abbrev pub version_text : ℕ → List ℕ
version_text version = number_bytes w16 version

-- the body of a takeover's message: its fields
abbrev pub message_body : Message → List ℕ
message_body (Offer versions) = length versions ∷ flat_map version_text versions
message_body (Choice session version) = number_bytes w32 session ++ number_bytes w16 version
message_body NoCommon = []
message_body Busy = []
message_body (Ready session generation) = number_bytes w32 session ++ number_bytes w64 generation
message_body (Pong session) = number_bytes w32 session
message_body (Data session generation bytes) = number_bytes w32 session ++ (number_bytes w64 generation ++ bytes)
message_body (Part session generation position count bytes) =
    number_bytes w32 session
    ++ (number_bytes w64 generation ++ (number_bytes w32 position ++ (number_bytes w32 count ++ bytes)))
message_body (Failed session) = number_bytes w32 session

-- the body of a frame: its fields
abbrev pub body_of : Frame → List ℕ
body_of (Take generation) = number_bytes w64 generation
body_of (Ask request) = request
body_of Empty = []
body_of (Post generation reply) = number_bytes w64 generation ++ reply
body_of Posted = []
body_of Ended = []
body_of (Stale now) = number_bytes w64 now
body_of NotAsked = []
body_of (Claim generation) = number_bytes w64 generation
body_of (Claimed generation) = number_bytes w64 generation
body_of (Unanswered asks) = number_bytes w64 asks
body_of LastGeneration = []
body_of Mount = []
body_of (Mounted generation) = number_bytes w64 generation
body_of Seated = []
body_of (Attach daemon) = number_bytes w64 daemon.0
body_of (Attached daemon) = number_bytes w64 daemon.0
body_of (Takeover message) = message_body message

-- ---- texts

-- the text of a frame with this kind and this body: the length of the body, the number of the kind, the body
abbrev pub framed : FrameKind → List ℕ → List ℕ
framed kind body = number_bytes w32 (length body) ++ (number_of kind ∷ body)

-- the text of a frame, if its body is not too long
abbrev pub frame_text : Frame → Option (List ℕ)
frame_text frame =
    if nat_lt longest_body (length (body_of frame)) then None
    else Some (framed (kind_of frame) (body_of frame))

-- a frame is not written for this cause: it has no text, or it has one and memory was refused
abbrev pub IsNotWritten : Frame → FrameFault → Type 0
IsNotWritten frame TooLong = frame_text frame ≡ None
IsNotWritten frame NoMemory = IsSome (frame_text frame)
IsNotWritten frame fault = ⊥

-- the fault is another one than that memory was refused
abbrev pub IsNotMemory : FrameFault → Type 0
IsNotMemory NoMemory = ⊥
IsNotMemory fault = Unit {0}

-- there is room for the text of this frame, whatever else is there
abbrev pub HasRoomFor : Frame → Vec ℕ → Type 0
HasRoomFor frame text = 5 + length (body_of frame) ≤ vec_capacity text

-- ---- numbers that fit their fields, as those of every frame in a program do

-- a version fits its two bytes
abbrev pub FitsVersion : ℕ → Type 0
FitsVersion version = version < 2 ^ 16

abbrev pub FitsMessage : Message → Type 0
FitsMessage (Offer versions) = (length versions ≤ 8) × All FitsVersion versions
FitsMessage (Choice session version) = (session < 2 ^ 32) × (version < 2 ^ 16)
FitsMessage (Ready session generation) = (session < 2 ^ 32) × (generation < 2 ^ 64)
FitsMessage (Pong session) = session < 2 ^ 32
FitsMessage (Data session generation bytes) = (session < 2 ^ 32) × (generation < 2 ^ 64)
FitsMessage (Part session generation position count bytes) =
    (session < 2 ^ 32) × (generation < 2 ^ 64) × (position < 2 ^ 32) × (count < 2 ^ 32)
FitsMessage (Failed session) = session < 2 ^ 32
FitsMessage message = Unit {0}

abbrev pub Fits : Frame → Type 0
Fits (Take generation) = generation < 2 ^ 64
Fits (Post generation reply) = generation < 2 ^ 64
Fits (Stale now) = now < 2 ^ 64
Fits (Claim generation) = generation < 2 ^ 64
Fits (Claimed generation) = generation < 2 ^ 64
Fits (Unanswered asks) = asks < 2 ^ 64
Fits (Mounted generation) = generation < 2 ^ 64
Fits (Attach daemon) = daemon.0 < 2 ^ 64
Fits (Attached daemon) = daemon.0 < 2 ^ 64
Fits (Takeover message) = FitsMessage message
Fits frame = Unit {0}
