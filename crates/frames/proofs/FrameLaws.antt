-- A body that is read is the one that was written.
use Rattle.std.proofs.Common.{◌≡◌, ◌^◌, ◌++◌, Ok, Some, refl}
use Rattle.std.specs.Int.{w16, w32, w64}
use Rattle.byte_codec.specs.Field.{number_bytes}
use Rattle.byte_codec.proofs.FieldLaws.{two, four, eight, number_again}
use Rattle.takeover_core.specs.declared.message.Message.{Message}
use Rattle.takeover_core.specs.declared.message.Message.TheVariants.{Offer, Choice, NoCommon, Busy, Ready, Pong, Data, Part, Failed}
use Rattle.frames.specs.declared.fault.FrameFault.TheVariants.{BadBody}
use Rattle.frames.specs.declared.frame.Frame.{Frame}
use Rattle.frames.specs.declared.frame.Frame.TheVariants.{Take, Ask, Empty, Post, Posted, Ended, Stale, NotAsked, Claim, Claimed, Unanswered, LastGeneration, Mount, Mounted, Seated, Attach, Attached, Takeover}
use Rattle.frames.specs.declared.kind.FrameKind.{FrameKind}
use Rattle.frames.specs.declared.kind.FrameKind.TheVariants as kinds
use Rattle.frames.specs.declared.kind.MessageKind.TheVariants as messages
use Rattle.frames.specs.FrameText.{Fits, FitsMessage, body_of, kind_of, message_body, message_kind}
use Rattle.frames.specs.Kind.{kind_with, message_kind_with, number_of}
use Rattle.frames.specs.Reading.{frame_of, message_of, nothing}
use Rattle.frames.proofs.FieldLaws.{alone_again, versions_again}

pub kind_again : (kind : FrameKind) → kind_with (number_of kind) ≡ Some kind
unfolding kind_with message_kind_with
kind_again kinds.Take = refl
kind_again kinds.Ask = refl
kind_again kinds.Empty = refl
kind_again kinds.Post = refl
kind_again kinds.Posted = refl
kind_again kinds.Ended = refl
kind_again kinds.Stale = refl
kind_again kinds.NotAsked = refl
kind_again kinds.Claim = refl
kind_again kinds.Claimed = refl
kind_again kinds.Unanswered = refl
kind_again kinds.LastGeneration = refl
kind_again kinds.Mount = refl
kind_again kinds.Mounted = refl
kind_again kinds.Seated = refl
kind_again kinds.Attach = refl
kind_again kinds.Attached = refl
kind_again (kinds.Takeover messages.Offer) = refl
kind_again (kinds.Takeover messages.Choice) = refl
kind_again (kinds.Takeover messages.NoCommon) = refl
kind_again (kinds.Takeover messages.Busy) = refl
kind_again (kinds.Takeover messages.Ready) = refl
kind_again (kinds.Takeover messages.Pong) = refl
kind_again (kinds.Takeover messages.Data) = refl
kind_again (kinds.Takeover messages.Failed) = refl
kind_again (kinds.Takeover messages.Part) = refl

pub message_again : (message : Message) → FitsMessage message → message_of (message_kind message) (message_body message) ≡ Ok message
unfolding message_of nothing
message_again (Offer versions) fit = rw (versions_again versions fit.0 fit.1) refl
message_again (Choice session version) fit =
    rw (number_again BadBody w32 (2 ^ 32) session (number_bytes w16 version) four fit.0, alone_again two version fit.1) refl
message_again NoCommon fit = refl
message_again Busy fit = refl
message_again (Ready session generation) fit =
    rw (number_again BadBody w32 (2 ^ 32) session (number_bytes w64 generation) four fit.0, alone_again eight generation fit.1) refl
message_again (Pong session) fit = rw (alone_again four session fit) refl
message_again (Data session generation bytes) fit =
    rw (number_again BadBody w32 (2 ^ 32) session (number_bytes w64 generation ++ bytes) four fit.0, number_again BadBody w64 (2 ^ 64) generation bytes eight fit.1) refl
message_again (Part session generation position count bytes) fit =
    rw (
      number_again BadBody w32 (2 ^ 32) session (number_bytes w64 generation ++ (number_bytes w32 position ++ (number_bytes w32 count ++ bytes))) four fit.0,
      number_again BadBody w64 (2 ^ 64) generation (number_bytes w32 position ++ (number_bytes w32 count ++ bytes)) eight fit.1,
      number_again BadBody w32 (2 ^ 32) position (number_bytes w32 count ++ bytes) four fit.2,
      number_again BadBody w32 (2 ^ 32) count bytes four fit.3,
    ) refl
message_again (Failed session) fit = rw (alone_again four session fit) refl

pub body_again : (frame : Frame) → Fits frame → frame_of (kind_of frame) (body_of frame) ≡ Ok frame
unfolding frame_of nothing
body_again (Take generation) fit = rw (alone_again eight generation fit) refl
body_again (Ask request) fit = refl
body_again Empty fit = refl
body_again (Post generation reply) fit = rw (number_again BadBody w64 (2 ^ 64) generation reply eight fit) refl
body_again Posted fit = refl
body_again Ended fit = refl
body_again (Stale now) fit = rw (alone_again eight now fit) refl
body_again NotAsked fit = refl
body_again (Claim generation) fit = rw (alone_again eight generation fit) refl
body_again (Claimed generation) fit = rw (alone_again eight generation fit) refl
body_again (Unanswered asks) fit = rw (alone_again eight asks fit) refl
body_again LastGeneration fit = refl
body_again Mount fit = refl
body_again (Mounted generation) fit = rw (alone_again eight generation fit) refl
body_again Seated fit = refl
body_again (Attach daemon) fit = rw (alone_again eight daemon.0 fit) refl
body_again (Attached daemon) fit = rw (alone_again eight daemon.0 fit) refl
body_again (Takeover message) fit = rw (message_again message fit) refl
