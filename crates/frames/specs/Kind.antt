-- The kinds of frames, a number for each. (This project's own.)
use Rattle.std.specs.Prelude.{ℕ, List, [], ◌∷◌, ◌==◌, Option, Some, None, if◌then◌else◌}
use Rattle.frames.specs.declared.kind.FrameKind.{FrameKind}
use Rattle.frames.specs.declared.kind.FrameKind.TheVariants as kinds
use Rattle.frames.specs.declared.kind.MessageKind.{MessageKind}
use Rattle.frames.specs.declared.kind.MessageKind.TheVariants as messages

-- the number of each kind of message
abbrev pub message_number : MessageKind → ℕ
message_number messages.Offer = 32
message_number messages.Choice = 33
message_number messages.NoCommon = 34
message_number messages.Busy = 35
message_number messages.Ready = 36
message_number messages.Pong = 37
message_number messages.Data = 38
message_number messages.Failed = 39
message_number messages.Part = 40

-- the number of each kind of frame
abbrev pub number_of : FrameKind → ℕ
number_of kinds.Take = 1
number_of kinds.Ask = 2
number_of kinds.Empty = 3
number_of kinds.Post = 4
number_of kinds.Posted = 5
number_of kinds.Ended = 6
number_of kinds.Stale = 7
number_of kinds.NotAsked = 8
number_of kinds.Claim = 9
number_of kinds.Claimed = 10
number_of kinds.Unanswered = 11
number_of kinds.LastGeneration = 12
number_of kinds.Mount = 13
number_of kinds.Mounted = 14
number_of kinds.Seated = 15
number_of kinds.Attach = 16
number_of kinds.Attached = 17
number_of (kinds.Takeover kind) = message_number kind

-- the first of these kinds that has number n, or `left` if none of them has
abbrev pub first_with : {K : Type 0} → (K → ℕ) → ℕ → List K → Option K → Option K
first_with number n [] left = left
first_with number n (kind ∷ others) left = if n == number kind then Some kind else first_with number n others left

-- all kinds of messages
abbrev pub message_kinds : List MessageKind
message_kinds = messages.Offer ∷ messages.Choice ∷ messages.NoCommon ∷ messages.Busy ∷ messages.Ready ∷ messages.Pong ∷ messages.Data ∷ messages.Failed ∷ messages.Part ∷ []

-- the kind of message that has this number, if there is one
unfoldable pub message_kind_with : ℕ → Option MessageKind
message_kind_with n = first_with message_number n message_kinds None

-- all kinds of frames but those of messages
abbrev pub plain_kinds : List FrameKind
plain_kinds = kinds.Take ∷ kinds.Ask ∷ kinds.Empty ∷ kinds.Post ∷ kinds.Posted ∷ kinds.Ended ∷ kinds.Stale ∷ kinds.NotAsked ∷ kinds.Claim ∷ kinds.Claimed ∷ kinds.Unanswered ∷ kinds.LastGeneration ∷ kinds.Mount ∷ kinds.Mounted ∷ kinds.Seated ∷ kinds.Attach ∷ kinds.Attached ∷ []

-- the kind of the frames that carry this kind of message
abbrev pub of_takeover : Option MessageKind → Option FrameKind
of_takeover None = None
of_takeover (Some kind) = Some (kinds.Takeover kind)

-- the kind of frame that has this number, if there is one
unfoldable pub kind_with : ℕ → Option FrameKind
kind_with n = first_with number_of n plain_kinds (of_takeover (message_kind_with n))

-- ---- frames without bytes of any length

-- a message of this kind keeps no bytes of its body
abbrev pub IsPlainMessage : MessageKind → Type 0
IsPlainMessage messages.Data = ⊥
IsPlainMessage messages.Part = ⊥
IsPlainMessage kind = Unit {0}

-- a frame of this kind keeps no bytes of its body
abbrev pub IsPlain : FrameKind → Type 0
IsPlain kinds.Ask = ⊥
IsPlain kinds.Post = ⊥
IsPlain (kinds.Takeover kind) = IsPlainMessage kind
IsPlain kind = Unit {0}
