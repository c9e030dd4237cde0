-- What a worker keeps of its turns. (This project's own.)
use Rattle.std.specs.Prelude.{◌≡◌, ◌≤◌, ℕ, Bool, true, List, [], ◌∷◌, map, Option, Some, None}
use Rattle.std.specs.List.{flat_map}
use Rattle.fuse_wire.specs.declared.request.Ask.{Ask}
use Rattle.fuse_wire.specs.declared.reply.Answer.{Answer}
use Rattle.fuse_wire.specs.declared.reply.Reply.{Reply}
use Rattle.journal.specs.declared.receipt.Receipt.{Receipt}

-- a worker's receipts in the order of its turns, the count of free places, and whether the spare room for the copy of a
-- request is there
pub record ReceiptsState : Type 0 where
  pub list : List Receipt
  pub places : ℕ
  pub spare : Bool

-- the asks of these receipts
abbrev pub asks_of : List Receipt → List Ask
asks_of receipts = map (λ (receipt : Receipt). receipt.ask) receipts

-- the reply with this unique and this answer, as a list, which is empty if there is no answer
abbrev pub replies_to : ℕ → Option Answer → List Reply
replies_to unique (Some answer) = (record { unique = unique; answer = answer }) ∷ []
replies_to unique None = []

-- the replies of those receipts that have an answer
abbrev pub replies_of : List Receipt → List Reply
replies_of receipts =
    flat_map (λ (receipt : Receipt). replies_to receipt.ask.unique receipt.answer) receipts

-- there is no receipt, a free place for each of these turns, and the spare room
abbrev pub IsFresh : ℕ → ReceiptsState → Type 0
IsFresh turns kept = (kept.list ≡ []) × (turns ≤ kept.places) × (kept.spare ≡ true)
