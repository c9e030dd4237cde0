-- What a channel reports of itself: what was taken from it, and what was posted to it. (This project's own.)
use Rattle.std.specs.Prelude.{◌≡◌, ◌+◌, ◌<◌, ◌≤◌, ◌⊎◌, ℕ, true, List, [], ◌∷◌, ◌++◌, length, take, slice_get, Some}
use Rattle.fuse_wire.specs.declared.request.Ask.{Ask}
use Rattle.fuse_wire.specs.declared.reply.Reply.{Reply}
use Rattle.fuse_wire.specs.ReplyText.{is_buffer}
use Rattle.workers.specs.declared.channel.NextAsk.{NextAsk}
use Rattle.workers.specs.declared.channel.NextAsk.TheVariants as took
use Rattle.workers.specs.declared.channel.Posted.{Posted}
use Rattle.workers.specs.declared.channel.Posted.TheVariants as post
use Rattle.journal.specs.Receipts.{asks_of, replies_of}
use Rattle.journal.specs.declared.receipt.Receipt.{Receipt}

-- the asks that were taken from a channel and the replies that were posted to it, first to last
pub record Reported : Type 0 where
  pub taken : List Ask
  pub posted : List Reply

-- what is reported after one more ask was taken
abbrev pub with_ask : Reported → Ask → Reported
with_ask reported ask = record { taken = reported.taken ++ ask ∷ []; posted = reported.posted }

-- what is reported after these replies were posted
abbrev pub with_replies : Reported → List Reply → Reported
with_replies reported replies = record { taken = reported.taken; posted = reported.posted ++ replies }

-- what is reported after the asks of these receipts were taken, and their answers posted
abbrev pub grown : Reported → List Receipt → Reported
grown reported receipts =
    record { taken = reported.taken ++ asks_of receipts; posted = reported.posted ++ replies_of receipts }

-- a channel in memory: its asks, how many of them were taken, and the replies that were posted
pub record MemoryState : Type 0 where
  pub asks : List Ask
  pub taken : ℕ
  pub replies : List Reply

-- what a channel in memory reports
abbrev pub reported_of : MemoryState → Reported
reported_of channel = record { taken = take channel.taken channel.asks; posted = channel.replies }

-- the result of taking from a channel in memory: the next ask; or Empty if all were taken; or Broken if no copy of the
-- ask could be made, which then is not taken
abbrev pub Takes : MemoryState → NextAsk → MemoryState → Type 0
Takes old (took.Ask ask) new =
    (slice_get old.asks old.taken ≡ Some ask)
    × (new ≡ record { asks = old.asks; taken = old.taken + 1; replies = old.replies })
Takes old took.Empty new = (old.taken ≡ length old.asks) × (new ≡ old)
Takes old took.Stopped new = ⊥
Takes old took.Broken new = (old.taken < length old.asks) × (new ≡ old)

-- the result of posting a reply: it is appended; or it is Broken if there are as many replies as asks, or no copy of a
-- buffer could be made
abbrev pub Posts : MemoryState → Reply → Posted → MemoryState → Type 0
Posts old reply post.Done new =
    (length old.replies < length old.asks)
    × (new ≡ record { asks = old.asks; taken = old.taken; replies = old.replies ++ reply ∷ [] })
Posts old reply post.Broken new =
    ((length old.asks ≤ length old.replies) ⊎ (is_buffer reply.answer ≡ true)) × (new ≡ old)
