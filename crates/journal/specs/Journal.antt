-- The records of a round, and how many more there is room for. (This project's own.)
use Rattle.std.specs.Prelude.{ℕ, List, Option}
use Rattle.fuse_wire.specs.declared.request.Request.{Request}
use Rattle.fuse_wire.specs.declared.reply.Answer.{Answer}
use Rattle.journal.specs.declared.journal.Record.{Record}

-- a journal: what was applied, first to last, and how many more records there is room for
pub record JournalState : Type 0 where
  pub records : List Record
  pub room : ℕ

-- the record of a request that was applied with this answer
abbrev pub applied : Request → Option Answer → Record
applied request answer = record { request = request; answer = answer }
