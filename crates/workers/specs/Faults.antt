-- Why a round fails, and what is given back then. (This project's own.)
use Rattle.std.specs.Prelude.{◌≡◌, ℕ, List, codes, ⊤}
use Rattle.fuse_ops.specs.Served.{ServedState}
use Rattle.fuse_wire.specs.declared.reply.Reply.{Reply}
use Rattle.journal.specs.Receipts.{ReceiptsState}
use Rattle.journal.specs.Settled.{IsSettled}
use Rattle.journal.specs.declared.journal.Record.{Record}
use Rattle.workers.specs.Buffers.{AreEmptied, Fit, BuffersState}
use Rattle.workers.specs.Round.{OneBreaks}
use Rattle.workers.specs.declared.channel.NextAsk.{NextAsk}
use Rattle.workers.specs.declared.channel.Posted.{Posted}
use Rattle.workers.specs.declared.fault.RoundFault.{RoundFault}
use Rattle.workers.specs.declared.fault.RoundFault.TheVariants.{Broken, Unsettled, NoMemory}

-- the words for a fault
abbrev pub fault_text : {B C : Type 0} → RoundFault B C → List ℕ
fault_text (Broken left) = codes "the mount is over"
fault_text Unsettled = codes "the receipts of the workers are not those of the journal"
fault_text (NoMemory back) = codes "out of memory"

-- if memory was refused, this served state, this backing and these channels are given back
abbrev pub GivesBack : {B C : Type 0} → ServedState → B → List C → RoundFault B C → Type 0
GivesBack served backing channels (NoMemory back) =
    (back.served ≡ served) × (back.backing ≡ backing) × (back.channels.items ≡ channels)
GivesBack served backing channels (Broken left) = ⊤
GivesBack served backing channels Unsettled = ⊤

-- a round broke: one of its workers found its channel broken, and the channels come back as their workers left them
abbrev pub IsBroken :
    {B C : Type 0} → (C → NextAsk → C → Type 0) → (C → Reply → Posted → C → Type 0) → ℕ → List C
    → RoundFault B C → Type 0
IsBroken takes posts turns channels (Broken left) = OneBreaks takes posts turns channels left.items
IsBroken takes posts turns channels why = ⊥

-- a round is not served for this cause: it broke, or memory was refused
abbrev pub IsUnserved :
    {B C : Type 0} → (C → NextAsk → C → Type 0) → (C → Reply → Posted → C → Type 0) → ℕ → List C
    → RoundFault B C → Type 0
IsUnserved takes posts turns channels (Broken left) = OneBreaks takes posts turns channels left.items
IsUnserved takes posts turns channels Unsettled = ⊥
IsUnserved takes posts turns channels (NoMemory back) = ⊤

-- if memory was refused for a round of these channels and turns, then its buffers lacked memory
abbrev pub WasNeeded : {B C : Type 0} → ℕ → ℕ → BuffersState → RoundFault B C → Type 0
WasNeeded channels turns buffers (NoMemory back) = Fit channels turns buffers → ⊥
WasNeeded channels turns buffers why = ⊤

-- if memory was refused, the buffers of the round are given back empty
abbrev pub GivesBuffers : {B C : Type 0} → BuffersState → RoundFault B C → Type 0
GivesBuffers buffers (NoMemory back) = AreEmptied buffers back.buffers
GivesBuffers buffers why = ⊤

-- a round is not drained for this cause: its receipts are not its journal, or memory was refused
abbrev pub IsUndrained : {B C : Type 0} → List Record → List ReceiptsState → RoundFault B C → Type 0
IsUndrained records workers Unsettled = IsSettled records workers → ⊥
IsUndrained records workers (NoMemory back) = ⊤
IsUndrained records workers (Broken left) = ⊥
