-- How a round ends a daemon, by the channels that come back from it. (This project's own.)
use Rattle.std.specs.Prelude.{◌≡◌, ◌≤◌, ◌⊎◌, ℕ, Bool, List, Option, Some, None, is_some, if◌then◌else◌}
use Rattle.std.specs.List.{list_any}
use Rattle.broker_core.specs.declared.fault.TakeFault.{TakeFault}
use Rattle.fuse_wire.specs.declared.reply.Reply.{Reply}
use Rattle.journal.specs.Receipts.{ReceiptsState}
use Rattle.journal.specs.Settled.{IsSettled}
use Rattle.journal.specs.declared.journal.Record.{Record}
use Rattle.workers.specs.Channel.{Reported}
use Rattle.workers.specs.Round.{AreLeft, AreServed, OneBreaks}
use Rattle.workers.specs.declared.channel.Posted.{Posted}
use Rattle.workers.specs.declared.channel.NextAsk.{NextAsk}
use Rattle.daemon_process.specs.Ending.{exit_of_broken, is_over}
use Rattle.daemon_process.specs.declared.exit.Exit.{Exit}
use Rattle.daemon_process.specs.declared.exit.Exit.TheVariants.{Ended, Faulty}
use Rattle.daemon_process.specs.declared.fault.DaemonFault.TheVariants.{Broken}

-- Below, `takes`, `posts`, `tells` and `told` are a channel's, as `workers` has them. `why` is why the broker has no more
-- for a channel, if it said so.

-- whether the broker said to one of these channels that the mount is over
abbrev pub one_is_over : {C : Type 0} → (C → Option TakeFault) → List C → Bool
one_is_over {C} why channels = list_any (λ (channel : C). is_over (why channel)) channels

-- whether the broker said to one of these channels that it has no more for it
abbrev pub one_ended : {C : Type 0} → (C → Option TakeFault) → List C → Bool
one_ended {C} why channels = list_any (λ (channel : C). is_some (why channel)) channels

-- how a daemon ends whose round ended well, if it ends: `ended` where one of the channels heard that the mount is over,
-- else `broken` where the broker has no more for one of them
abbrev pub exit_of : {C : Type 0} → (C → Option TakeFault) → List C → Option Exit
exit_of why channels =
    if one_is_over why channels then Some Ended else if one_ended why channels then Some (Faulty Broken) else None

-- a round broke, and its channels were left so; the daemon ends by whether one of them heard that the mount is over
abbrev pub EndsBroken :
    {C : Type 0} → (C → NextAsk → C → Type 0) → (C → Reply → Posted → C → Type 0) → (C → Option TakeFault)
    → List C → Exit → Type 0
EndsBroken {C} takes posts why channels exit =
    (left : List C) × OneBreaks takes posts 64 channels left × (exit ≡ exit_of_broken (one_is_over why left))

-- each worker of a round ended well, but the receipts are not the journal; the daemon ends by `broken`
abbrev pub EndsUnsettled :
    {C : Type 0} → (C → NextAsk → C → Type 0) → (C → Reply → Posted → C → Type 0) → Bool → (C → Reported)
    → List C → Exit → Type 0
EndsUnsettled {C} takes posts tells told channels exit =
    (left : List C) × (records : List Record) × (receipts : List ReceiptsState)
    × AreServed takes posts tells told 64 channels left receipts × (IsSettled records receipts → ⊥)
    × (exit ≡ Faulty Broken)

-- how a round over these channels ends a daemon
abbrev pub EndsRound :
    {C : Type 0} → (C → NextAsk → C → Type 0) → (C → Reply → Posted → C → Type 0) → Bool → (C → Reported)
    → (C → Option TakeFault) → List C → Exit → Type 0
EndsRound takes posts tells told why channels exit =
    EndsBroken takes posts why channels exit ⊎ EndsUnsettled takes posts tells told channels exit

-- a round serves 1 to 16 channels
abbrev pub IsRoundOf : ℕ → Type 0
IsRoundOf count = (1 ≤ count) × (count ≤ 16)

-- how a daemon ends that is to serve a round over these `count` channels: by `broken` where no round is served, else by
-- the round
abbrev pub EndsService :
    {C : Type 0} → (C → NextAsk → C → Type 0) → (C → Reply → Posted → C → Type 0) → Bool → (C → Reported)
    → (C → Option TakeFault) → ℕ → List C → Exit → Type 0
EndsService takes posts tells told why count channels exit =
    ((IsRoundOf count → ⊥) × (exit ≡ Faulty Broken)) ⊎ EndsRound takes posts tells told why channels exit

-- What a round makes of a daemon, by the `count` channels `before` it and those `after` it: either those are as their
-- workers left them, and what they heard decides; or the daemon ends, and serves no round or has served its last.
abbrev pub EndsByWorkers :
    {C : Type 0} → (C → NextAsk → C → Type 0) → (C → Reply → Posted → C → Type 0) → Bool → (C → Reported)
    → (C → Option TakeFault) → ℕ → (before after : List C) → Option Exit → Type 0
EndsByWorkers takes posts tells told why count before after result =
    (AreLeft takes posts 64 before after × (result ≡ exit_of why after))
    ⊎ ((exit : Exit) × (result ≡ Some exit) × EndsService takes posts tells told why count before exit)
