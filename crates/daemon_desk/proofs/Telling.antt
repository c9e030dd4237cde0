-- What a desk tells, if its daemon says at most one message and has nothing in hand.
use Rattle.std.proofs.Common.{◌≡◌, ℕ, ◌≤◌, List, [], ◌∷◌, length, Option, Some, None, Result, Ok, refl, sym, subst, arith}
use Rattle.manifest.specs.Manifest.{Manifest}
use Rattle.takeover_core.specs.Phases as table
use Rattle.takeover_core.specs.declared.message.Message.{Message}
use Rattle.takeover_core.specs.declared.node.DrainFault.{DrainFault}
use Rattle.frames.specs.declared.frame.Frame.{Frame}
use Rattle.daemon.specs.Daemon.{DaemonState, in_hand, unposted}
use Rattle.daemon.specs.Saying.{TurnState, turned}
use Rattle.daemon.specs.Talking.{DrainsBy, DrainsSo, GivesUpSo, HearsSo}
use Rattle.daemon.specs.declared.turn.Reaction.{Reaction}
use Rattle.daemon.specs.declared.turn.Reaction.TheVariants.{Says}
use Rattle.daemon_desk.specs.Desk.{DeskState, DrainsNow, GivesUp, HearsMessage, IsReadied, IsSaid, IsTold, with_daemon}
use Rattle.daemon_desk.specs.declared.answers.Hearing.{Hearing}

-- ---- by the values that a desk is seen as

pub drains_by : (was old new : DeskState) (told : Option Frame) (result : Result Reaction DrainFault) (daemon : DaemonState) → was ≡ old → DrainsSo was.daemon result daemon → IsReadied result told → new ≡ with_daemon was daemon → DrainsNow old told new
drains_by was old new told result daemon is drains readied becomes =
    subst (λ (d : DeskState). DrainsNow d told new) is (record { result = result; daemon = daemon; drains = drains; tells = readied; becomes = becomes })

readied_by : (fault : Option DrainFault) (old new : DaemonState) (reaction : Reaction) (told : Option Frame) → DrainsBy fault old (Ok reaction) new → IsSaid reaction told → IsReadied (Ok reaction) told
readied_by None old new reaction told h said =
    let one : IsSaid (Says h.said []) told = subst (λ (r : Reaction). IsSaid r told) h.reacts said in
    subst (λ (r : Reaction). IsReadied (Ok r) told) (sym h.reacts) one
readied_by (Some fault) old new reaction told h said = absurd h

pub readied : (old new : DaemonState) (reaction : Reaction) (told : Option Frame) → DrainsSo old (Ok reaction) new → IsSaid reaction told → IsReadied (Ok reaction) told
readied old new reaction told h said = readied_by (table.drain_fault old.node.phase (in_hand old) (unposted old)) old new reaction told h said

pub gives_up_by : (was old new : DeskState) (told : Option Frame) (reaction : Reaction) (daemon : DaemonState) → was ≡ old → GivesUpSo was.daemon reaction daemon → IsSaid reaction told → new ≡ with_daemon was daemon → GivesUp old told new
gives_up_by was old new told reaction daemon is gives_up said becomes =
    subst (λ (d : DeskState). GivesUp d told new) is (record { reaction = reaction; daemon = daemon; gives_up = gives_up; says = said; becomes = becomes })

pub hears_by : (was old new : DeskState) (said : Message) (what : Hearing) (reaction : Reaction) (daemon : DaemonState) → was ≡ old → HearsSo was.manifest was.limit was.daemon said reaction daemon → IsTold reaction what → new ≡ with_daemon was daemon → HearsMessage old said what new
hears_by was old new said what reaction daemon is hears told becomes =
    subst (λ (d : DeskState). HearsMessage d said what new) is (record { reaction = reaction; daemon = daemon; hears = hears; tells = told; becomes = becomes })

-- what a daemon becomes by its turn is what it becomes by the message
pub hears_turned : (manifest : Manifest) (limit : ℕ) (old new : DaemonState) (said : Message) (turn : TurnState) (reaction : Reaction) → HearsSo manifest limit old said turn.reaction (turned old turn) → reaction ≡ turn.reaction → new ≡ turned old turn → HearsSo manifest limit old said reaction new
hears_turned manifest limit old new said turn reaction h reacts becomes =
    subst (λ (d : DaemonState). HearsSo manifest limit old said reaction d) (sym becomes) (subst (λ (r : Reaction). HearsSo manifest limit old said r (turned old turn)) (sym reacts) h)
