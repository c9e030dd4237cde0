-- What stands against an event of any daemon may come, and what is told of an event that was made is no refusal that
-- may not.
use Rattle.std.proofs.Common.{◌≡◌, ℕ, Bool, true, false, length, Option, Some, None, is_none, refl, sym, ap, ◌∙◌, subst}
use Rattle.std.specs.Prelude.{if◌then◌else◌}
use Rattle.std.specs.Option.{option_map}
use Rattle.fuse_wire.specs.Request.{is_ask, item_of, items_of}
use Rattle.fuse_wire.specs.declared.item.Item.{Item}
use Rattle.fuse_wire.specs.declared.request.Ask.{Ask}
use Rattle.fuse_wire.specs.declared.reply.Answer.{Answer}
use Rattle.broker_core.specs.Broker.{mount_fault}
use Rattle.broker_core.specs.declared.broker.MountFault.{MountFault}
use Rattle.broker_core.specs.declared.broker.MountFault.TheVariants as mount
use Rattle.broker_core.specs.declared.broker.IssueFault.{IssueFault}
use Rattle.broker_core.specs.declared.broker.IssueFault.TheVariants as issue
use Rattle.fuse_ops.specs.Served.{ServedState}
use Rattle.takeover_core.specs.Phases.{drain_fault}
use Rattle.takeover_core.specs.declared.node.DrainFault.{DrainFault}
use Rattle.takeover_core.specs.declared.node.DrainFault.TheVariants as drain
use Rattle.daemon.specs.Daemon.{DaemonState, is_waiting, in_hand, unposted}
use Rattle.daemon.specs.Refusals.{refusal_of_mount, refusal_of_issue, refusal_of_drain}
use Rattle.daemon.specs.Server.{ServerState, at_position, told_taken, told_worked, told_item}
use Rattle.daemon.specs.declared.turn.Reaction.{Reaction}
use Rattle.daemon.specs.declared.turn.Reaction.TheVariants.{Ignores, Accepts, Says}
use Rattle.daemon.specs.declared.happened.Happened.{Happened}
use Rattle.daemon.specs.declared.happened.Happened.TheVariants as happened
use Rattle.daemon.specs.declared.happened.Refusal.{Refusal}
use Rattle.daemon.specs.declared.happened.Refusal.TheVariants as refusal
use Rattle.world.specs.Attending.{may_come, MayBeTold}
use Rattle.world.specs.State.{State, mount_refusal, hand_refusal, work_refusal, hear_refusal, drained_refusal, absence}
use Rattle.world.specs.Step.{Makes, told_reaction}
use Rattle.world.specs.declared.event.Event.{Event}
use Rattle.world.specs.declared.event.Event.TheVariants.{Start, Mount, Issue, Take, Work, Post, Deliver, Hear, Drained, GiveUp, Claim, Crash}

-- ---- causes that come to any event

-- the cause of a refusal may come
pub comes : (event : Event) (a r : Refusal) → may_come a event ≡ true → Some a ≡ Some r → may_come r event ≡ true
comes event a r may e = let same : a ≡ r = cc in ap (λ (x : Refusal). may_come x event) (sym same) ∙ may

-- a cause that a test gives may come
pub tested : (event : Event) (a r : Refusal) (b : Bool) → may_come a event ≡ true → (if b then Some a else None) ≡ Some r → may_come r event ≡ true
tested event a r true may e = comes event a r may e
tested event a r false may e = absurd (let none : ⊥ = cc in none)

pub mount-comes : (event : Event) (old : State) (o : Option DaemonState) (r : Refusal) → mount_refusal old o ≡ Some r → may_come r event ≡ true
mount-comes event old None r e = comes event refusal.NoDaemon r refl e
mount-comes event old (Some d) r e = in_ (is_waiting d) e where
  by_fault : (f : Option MountFault) → option_map refusal_of_mount f ≡ Some r → may_come r event ≡ true
  by_fault None e = absurd (let none : ⊥ = cc in none)
  by_fault (Some mount.Seated) e = comes event refusal.Seated r refl e
  by_fault (Some mount.LastGeneration) e = comes event refusal.LastGeneration r refl e

  in_ : (b : Bool) → (if b then option_map refusal_of_mount (mount_fault old.broker) else Some refusal.WrongPhase) ≡ Some r → may_come r event ≡ true
  in_ true e = by_fault (mount_fault old.broker) e
  in_ false e = comes event refusal.WrongPhase r refl e

pub issue-comes : (event : Event) (f : Option IssueFault) (r : Refusal) → option_map refusal_of_issue f ≡ Some r → may_come r event ≡ true
issue-comes event None r e = absurd (let none : ⊥ = cc in none)
issue-comes event (Some issue.NotMounted) r e = comes event refusal.NotMounted r refl e
issue-comes event (Some issue.NotHeld) r e = comes event refusal.NotHeld r refl e
issue-comes event (Some issue.BadForget) r e = comes event refusal.BadForget r refl e
issue-comes event (Some issue.Full) r e = comes event refusal.Full r refl e
issue-comes event (Some issue.NoMemory) r e = comes event refusal.NoMemory r refl e

pub work-comes : (event : Event) (position : ℕ) (o : Option DaemonState) (r : Refusal) → work_refusal position o ≡ Some r → may_come r event ≡ true
work-comes event position None r e = comes event refusal.NoDaemon r refl e
work-comes event position (Some d) r e = in_ d.server e where
  in_ : (o : Option ServerState) → hand_refusal position o ≡ Some r → may_come r event ≡ true
  in_ None e = comes event refusal.NoSuch r refl e
  in_ (Some server) e = tested event refusal.NoSuch r (is_none (at_position server.hand position)) refl e

pub hear-comes : (event : Event) (old : State) (position : ℕ) (o : Option DaemonState) (r : Refusal) → hear_refusal old position o ≡ Some r → may_come r event ≡ true
hear-comes event old position None r e = comes event refusal.NoDaemon r refl e
hear-comes event old position (Some d) r e = tested event refusal.NoSuch r (is_none (at_position old.messages position)) refl e

pub drained-comes : (event : Event) (o : Option DaemonState) (r : Refusal) → drained_refusal o ≡ Some r → may_come r event ≡ true
drained-comes event None r e = comes event refusal.NoDaemon r refl e
drained-comes event (Some d) r e = in_ (drain_fault d.node.phase (in_hand d) (unposted d)) e where
  in_ : (f : Option DrainFault) → option_map refusal_of_drain f ≡ Some r → may_come r event ≡ true
  in_ None e = absurd (let none : ⊥ = cc in none)
  in_ (Some drain.WrongPhase) e = comes event refusal.WrongPhase r refl e
  in_ (Some (drain.Undrained hand left)) e = comes event (refusal.Undrained hand left) r refl e

pub absence-comes : (event : Event) (o : Option DaemonState) (r : Refusal) → absence o ≡ Some r → may_come r event ≡ true
absence-comes event None r e = comes event refusal.NoDaemon r refl e
absence-comes event (Some d) r e = absurd (let none : ⊥ = cc in none)

-- ---- what is made

-- what is told of a take may be told of any event
told-taken : (event : Event) (ask : Ask) → MayBeTold event (told_taken ask)
told-taken event ask = in_ (is_ask ask.what) where
  in_ : (b : Bool) → MayBeTold event (if b then happened.Took ask.unique else happened.TookForgets (length (items_of ask.what)))
  in_ true = tt
  in_ false = tt

told-worked : (event : Event) (served : ServedState) (task : Ask) (answer : Option Answer) → MayBeTold event (told_worked served task answer)
told-worked event served task (Some answer) = tt
told-worked event served task None = in_ (item_of task.what) where
  in_ : (o : Option Item) → MayBeTold event (told_item served o)
  in_ (Some item) = tt
  in_ None = refl

told-reaction : (event : Event) (count : ℕ) (reaction : Reaction) → MayBeTold event (told_reaction count reaction)
told-reaction event count Ignores = tt
told-reaction event count Accepts = tt
told-reaction event count (Says said others) = tt

pub made-told : (old : State) (event : Event) (told : Happened) (new : State) → Makes old event told new → MayBeTold event told
made-told old (Start versions) told new made = subst (MayBeTold (Start versions)) (sym made.0) tt
made-told old (Mount daemon) told new made = subst (MayBeTold (Mount daemon)) (sym made.tells) tt
made-told old (Issue request) told new made = subst (MayBeTold (Issue request)) (sym made.0) tt
made-told old (Take daemon) told new made = subst (MayBeTold (Take daemon)) (sym made.tells) (told-taken (Take daemon) made.ask)
made-told old (Work daemon position fails) told new made = subst (MayBeTold (Work daemon position fails)) (sym made.tells) (told-worked (Work daemon position fails) (made.server).served made.task made.answer)
made-told old (Post daemon position) told new made = subst (MayBeTold (Post daemon position)) (sym made.tells) tt
made-told old Deliver told new made = subst (MayBeTold Deliver) (sym made.tells) tt
made-told old (Hear daemon position) told new made = let r = made.reacts in subst (MayBeTold (Hear daemon position)) (sym r.tells) (told-reaction (Hear daemon position) (length old.messages) r.reaction)
made-told old (Drained daemon) told new made = subst (MayBeTold (Drained daemon)) (sym made.tells) (told-reaction (Drained daemon) (length old.messages) made.reaction)
made-told old (GiveUp daemon) told new made = subst (MayBeTold (GiveUp daemon)) (sym made.tells) (told-reaction (GiveUp daemon) (length old.messages) made.reaction)
made-told old (Claim daemon) told new made = subst (MayBeTold (Claim daemon)) (sym made.tells) tt
made-told old (Crash daemon) told new made = subst (MayBeTold (Crash daemon)) (sym made.tells) tt
made-told old event told new made = absurd made
