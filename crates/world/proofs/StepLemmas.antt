-- What a call of `World` did is one event, and what a list of calls did is a list of events.
use Rattle.std.proofs.Common.{◌≡◌, ℕ, ◌-◌, ◌+◌, ◌<◌, Bool, true, false, if◌then◌else◌, List, [], ◌∷◌, ◌++◌, length, Option, Some, None, Result, Err, get_or, set, refl, sym, ap, ◌∙◌, subst, inl, inr}
use Rattle.std.proofs.lemmas.Option.{slice_get_read}
use Rattle.std.specs.Prelude.{slice_get, is_none}
use Rattle.std.specs.Option.{option_map, option_map_or}
use Rattle.eden_base.specs.declared.number.DaemonId.{DaemonId}
use Rattle.fuse_wire.specs.declared.request.Ask.{Ask}
use Rattle.fuse_wire.specs.declared.reply.Reply.{Reply}
use Rattle.broker_core.specs.Broker.{BrokerState, mount_fault, mounted, take_fault, post_fault, without_daemon}
use Rattle.broker_core.specs.declared.fault.TakeFault.{TakeFault}
use Rattle.broker_core.specs.declared.fault.PostFault.{PostFault}
use Rattle.fuse_ops.specs.Served.{ServedState, new_served}
use Rattle.takeover_core.specs.Phases.{may_take, claim_wanted, drain_fault}
use Rattle.takeover_core.specs.declared.node.DrainFault.{DrainFault}
use Rattle.daemon.specs.Daemon.{DaemonState, is_waiting, with_server, in_hand, unposted}
use Rattle.daemon.specs.Server.{ServerState, new_server, at_position}
use Rattle.daemon.specs.Serving.{beginning, IsIndex, TakesBy, WorksBy, PostsBy, PostsReply, TakesIf, WorksIf, PostsIf, DaemonTakes, DaemonWorks, DaemonPosts}
use Rattle.world.specs.State.{ChangesAt}
use Rattle.daemon.specs.Refusals.{refusal_of_mount, refusal_of_take, refusal_of_post, refusal_of_drain}
use Rattle.world.specs.State.{State, daemon_of, with_daemon, fault, mount_refusal, take_refusal, server_refusal, work_refusal, hand_refusal, post_refusal, unposted_refusal, reply_refusal, hear_refusal, drained_refusal, claim_refusal, wanted_refusal, absence}
use Rattle.daemon.specs.Talking.{HearsSo, MountsSo, EndsSo, DrainsBy, DrainsSo}
use Rattle.daemon.specs.Saying.{turned, what_is_said}
use Rattle.daemon.specs.declared.turn.Reaction.{Reaction}
use Rattle.daemon.specs.declared.turn.Turn.{Turn}
use Rattle.manifest.specs.Manifest.{Manifest}
use Rattle.takeover_core.specs.declared.message.Message.{Message}
use Rattle.eden_base.proofs.MemberLemmas.{some-same}
use Rattle.world.specs.Step.{told_reaction, unclaimed, Makes, TakesMemory, Once, OnceBy, Step, Steps}
use Rattle.world.specs.declared.event.Event.{Event}
use Rattle.world.specs.declared.event.Event.TheVariants.{Mount, Take, Work, Post, Hear, Drained, Claim, Crash}
use Rattle.daemon.specs.declared.happened.Happened.{Happened}
use Rattle.daemon.specs.declared.happened.Happened.TheVariants as happened
use Rattle.daemon.specs.declared.happened.Refusal.{Refusal}
use Rattle.daemon.specs.declared.happened.Refusal.TheVariants.{NoSuch, NoMemory, WrongPhase}
use Rattle.daemon.proofs.Positions.{set-there, at-index}

-- ---- one event by its first fault

-- the event is refused memory
pub Once-lacks : (old : State) (event : Event) (told : Happened) → TakesMemory event → fault old event ≡ None → told ≡ happened.Refused NoMemory →
    Once old event told old
Once-lacks old event told takes fine tells = subst (λ (o : Option Refusal). OnceBy old event o told old) (sym fine) (inr (takes, (tells, refl)))

-- the event is made
pub Once-makes : (old : State) (event : Event) (told : Happened) (new : State) → fault old event ≡ None → Makes old event told new → Once old event told new
Once-makes old event told new fine made = subst (λ (o : Option Refusal). OnceBy old event o told new) (sym fine) (inl made)

-- ---- one daemon changed

-- a daemon that was read at an index, changed and written back is changed at this index
pub changed-at : (does : DaemonState → DaemonState → Type 0) (daemons : List DaemonState) (index : ℕ) (was later : DaemonState) →
    index < length daemons → was ≡ get_or daemons index was → does was later → ChangesAt does daemons index (set daemons index later)
changed-at does daemons index was later within read does-so = record {
  was = was;
  later = later;
  is_there = slice_get_read daemons (length daemons) index was refl within read;
  does_so = does-so;
  makes = refl;
}

-- the event is refused, and nothing changes
abbrev Stays : State → Refusal → Happened → State → Type 0
Stays old refusal told new = (told ≡ happened.Refused refusal) × (new ≡ old)

-- if a daemon was written back as it was, and the broker is as it was, nothing changes
refuses : (old : State) (index : ℕ) (was later : DaemonState) (left : BrokerState) (daemons : List DaemonState) (refusal : Refusal) (told : Happened) →
    slice_get old.daemons index ≡ Some was → daemons ≡ set old.daemons index later → told ≡ happened.Refused refusal → later ≡ was → left ≡ old.broker →
    Stays old refusal told (record old { broker = left; daemons = daemons })
refuses old index was later left daemons refusal told there makes tells same broker =
    let back : daemons ≡ old.daemons = makes ∙ ap (λ (d : DaemonState). set old.daemons index d) same ∙ set-there old.daemons index was there in
    let all : record old { broker = left; daemons = daemons } ≡ old =
    ap (λ (b : BrokerState). record old { broker = b; daemons = daemons }) broker ∙ ap (λ (ds : List DaemonState). record old { daemons = ds }) back in
    (tells, all)

-- a daemon that was written at its index is changed by its number
pub changes : (old : State) (d : DaemonId) (index : ℕ) (left now : BrokerState) (daemons : List DaemonState) (later is : DaemonState) →
    IsIndex (length old.daemons) d.0 index → daemons ≡ set old.daemons index later → later ≡ is → left ≡ now →
    record old { broker = left; daemons = daemons } ≡ with_daemon (record old { broker = now }) d is
changes old d index left now daemons later is at makes same broker =
    let written : daemons ≡ set old.daemons (d.0 - 1) is =
    makes ∙ ap (λ (x : DaemonState). set old.daemons index x) same ∙ ap (λ (i : ℕ). set old.daemons i is) at.is in
    ap (λ (b : BrokerState). record old { broker = b; daemons = daemons }) broker ∙ ap (λ (ds : List DaemonState). record old { broker = now; daemons = ds }) written

-- the daemon of a number is at the index of that number
pub daemon-there : (old : State) (d : DaemonId) (index : ℕ) (was : DaemonState) → IsIndex (length old.daemons) d.0 index → slice_get old.daemons index ≡ Some was →
    daemon_of old d ≡ Some was
daemon-there old d index was at there = at-index old.daemons d.0 index at ∙ there

-- a daemon whose server was put back as it was is as it was
same-server : (was later : DaemonState) (s n : ServerState) → was.server ≡ Some s → later ≡ with_server was n → n ≡ s → later ≡ was
same-server was later s n serves makes same = makes ∙ ap (with_server was) same ∙ (λ i. record was { server = sym serves i })

-- ---- a take

takes-by : (old : State) (d : DaemonId) (index : ℕ) (was later : DaemonState) (s n : ServerState) (told : Happened) (left : BrokerState) (daemons : List DaemonState) (f : Option TakeFault) →
    IsIndex (length old.daemons) d.0 index → slice_get old.daemons index ≡ Some was → daemons ≡ set old.daemons index later → was.server ≡ Some s → later ≡ with_server was n →
    TakesBy f s old.broker told n left → OnceBy old (Take d) (option_map refusal_of_take f) told (record old { broker = left; daemons = daemons })
takes-by old d index was later s n told left daemons (Some f) at there makes serves becomes h =
    refuses old index was later left daemons (refusal_of_take f) told there makes h.tells (same-server was later s n serves becomes h.same) h.same_broker
takes-by old d index was later s n told left daemons None at there makes serves becomes (inl h) = inl (record {
  was = was;
  server = s;
  ask = h.ask;
  there = daemon-there old d index was at there;
  serves = serves;
  first = h.first;
  tells = h.tells;
  makes = changes old d index left _ daemons later _ at makes (becomes ∙ ap (with_server was) h.makes) h.leaves;
})
takes-by old d index was later s n told left daemons None at there makes serves becomes (inr h) =
    inr (tt, refuses old index was later left daemons NoMemory told there makes h.tells (same-server was later s n serves becomes h.same) h.same_broker)

takes-if : (old : State) (d : DaemonId) (index : ℕ) (was later : DaemonState) (told : Happened) (left : BrokerState) (daemons : List DaemonState) (may : Bool) (server : Option ServerState) →
    IsIndex (length old.daemons) d.0 index → slice_get old.daemons index ≡ Some was → daemons ≡ set old.daemons index later → was.server ≡ server →
    TakesIf old.broker d told left may server was later → OnceBy old (Take d) (server_refusal old d may server) told (record old { broker = left; daemons = daemons })
takes-if old d index was later told left daemons true (Some s) at there makes serves h =
    takes-by old d index was later s h.later told left daemons (take_fault old.broker d s.generation) at there makes serves h.makes h.takes
takes-if old d index was later told left daemons true None at there makes serves h =
    refuses old index was later left daemons WrongPhase told there makes h.tells h.same h.same_broker
takes-if old d index was later told left daemons false (Some s) at there makes serves h =
    refuses old index was later left daemons WrongPhase told there makes h.tells h.same h.same_broker
takes-if old d index was later told left daemons false None at there makes serves h =
    refuses old index was later left daemons WrongPhase told there makes h.tells h.same h.same_broker

-- a daemon that took is the event `take`
pub Once-takes : (old : State) (d : DaemonId) (index : ℕ) (told : Happened) (left : BrokerState) (daemons : List DaemonState) →
    IsIndex (length old.daemons) d.0 index → ChangesAt (DaemonTakes old.broker d told left) old.daemons index daemons →
    Once old (Take d) told (record old { broker = left; daemons = daemons })
Once-takes old d index told left daemons at c =
    subst (λ (o : Option DaemonState). OnceBy old (Take d) (take_refusal old d o) told (record old { broker = left; daemons = daemons }))
    (sym (daemon-there old d index c.was at c.is_there))
    (takes-if old d index c.was c.later told left daemons (may_take (c.was).node.phase) (c.was).server at c.is_there c.makes refl c.does_so)

-- ---- a work

works-by : (old : State) (d : DaemonId) (position : ℕ) (fails : Bool) (index : ℕ) (was later : DaemonState) (s n : ServerState) (told : Happened) (daemons : List DaemonState) (t : Option Ask) →
    at_position s.hand position ≡ t → IsIndex (length old.daemons) d.0 index → slice_get old.daemons index ≡ Some was → daemons ≡ set old.daemons index later → was.server ≡ Some s → later ≡ with_server was n →
    WorksBy t s position fails told n → OnceBy old (Work d position fails) (if is_none t then Some NoSuch else None) told (record old { daemons = daemons })
works-by old d position fails index was later s n told daemons None e at there makes serves becomes h =
    refuses old index was later old.broker daemons _ told there makes h.tells (same-server was later s n serves becomes h.same) refl
works-by old d position fails index was later s n told daemons (Some task) e at there makes serves becomes h = inl (record {
  was = was;
  server = s;
  task = task;
  later = h.later;
  answer = h.answer;
  there = daemon-there old d index was at there;
  serves = serves;
  at = e;
  replay = h.replay;
  fails_so = h.fails_so;
  tells = h.tells;
  makes = changes old d index old.broker old.broker daemons later _ at makes (becomes ∙ ap (with_server was) h.makes) refl;
})

works-if : (old : State) (d : DaemonId) (position : ℕ) (fails : Bool) (index : ℕ) (was later : DaemonState) (told : Happened) (daemons : List DaemonState) (server : Option ServerState) →
    IsIndex (length old.daemons) d.0 index → slice_get old.daemons index ≡ Some was → daemons ≡ set old.daemons index later → was.server ≡ server →
    WorksIf position fails told server was later → OnceBy old (Work d position fails) (hand_refusal position server) told (record old { daemons = daemons })
works-if old d position fails index was later told daemons (Some s) at there makes serves h =
    works-by old d position fails index was later s h.later told daemons (at_position s.hand position) refl at there makes serves h.makes h.works
works-if old d position fails index was later told daemons None at there makes serves h =
    refuses old index was later old.broker daemons _ told there makes h.tells h.same refl

-- a daemon that worked is the event `work`
pub Once-works : (old : State) (d : DaemonId) (position : ℕ) (fails : Bool) (index : ℕ) (told : Happened) (daemons : List DaemonState) →
    IsIndex (length old.daemons) d.0 index → ChangesAt (DaemonWorks position fails told) old.daemons index daemons →
    Once old (Work d position fails) told (record old { daemons = daemons })
Once-works old d position fails index told daemons at c =
    subst (λ (o : Option DaemonState). OnceBy old (Work d position fails) (work_refusal position o) told (record old { daemons = daemons }))
    (sym (daemon-there old d index c.was at c.is_there)) (works-if old d position fails index c.was c.later told daemons (c.was).server at c.is_there c.makes refl c.does_so)

-- ---- a post

posts-reply : (old : State) (d : DaemonId) (position : ℕ) (index : ℕ) (was later : DaemonState) (s n : ServerState) (told : Happened) (left : BrokerState) (daemons : List DaemonState) (reply : Reply) (f : Option PostFault) →
    at_position s.unposted position ≡ Some reply → IsIndex (length old.daemons) d.0 index → slice_get old.daemons index ≡ Some was → daemons ≡ set old.daemons index later → was.server ≡ Some s → later ≡ with_server was n →
    PostsReply f s old.broker position reply told n left → OnceBy old (Post d position) (option_map refusal_of_post f) told (record old { broker = left; daemons = daemons })
posts-reply old d position index was later s n told left daemons reply (Some f) e at there makes serves becomes h =
    refuses old index was later left daemons (refusal_of_post f) told there makes h.tells (same-server was later s n serves becomes h.same) h.same_broker
posts-reply old d position index was later s n told left daemons reply None e at there makes serves becomes h = inl (record {
  was = was;
  server = s;
  reply = reply;
  there = daemon-there old d index was at there;
  serves = serves;
  at = e;
  tells = h.tells;
  makes = changes old d index left _ daemons later _ at makes (becomes ∙ ap (with_server was) h.makes) h.leaves;
})

posts-by : (old : State) (d : DaemonId) (position : ℕ) (index : ℕ) (was later : DaemonState) (s n : ServerState) (told : Happened) (left : BrokerState) (daemons : List DaemonState) (r : Option Reply) →
    at_position s.unposted position ≡ r → IsIndex (length old.daemons) d.0 index → slice_get old.daemons index ≡ Some was → daemons ≡ set old.daemons index later → was.server ≡ Some s → later ≡ with_server was n →
    PostsBy r s old.broker d position told n left → OnceBy old (Post d position) (reply_refusal old d s r) told (record old { broker = left; daemons = daemons })
posts-by old d position index was later s n told left daemons None e at there makes serves becomes h =
    refuses old index was later left daemons _ told there makes h.tells (same-server was later s n serves becomes h.same) h.same_broker
posts-by old d position index was later s n told left daemons (Some reply) e at there makes serves becomes h =
    posts-reply old d position index was later s n told left daemons reply (post_fault old.broker d s.generation reply) e at there makes serves becomes h

posts-if : (old : State) (d : DaemonId) (position : ℕ) (index : ℕ) (was later : DaemonState) (told : Happened) (left : BrokerState) (daemons : List DaemonState) (server : Option ServerState) →
    IsIndex (length old.daemons) d.0 index → slice_get old.daemons index ≡ Some was → daemons ≡ set old.daemons index later → was.server ≡ server →
    PostsIf old.broker d position told left server was later → OnceBy old (Post d position) (unposted_refusal old d position server) told (record old { broker = left; daemons = daemons })
posts-if old d position index was later told left daemons (Some s) at there makes serves h =
    posts-by old d position index was later s h.later told left daemons (at_position s.unposted position) refl at there makes serves h.makes h.posts
posts-if old d position index was later told left daemons None at there makes serves h =
    refuses old index was later left daemons _ told there makes h.tells h.same h.same_broker

-- a daemon that posted is the event `post`
pub Once-posts : (old : State) (d : DaemonId) (position : ℕ) (index : ℕ) (told : Happened) (left : BrokerState) (daemons : List DaemonState) →
    IsIndex (length old.daemons) d.0 index → ChangesAt (DaemonPosts old.broker d position told left) old.daemons index daemons →
    Once old (Post d position) told (record old { broker = left; daemons = daemons })
Once-posts old d position index told left daemons at c =
    subst (λ (o : Option DaemonState). OnceBy old (Post d position) (post_refusal old d position o) told (record old { broker = left; daemons = daemons }))
    (sym (daemon-there old d index c.was at c.is_there)) (posts-if old d position index c.was c.later told left daemons (c.was).server at c.is_there c.makes refl c.does_so)

-- ---- a mount

-- a daemon that was read at an index and waits is there and waits
pub waits-read : (xs : List DaemonState) (index : ℕ) (x : DaemonState) → index < length xs → true ≡ is_waiting x → x ≡ get_or xs index x →
    (slice_get xs index ≡ Some x) × (is_waiting x ≡ true)
waits-read xs index x within waits read = (slice_get_read xs (length xs) index x refl within read, sym waits)

-- nothing stands against the mount of a daemon that waits, if the seat is free
may-mount : (old : State) (d : DaemonId) (index : ℕ) (was : DaemonState) → IsIndex (length old.daemons) d.0 index → slice_get old.daemons index ≡ Some was → is_waiting was ≡ true → mount_fault old.broker ≡ None →
    mount_refusal old (daemon_of old d) ≡ None
may-mount old d index was at there waits fine =
    ap (mount_refusal old) (daemon-there old d index was at there)
    ∙ ap (λ (b : Bool). if b then option_map refusal_of_mount (mount_fault old.broker) else Some WrongPhase) waits ∙ ap (option_map refusal_of_mount) fine

-- the mount of a daemon that waits may be refused memory
pub Once-mount-lacks : (old : State) (d : DaemonId) (index : ℕ) (was : DaemonState) → IsIndex (length old.daemons) d.0 index → slice_get old.daemons index ≡ Some was → is_waiting was ≡ true → mount_fault old.broker ≡ None →
    Once old (Mount d) (happened.Refused NoMemory) old
Once-mount-lacks old d index was at there waits fine = Once-lacks old (Mount d) (happened.Refused NoMemory) tt (may-mount old d index was at there waits fine) refl

-- a daemon that waited and mounted is the event `mount`
pub Once-mounts : (old : State) (d : DaemonId) (index : ℕ) (was : DaemonState) (server : ServerState) (broker : BrokerState) (generation : ℕ) (served : ServedState) (daemons : List DaemonState) →
    IsIndex (length old.daemons) d.0 index → slice_get old.daemons index ≡ Some was → is_waiting was ≡ true → mount_fault old.broker ≡ None →
    server ≡ beginning generation served → served ≡ new_served old.manifest old.limit → generation ≡ old.broker.last + 1 → broker ≡ mounted old.broker d →
    ChangesAt (MountsSo generation server) old.daemons index daemons →
    Once old (Mount d) (happened.Mounted generation) (record old { broker = broker; daemons = daemons })
Once-mounts old d index was server broker generation served daemons at there waits fine begins new next broke c =
    let is : server ≡ new_server old.manifest old.limit (old.broker.last + 1) =
    begins ∙ ap (λ (g : ℕ). beginning g served) next ∙ ap (beginning (old.broker.last + 1)) new in
    Once-makes old (Mount d) (happened.Mounted generation) _ (may-mount old d index was at there waits fine)
    (record {
      was = c.was;
      later = c.later;
      there = daemon-there old d index c.was at c.is_there;
      does = subst (λ (g : ℕ). MountsSo g (new_server old.manifest old.limit (old.broker.last + 1)) c.was c.later) next
          (subst (λ (s : ServerState). MountsSo generation s c.was c.later) is c.does_so);
      tells = ap happened.Mounted next;
      makes = changes old d index broker (mounted old.broker d) daemons c.later c.later at c.makes refl broke;
    })

-- ---- a crash

-- a daemon that ended is the event `crash`
pub Once-crashes : (old : State) (d : DaemonId) (index : ℕ) (broker : BrokerState) (daemons : List DaemonState) → IsIndex (length old.daemons) d.0 index → broker ≡ without_daemon old.broker d →
    ChangesAt EndsSo old.daemons index daemons → Once old (Crash d) happened.Crashed (record old { broker = broker; daemons = daemons })
Once-crashes old d index broker daemons at leaves c =
    let there : daemon_of old d ≡ Some c.was = daemon-there old d index c.was at c.is_there in
    Once-makes old (Crash d) happened.Crashed _ (ap absence there)
    (record {
      was = c.was;
      later = c.later;
      there = there;
      does = c.does_so;
      tells = refl;
      makes = changes old d index broker (without_daemon old.broker d) daemons c.later c.later at c.makes refl leaves;
    })

-- ---- a daemon that is not drained

undrained-by : (fault told : DrainFault) (f : Option DrainFault) (was later : DaemonState) → DrainsBy f was (Err told) later → (f ≡ Some told) × (later ≡ was)
undrained-by fault told (Some g) was later (is, same) = (ap Some (sym is), same)
undrained-by fault told None was later no_way = absurd no_way

pub Once-undrained : (old : State) (d : DaemonId) (index : ℕ) (fault : DrainFault) (result : Result Reaction DrainFault) (refusal : Refusal) (daemons : List DaemonState) → IsIndex (length old.daemons) d.0 index → result ≡ Err fault →
    ChangesAt (λ was. DrainsSo was result) old.daemons index daemons → refusal ≡ refusal_of_drain fault → Once old (Drained d) (happened.Refused refusal) (record old { daemons = daemons })
Once-undrained old d index fault result refusal daemons at failed c is =
    subst (λ (o : Option DaemonState). OnceBy old (Drained d) (drained_refusal o) (happened.Refused refusal) (record old { daemons = daemons })) (sym (daemon-there old d index c.was at c.is_there))
    (subst (λ (f : Option DrainFault). OnceBy old (Drained d) (option_map refusal_of_drain f) (happened.Refused refusal) (record old { daemons = daemons })) (sym by.0)
    (refuses old index c.was c.later old.broker daemons (refusal_of_drain fault) (happened.Refused refusal) c.is_there c.makes (ap happened.Refused is) by.1 refl)) where
      by : (drain_fault (c.was).node.phase (in_hand c.was) (unposted c.was) ≡ Some fault) × (c.later ≡ c.was)
      by = undrained-by fault fault (drain_fault (c.was).node.phase (in_hand c.was) (unposted c.was)) c.was c.later (subst (λ (r : Result Reaction DrainFault). DrainsSo c.was r c.later) failed c.does_so)

-- ---- a claim

-- a claim of a daemon that wants none is refused
pub Once-unwanted : (old : State) (d : DaemonId) (index : ℕ) (was : DaemonState) → IsIndex (length old.daemons) d.0 index → slice_get old.daemons index ≡ Some was → claim_wanted was.node.phase ≡ None → Once old (Claim d) (happened.Refused WrongPhase) old
Once-unwanted old d index was at there wants =
    let its : daemon_of old d ≡ Some was = daemon-there old d index was at there in
    subst (λ (f : Option Refusal). OnceBy old (Claim d) f (happened.Refused WrongPhase) old) (sym (ap (claim_refusal old) its ∙ ap (wanted_refusal old) wants)) (
      refl,
      sym (ap (λ (o : Option DaemonState). option_map_or (λ (x : DaemonState). with_daemon old d (unclaimed old x (claim_wanted x.node.phase))) o old) its
          ∙ ap (λ (w : Option ℕ). with_daemon old d (unclaimed old was w)) wants ∙ back),
    ) where
      back : with_daemon old d was ≡ old
      back = ap (λ (i : ℕ). record old { daemons = set old.daemons i was }) (sym at.is) ∙ ap (λ (ds : List DaemonState). record old { daemons = ds }) (set-there old.daemons index was there)

-- ---- a message that is heard

-- nothing stands against hearing a message that was said
may-hear : (old : State) (d : DaemonId) (position index at : ℕ) (was : DaemonState) (said : Message) → IsIndex (length old.daemons) d.0 index → slice_get old.daemons index ≡ Some was →
    IsIndex (length old.messages) position at → slice_get old.messages at ≡ Some said → fault old (Hear d position) ≡ None
may-hear old d position index at was said here there said_there read =
    ap (hear_refusal old position) (daemon-there old d index was here there)
    ∙ ap (λ (m : Option Message). if is_none m then Some NoSuch else None) (at-index old.messages position at said_there ∙ read)

-- hearing a message may be refused memory
pub Once-hear-lacks : (old : State) (d : DaemonId) (position index at : ℕ) (was : DaemonState) (said : Message) → IsIndex (length old.daemons) d.0 index → slice_get old.daemons index ≡ Some was →
    IsIndex (length old.messages) position at → slice_get old.messages at ≡ Some said → Once old (Hear d position) (happened.Refused NoMemory) old
Once-hear-lacks old d position index at was said here there said_there read =
    Once-lacks old (Hear d position) (happened.Refused NoMemory) tt (may-hear old d position index at was said here there said_there read) refl

-- a daemon that heard a message is the event `hear`
pub Once-hears : (old : State) (d : DaemonId) (position index at : ℕ) (said : Message) (reaction : Reaction) (told : Happened) (daemons : List DaemonState) (messages : List Message) →
    IsIndex (length old.daemons) d.0 index → IsIndex (length old.messages) position at → slice_get old.messages at ≡ Some said →
    ChangesAt (λ was later. HearsSo old.manifest old.limit was said reaction later) old.daemons index daemons → told ≡ told_reaction (length old.messages) reaction →
    messages ≡ old.messages ++ what_is_said reaction → Once old (Hear d position) told (record old { daemons = daemons; messages = messages })
Once-hears old d position index at said reaction told daemons messages here said_there read c tells says =
    Once-makes old (Hear d position) told _ (may-hear old d position index at c.was said here c.is_there said_there read) (record {
      said = said;
      at = at-index old.messages position at said_there ∙ read;
      reacts = record {
        was = c.was;
        reaction = reaction;
        later = c.later;
        there = daemon-there old d index c.was here c.is_there;
        does = c.does_so;
        tells = tells;
        makes = ap (λ (ds : List DaemonState). record old { daemons = ds; messages = messages }) (c.makes ∙ ap (λ (i : ℕ). set old.daemons i c.later) here.is)
            ∙ ap (λ (ms : List Message). record old { daemons = set old.daemons (d.0 - 1) c.later; messages = ms }) says;
      };
    })

-- a daemon that made the turn of a message heard the message
pub turned-hears : (manifest : Manifest) (limit : ℕ) (old : List DaemonState) (index : ℕ) (hearer : DaemonState) (said : Message) (turn : Turn) (reaction : Reaction) (daemons : List DaemonState) →
    slice_get old index ≡ Some hearer → reaction ≡ turn.reaction → HearsSo manifest limit hearer said turn.reaction (turned hearer turn) →
    ChangesAt (λ was later. later ≡ turned was turn) old index daemons → ChangesAt (λ was later. HearsSo manifest limit was said reaction later) old index daemons
turned-hears manifest limit old index hearer said turn reaction daemons read same hears c = record {
  was = c.was;
  later = c.later;
  is_there = c.is_there;
  does_so = subst (λ (r : Reaction). HearsSo manifest limit c.was said r c.later) (sym same)
      (subst (λ (x : DaemonState). HearsSo manifest limit c.was said turn.reaction x) (sym c.does_so)
      (subst (λ (w : DaemonState). HearsSo manifest limit w said turn.reaction (turned w turn)) (some-same (slice_get old index) hearer c.was read c.is_there) hears));
  makes = c.makes;
}

-- ---- events one after another

-- a list of steps with one more step
pub Steps-more : (first : State) (events : List Event) (outcomes : List (List Happened)) (between : State) (event : Event) (outcome : List Happened) (last : State) →
    Steps first events outcomes between → Step between event outcome last → Steps first (events ++ event ∷ []) (outcomes ++ outcome ∷ []) last
Steps-more first [] [] between event outcome last h step = (last, subst (λ (s : State). Step s event outcome last) h step, refl)
Steps-more first [] (o ∷ outcomes) between event outcome last h step = absurd h
Steps-more first (e ∷ events) [] between event outcome last h step = absurd h
Steps-more first (e ∷ events) (o ∷ outcomes) between event outcome last h step = (h.0, h.1, Steps-more h.0 events outcomes between event outcome last h.2 step)
