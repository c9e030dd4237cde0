-- A legal step on a member of the hand of the seat's daemon is a move of the world, and so a round's journal is a run
-- of moves.
use Rattle.std.proofs.Common.{◌≡◌, ℕ, suc, zero, ◌-◌, Bool, true, false, List, [], ◌∷◌, ◌++◌, map, Option, Some, None, refl, sym, ap, ◌∙◌, subst}
use Rattle.std.specs.Prelude.{◌==◌, slice_get, slice_set, if◌then◌else◌}
use Rattle.std.specs.List.{flat_map}
use Rattle.std.specs.Option.{option_and_then}
use Rattle.std.proofs.lemmas.List.{append-nil, append_assoc}
use Rattle.fuse_wire.specs.Request.{items_of}
use Rattle.fuse_wire.specs.declared.request.Ask.{Ask}
use Rattle.fuse_wire.specs.declared.request.Request.{Request}
use Rattle.fuse_wire.specs.declared.item.Item.{Item}
use Rattle.fuse_wire.specs.declared.reply.Answer.{Answer}
use Rattle.fuse_wire.specs.declared.reply.Reply.{Reply}
use Rattle.fuse_wire.proofs.ItemLaws.{items-one}
use Rattle.broker_core.specs.declared.seat.Seat.{Seat}
use Rattle.journal.specs.declared.journal.Record.{Record}
use Rattle.inode_map.specs.InodeMap.{forgotten}
use Rattle.fuse_ops.specs.Served.{ServedState, forgotten_all, Replay}
use Rattle.daemon.specs.Daemon.{DaemonState, with_server}
use Rattle.daemon.specs.Server.{ServerState, at_position, without_position, single, handed, is_single, reply_to, with_worked}
use Rattle.world.specs.World.{World, Move, work_item, IsRun, after_all}
use Rattle.world.specs.State.{State, with_daemon, IsSeated}
use Rattle.world.specs.Handing.{HasTheSeat}
use Rattle.world.specs.Agreement.{Follows, Matches}
use Rattle.world.specs.Laws.{moves_worked, serves_on, MemberIsMove, Leaves, IsJournalOf, moves_recorded, replies_recorded, JournalIsRun}
use Rattle.world.proofs.AttendingWork.{handed-one, handed-each, worked-attended}
use Rattle.world.proofs.Daemons.{daemon_of-with, holder-is, at-is}
use Rattle.world.proofs.Hands.{at-single, single-item}
use Rattle.world.proofs.HandingOn.{worked-handing}
use Rattle.world.proofs.Runs.{run-append, after_all-append}
use Rattle.world.proofs.Working.{answers-moved, items-moved}

-- ---- one step

-- these moves may happen, and what the daemon serves and has in hand knows the world after them
record Runs (w : World) (moves : List Move) (new : State) : Type 0 where
  run : IsRun w moves
  follows : Follows (after_all w moves) new

seated-by : (state : State) (seat : Seat) (was : DaemonState) (server : ServerState) → HasTheSeat state seat was server → IsSeated state seat server
seated-by state seat was server has = record { has_seat = has.seated; serves = ap (option_and_then (λ (d : DaemonState). d.server)) has.there ∙ has.serves }

worked-runs : (w : World) (state : State) (seat : Seat) (was : DaemonState) (server : ServerState) (position : ℕ) (task : Ask) (answer : Option Answer) (later : ServedState) → Follows w state → HasTheSeat state seat was server → at_position server.hand position ≡ Some task → Replay server.served task.what answer later →
    Runs w (moves_worked task answer) (serves_on state seat was (with_worked server position task answer later))
worked-runs w state seat was server position task (Some answer) later m has at (is, legal) =
    let moved = answers-moved w state seat was server position task answer later m (seated-by state seat was server has) has.there (at-is server.hand position task at) is legal in
    record { run = moved.run; follows = moved.matches }
worked-runs w state seat was server position task None later m has at (forget, same) =
    let seated = seated-by state seat was server has in
    let there = at-is server.hand position task at in
    let single = (at-single (λ (x : Ask). is_single x ≡ true) server.hand (position - 1) task there ((holder-is w state seat server m.knows seated).under).singles).0 in
    let item = single-item task single forget in
    let is : later ≡ record server.served { map = forgotten server.served.map item.0.node.0 item.0.k } = same ∙ ap (λ (all : List Item). record server.served { map = forgotten_all server.served.map all }) (items-one task.what item.0 item.1) in
    let moved = items-moved w state seat was server position task item.0 m seated has.there there forget item.1 in
    subst (λ (all : List Item). Runs w (map work_item all) (serves_on state seat was (with_worked server position task None later))) (sym (items-one task.what item.0 item.1))
    (subst (λ (s : ServedState). Runs w (work_item item.0 ∷ []) (serves_on state seat was (with_worked server position task None s))) (sym is)
    (record { run = moved.run; follows = moved.matches }))

pub member-is-move : MemberIsMove
member-is-move w state seat was server position task answer later m has at replay =
    let moved = worked-runs w state seat was server position task answer later m.follows has at replay in (
      moved.run,
      record {
        follows = moved.follows;
        handing = worked-handing state seat.daemon was server position task answer later (serves_on state seat was (with_worked server position task answer later)) m.handing has.there has.serves at refl;
        attended = worked-attended w state seat.daemon seat was server position task answer later m.follows m.attended has.there has.serves refl (seated-by state seat was server has) at replay;
      },
    )

-- ---- the seat's daemon goes on

set-same : (ds : List DaemonState) (i : ℕ) (d : DaemonState) → slice_get ds i ≡ Some d → slice_set ds i d ≡ ds
set-same [] i d e = absurd (let none : ⊥ = cc in none)
set-same (x ∷ ds) zero d e = let same : x ≡ d = cc in ap (λ (y : DaemonState). y ∷ ds) (sym same)
set-same (x ∷ ds) (suc i) d e = ap (λ (ys : List DaemonState). x ∷ ys) (set-same ds i d e)

set-twice : (ds : List DaemonState) (i : ℕ) (d later : DaemonState) → slice_set (slice_set ds i d) i later ≡ slice_set ds i later
set-twice [] i d later = refl
set-twice (x ∷ ds) zero d later = refl
set-twice (x ∷ ds) (suc i) d later = ap (λ (ys : List DaemonState). x ∷ ys) (set-twice ds i d later)

-- a daemon of the seat that serves what it served is as it was
still-serves : (state : State) (seat : Seat) (was : DaemonState) (server : ServerState) → HasTheSeat state seat was server → serves_on state seat was server ≡ state
still-serves state seat was server has = ap (λ (d : DaemonState). with_daemon state seat.daemon d) same ∙ ap (λ (ds : List DaemonState). record state { daemons = ds }) (in_ (seat.daemon.0 == 0) has.there) where
  same : with_server was server ≡ was
  same = λ i. record was { server = sym has.serves i }

  in_ : (b : Bool) → (if b then None else slice_get state.daemons (seat.daemon.0 - 1)) ≡ Some was → slice_set state.daemons (seat.daemon.0 - 1) was ≡ state.daemons
  in_ true e = absurd (let none : ⊥ = cc in none)
  in_ false e = set-same state.daemons (seat.daemon.0 - 1) was e

-- a daemon of the seat that serves one thing and then another serves the other
goes-further : (state : State) (seat : Seat) (was : DaemonState) (server later : ServerState) → serves_on (serves_on state seat was server) seat (with_server was server) later ≡ serves_on state seat was later
goes-further state seat was server later = ap (λ (ds : List DaemonState). record state { daemons = ds }) (set-twice state.daemons (seat.daemon.0 - 1) (with_server was server) (with_server was later))

-- the daemon of the seat still has the seat if it serves something else
still-seated : (state : State) (seat : Seat) (was : DaemonState) (server later : ServerState) → HasTheSeat state seat was server → HasTheSeat (serves_on state seat was later) seat (with_server was later) later
still-seated state seat was server later has = record { seated = has.seated; there = daemon_of-with state seat.daemon was (with_server was later) has.there; serves = refl }

-- ---- one step after another

-- these moves lead to a matching state, in which the daemon of the seat serves this
record Leads (w : World) (moves : List Move) (state : State) (seat : Seat) (was : DaemonState) (server : ServerState) : Type 0 where
  run : IsRun w moves
  matches : Matches (after_all w moves) (serves_on state seat was server)

leads-none : (w : World) (state : State) (seat : Seat) (was : DaemonState) (server : ServerState) → Matches w state → HasTheSeat state seat was server → Leads w [] state seat was server
leads-none w state seat was server m has = record { run = tt; matches = subst (Matches w) (sym (still-serves state seat was server has)) m }

leads-on : (w : World) (moves more : List Move) (state : State) (seat : Seat) (was : DaemonState) (between server : ServerState) → Leads w moves state seat was between → Leads (after_all w moves) more (serves_on state seat was between) seat (with_server was between) server →
    Leads w (moves ++ more) state seat was server
leads-on w moves more state seat was between server one next = record {
  run = run-append w moves more one.run next.run;
  matches = subst (λ (x : World). Matches x (serves_on state seat was server)) (sym (after_all-append w moves more))
      (subst (Matches (after_all (after_all w moves) more)) (goes-further state seat was between server) next.matches);
}

-- ---- a forget

-- the items that a daemon has in hand are applied, one after another
items-lead : (w : World) (state : State) (seat : Seat) (was : DaemonState) (server : ServerState) (items : List Item) (left : List Ask) → Matches w state → HasTheSeat state seat was server → Leaves server.hand (map single items) left →
    Leads w (map work_item items) state seat was (record server { served = record server.served { map = forgotten_all server.served.map items }; hand = left })
items-lead w state seat was server [] left m has leaves =
    subst (λ (hand : List Ask). Leads w [] state seat was (record server { hand = hand })) (sym leaves) (leads-none w state seat was server m has)
items-lead w state seat was server (item ∷ items) left m has (position, at, leaves) = leads-on w (work_item item ∷ []) (map work_item items) state seat was between _ (record { run = one.0; matches = one.1 })
    (subst (λ (unposted : List Reply). Leads (after_all w (work_item item ∷ [])) (map work_item items) (serves_on state seat was between) seat (with_server was between)
    (record server { served = record server.served { map = forgotten_all (forgotten server.served.map item.node.0 item.k) items }; hand = left; unposted = unposted })) (append-nil server.unposted)
    (items-lead (after_all w (work_item item ∷ [])) (serves_on state seat was between) seat (with_server was between) between items left one.1 (still-seated state seat was server between has) leaves)) where
      later : ServedState
      later = record server.served { map = forgotten server.served.map item.node.0 item.k }

      between : ServerState
      between = with_worked server position (single item) None later

      one : IsRun w (work_item item ∷ []) × Matches (after_all w (work_item item ∷ [])) (serves_on state seat was between)
      one = member-is-move w state seat was server position (single item) None later m has at (refl, refl)

-- ---- a record

-- a hand from which two lists of members are taken, one after the other
leaves-parts : (hand : List Ask) (tasks more : List Ask) (left : List Ask) → Leaves hand (tasks ++ more) left → (between : List Ask) × Leaves hand tasks between × Leaves between more left
leaves-parts hand [] more left leaves = (hand, refl, leaves)
leaves-parts hand (task ∷ tasks) more left (position, at, leaves) =
    let parts = leaves-parts (without_position hand position) tasks more left leaves in
    (parts.0, (position, at, parts.1), parts.2)

record-leads : (w : World) (state : State) (seat : Seat) (was : DaemonState) (server : ServerState) (ask : Ask) (answer : Option Answer) (next : ServedState) (left : List Ask) → Matches w state → HasTheSeat state seat was server → Replay server.served ask.what answer next → Leaves server.hand (handed ask) left →
    Leads w (moves_worked ask answer) state seat was (record server { served = next; hand = left; unposted = server.unposted ++ reply_to ask answer })
record-leads w state seat was server ask (Some answer) next left m has replay leaves = in_ (subst (λ (tasks : List Ask). Leaves server.hand tasks left) (handed-one ask replay.0) leaves) where
  in_ : Leaves server.hand (ask ∷ []) left → Leads w (moves_worked ask (Some answer)) state seat was (record server { served = next; hand = left; unposted = server.unposted ++ reply_to ask (Some answer) })
  in_ (position, at, rest) =
      let one = member-is-move w state seat was server position ask (Some answer) next m has at replay in
      subst (λ (hand : List Ask). Leads w (moves_worked ask (Some answer)) state seat was (record server { served = next; hand = hand; unposted = server.unposted ++ reply_to ask (Some answer) })) (sym rest)
      (record { run = one.0; matches = one.1 })
record-leads w state seat was server ask None next left m has (forget, same) leaves =
    subst (λ (s : ServedState). Leads w (map work_item (items_of ask.what)) state seat was (record server { served = s; hand = left; unposted = server.unposted ++ [] })) (sym same)
    (subst (λ (unposted : List Reply). Leads w (map work_item (items_of ask.what)) state seat was (record server { served = record server.served { map = forgotten_all server.served.map (items_of ask.what) }; hand = left; unposted = unposted })) (sym (append-nil server.unposted))
    (items-lead w state seat was server (items_of ask.what) left m has (subst (λ (tasks : List Ask). Leaves server.hand tasks left) (handed-each ask forget) leaves)))

-- ---- a journal

journal-leads : (w : World) (state : State) (seat : Seat) (was : DaemonState) (server : ServerState) (asks : List Ask) (records : List Record) (last : ServedState) (left : List Ask) → Matches w state → HasTheSeat state seat was server → IsJournalOf server.served asks records last → Leaves server.hand (flat_map handed asks) left →
    Leads w (moves_recorded asks records) state seat was (record server { served = last; hand = left; unposted = server.unposted ++ replies_recorded asks records })
journal-leads w state seat was server [] [] last left m has is leaves =
    subst (λ (s : ServedState). Leads w [] state seat was (record server { served = s; hand = left; unposted = server.unposted ++ [] })) (sym is)
    (subst (λ (hand : List Ask). Leads w [] state seat was (record server { hand = hand; unposted = server.unposted ++ [] })) (sym leaves)
    (subst (λ (unposted : List Reply). Leads w [] state seat was (record server { unposted = unposted })) (sym (append-nil server.unposted)) (leads-none w state seat was server m has)))
journal-leads w state seat was server [] (applied ∷ records) last left m has is leaves = absurd is
journal-leads w state seat was server (ask ∷ asks) [] last left m has is leaves = absurd is
journal-leads w state seat was server (ask ∷ asks) (applied ∷ records) last left m has (of, next, replay, is) leaves =
    leads-on w (moves_worked ask applied.answer) (moves_recorded asks records) state seat was between _ one
    (subst (λ (unposted : List Reply). Leads (after_all w (moves_worked ask applied.answer)) (moves_recorded asks records) (serves_on state seat was between) seat (with_server was between) (record server { served = last; hand = left; unposted = unposted }))
    (append_assoc server.unposted (reply_to ask applied.answer) (replies_recorded asks records))
    (journal-leads (after_all w (moves_worked ask applied.answer)) (serves_on state seat was between) seat (with_server was between) between asks records last left one.matches (still-seated state seat was server between has) is parts.2)) where
      parts : (between : List Ask) × Leaves server.hand (handed ask) between × Leaves between (flat_map handed asks) left
      parts = leaves-parts server.hand (handed ask) (flat_map handed asks) left leaves

      between : ServerState
      between = record server { served = next; hand = parts.0; unposted = server.unposted ++ reply_to ask applied.answer }

      one : Leads w (moves_worked ask applied.answer) state seat was between
      one = record-leads w state seat was server ask applied.answer next parts.0 m has (subst (λ (request : Request). Replay server.served request applied.answer next) of replay) parts.1

pub journal-is-run : JournalIsRun
journal-is-run w state seat was server asks records last left m has is leaves =
    let all = journal-leads w state seat was server asks records last left m has is leaves in (all.run, all.matches)
