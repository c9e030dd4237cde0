-- What a desk keeps over each call of its daemon.
use Rattle.std.proofs.Common.{◌≡◌, ℕ, Bool, true, false, Option, Some, None, Result, Ok, Err, refl, sym, ap, subst, ◌∙◌}
use Rattle.eden_base.specs.declared.claim.ClaimFault.TheVariants as claim
use Rattle.fuse_ops.specs.Served.{ServedState}
use Rattle.takeover_core.specs.Histories.{seat_of}
use Rattle.takeover_core.specs.Phases.{may_take}
use Rattle.takeover_core.specs.declared.phase.Phase.{Phase}
use Rattle.takeover_core.specs.declared.phase.Phase.TheVariants.{Waiting, Serving, Draining}
use Rattle.takeover_core.specs.Phases as table
use Rattle.takeover_core.specs.declared.node.DrainFault.{DrainFault}
use Rattle.daemon.specs.Daemon.{DaemonState, with_node, with_server, in_hand, unposted, is_waiting, is_waiting_in}
use Rattle.daemon.specs.Server.{ServerState}
use Rattle.daemon.specs.Serving.{beginning}
use Rattle.daemon.specs.Talking.{DrainsSo, DrainsBy, MountsSo}
use Rattle.daemon.specs.declared.turn.Reaction.{Reaction}
use Rattle.daemon_desk.specs.Desk.{taking_at}
use Rattle.daemon_desk.specs.Inside.{IsAtSeat, IsOrderly, IsServedAt}
use Rattle.daemon_desk.proofs.HearingKeeps.{IsAllIdle, IsThere, idle_still, kept, not_both, seat_still, there_still}
use Rattle.daemon_desk.proofs.Knowing.{knew_drained}
use Rattle.daemon_desk.proofs.Seating.{mounted_phase, seat_stays, taking_is_seat}

-- ---- over each call

drains_there : (fault : Option DrainFault) (old new : DaemonState) (result : Result Reaction DrainFault) → DrainsBy fault old result new → IsThere false old → IsThere false new
drains_there None old new (Ok reaction) h there =
    there_still false old new (table.after old.node (table.Drained (in_hand old) (unposted old))) (kept old (with_node old (table.after old.node (table.Drained (in_hand old) (unposted old)))) new h.becomes refl) (knew_drained old.node.versions old.node.sessions old.node.phase (in_hand old) (unposted old)) there
drains_there (Some fault) old new (Err told) h there = subst (IsThere false) (sym h.1) there
drains_there None old new (Err told) h there = absurd h
drains_there (Some fault) old new (Ok reaction) h there = absurd h

drains_idle : (fault : Option DrainFault) (old new : DaemonState) (result : Result Reaction DrainFault) → DrainsBy fault old result new → IsAllIdle old → IsAllIdle new
drains_idle None old new (Ok reaction) h idle = idle_still old new (table.after old.node (table.Drained (in_hand old) (unposted old))) (kept old (with_node old (table.after old.node (table.Drained (in_hand old) (unposted old)))) new h.becomes refl) idle
drains_idle (Some fault) old new (Err told) h idle = subst IsAllIdle (sym h.1) idle
drains_idle None old new (Err told) h idle = absurd h
drains_idle (Some fault) old new (Ok reaction) h idle = absurd h

drains_seat : (fault : Option DrainFault) (old new : DaemonState) (result : Result Reaction DrainFault) → DrainsBy fault old result new → IsAtSeat old → IsAtSeat new
drains_seat None old new (Ok reaction) h at =
    let event : table.Event = table.Drained (in_hand old) (unposted old) in
    seat_still old new (table.after old.node event) (kept old (with_node old (table.after old.node event)) new h.becomes refl)
    (λ g seat. seat_stays old.node.versions old.node.sessions old.node.phase event g refl seat) at
drains_seat (Some fault) old new (Err told) h at = subst IsAtSeat (sym h.1) at
drains_seat None old new (Err told) h at = absurd h
drains_seat (Some fault) old new (Ok reaction) h at = absurd h

pub drains_keeps : (old new : DaemonState) (result : Result Reaction DrainFault) → IsOrderly false old → DrainsSo old result new → IsOrderly false new
drains_keeps old new result orderly h = record {
  lent = λ e. absurd (not_both _ e refl);
  idle = drains_idle (table.drain_fault old.node.phase (in_hand old) (unposted old)) old new result h orderly.idle;
  known = drains_there (table.drain_fault old.node.phase (in_hand old) (unposted old)) old new result h orderly.known;
  at = drains_seat (table.drain_fault old.node.phase (in_hand old) (unposted old)) old new result h orderly.at;
}

-- ---- a mount

waiting_takes_nothing : (phase : Phase) → is_waiting_in phase ≡ true → may_take phase ≡ true → ⊥
waiting_takes_nothing Waiting waits may = cc
waiting_takes_nothing (Serving g) waits may = cc
waiting_takes_nothing (Draining g s v) waits may = cc
waiting_takes_nothing phase waits may = cc

-- a daemon that mounted at a generation serves at it
pub mounts_at : (old new : DaemonState) (generation : ℕ) (server : ServerState) → is_waiting old ≡ true → MountsSo generation server old new → new.node.phase ≡ Serving generation
mounts_at old new generation server waits h =
    ap (λ (d : DaemonState). d.node.phase) h ∙ mounted_phase old.node.versions old.node.sessions old.node.phase generation waits

-- a daemon that serves at a generation is at the seat's generation
at_serving : (daemon : DaemonState) (generation : ℕ) → daemon.node.phase ≡ Serving generation → IsServedAt generation daemon.server → IsAtSeat daemon
at_serving daemon generation serves at = λ g seat.
    let same : Some generation ≡ Some g = sym (ap seat_of serves) ∙ seat in
    subst (λ (n : ℕ). IsServedAt n daemon.server) (let is : generation ≡ g = cc in is) at

pub mounts_keep : (is_lent : Bool) (old new : DaemonState) (generation : ℕ) (served : ServedState) → IsOrderly is_lent old → is_waiting old ≡ true → MountsSo generation (beginning generation served) old new → IsOrderly is_lent new
mounts_keep is_lent old new generation served orderly waits h = record {
  lent = λ e. absurd (waiting_takes_nothing old.node.phase waits (orderly.lent e).may_take);
  idle = subst IsAllIdle (sym h) (record { hand = refl; unposted = refl });
  known = subst (IsThere is_lent) (sym h) (λ later own. refl);
  at = at_serving new generation (mounts_at old new generation (beginning generation served) waits h) (subst (λ (d : DaemonState). IsServedAt generation d.server) (sym h) refl);
}

-- ---- a claim

-- ---- what is lent and given back

pub returned_keeps : (old new : DaemonState) (generation : ℕ) (served : ServedState) → taking_at old.node.phase ≡ Some generation → new ≡ with_server old (beginning generation served) → IsOrderly false new
returned_keeps old new generation served taking is = subst (IsOrderly false) (sym is) (record {
  lent = λ e. absurd (not_both _ e refl);
  idle = record { hand = refl; unposted = refl };
  known = λ later own. refl;
  at = λ g seat.
      let same : Some generation ≡ Some g = sym (taking_is_seat old.node.phase generation taking) ∙ seat in
      let is : generation ≡ g = cc in is;
})
