-- What a take with room did, and a request that was issued and taken.
use Rattle.std.proofs.Common.{◌≡◌, ◌≢◌, Bool, true, false, List, Option, Some, None, sym, ap, ◌∙◌, subst, inl}
use Rattle.std.specs.Prelude.{length, if◌then◌else◌}
use Rattle.std.specs.List.{AllByRecursion}
use Rattle.eden_base.specs.declared.number.DaemonId.{DaemonId}
use Rattle.broker_core.specs.Broker.{BrokerState, issued}
use Rattle.broker_core.specs.declared.fault.TakeFault.{TakeFault}
use Rattle.broker_core.specs.declared.fault.TakeFault.TheVariants as fault
use Rattle.fuse_wire.specs.Request.{is_ask, items_of}
use Rattle.fuse_wire.specs.declared.request.Ask.{Ask}
use Rattle.fuse_wire.specs.declared.request.Request.{Request}
use Rattle.fuse_wire.specs.declared.reply.Reply.{Reply}
use Rattle.takeover_core.specs.Phases.{may_take}
use Rattle.daemon.specs.Daemon.{DaemonState, with_server}
use Rattle.daemon.specs.Server.{ServerState, is_single, told_taken}
use Rattle.daemon.specs.Serving.{TakesBy}
use Rattle.daemon.specs.Beginning.{PutsBy, ServerBegins, DaemonBegins}
use Rattle.daemon.specs.Refusals.{refusal_of_take}
use Rattle.daemon.specs.declared.happened.Begun.{Begun}
use Rattle.daemon.specs.declared.happened.Begun.TheVariants as begun
use Rattle.daemon.specs.declared.happened.Happened.{Happened}
use Rattle.daemon.specs.declared.happened.Happened.TheVariants.{Refused, Took, TookForgets}
use Rattle.daemon.specs.declared.happened.Refusal.TheVariants.{NoMemory}
use Rattle.daemon.proofs.DaemonCalls.{takes-with}
use Rattle.daemon.proofs.ServingLemmas.{hand-single}

-- ---- a take with room

-- what a take with room did is what a take does
takes-put : (f : Option TakeFault) (old : ServerState) (broker left : BrokerState) (told : Happened) (hand : List Ask) →
    PutsBy f old.hand broker told hand left → TakesBy f old broker told (record old { hand = hand }) left
takes-put (Some f) old broker left told hand puts =
    record { tells = puts.tells; same = ap (λ (h : List Ask). record old { hand = h }) puts.same; same_broker = puts.same_broker }
takes-put None old broker left told hand puts = inl (record {
  ask = puts.ask;
  first = puts.first;
  tells = puts.tells;
  makes = ap (λ (h : List Ask). record old { hand = h }) puts.puts;
  leaves = puts.leaves;
})

-- the fields of a server after a take, whose room was made before
pub fields-taken : (f : Option TakeFault) (old : ServerState) (broker left : BrokerState) (told : Happened) (before hand : List Ask) (unposted : List Reply) →
    before ≡ old.hand → unposted ≡ old.unposted → PutsBy f before broker told hand left → TakesBy f old broker told (record old { hand = hand; unposted = unposted }) left
fields-taken f old broker left told before hand unposted same_hand same_replies puts =
    subst (λ (replies : List Reply). TakesBy f old broker told (record old { hand = hand; unposted = replies }) left) (sym same_replies)
    (takes-put f old broker left told hand (subst (λ (h : List Ask). PutsBy f h broker told hand left) same_hand puts))

-- no fault of a take is want of memory
fault-room : (f : TakeFault) → Refused (refusal_of_take f) ≢ Refused NoMemory
fault-room fault.Ended e = (let none : ⊥ = cc in none)
fault-room (fault.Stale now) e = (let none : ⊥ = cc in none)
fault-room fault.Empty e = (let none : ⊥ = cc in none)

-- what is told of a take that was made is not want of memory
told-room : (ask : Ask) → told_taken ask ≢ Refused NoMemory
told-room ask = by_kind (is_ask ask.what) where
  by_kind : (b : Bool) → (if b then Took ask.unique else TookForgets (length (items_of ask.what))) ≢ Refused NoMemory
  by_kind true e = (let none : ⊥ = cc in none)
  by_kind false e = (let none : ⊥ = cc in none)

-- a take with room is not refused for want of memory
pub put-has-room : (f : Option TakeFault) (hand : List Ask) (broker left : BrokerState) (told : Happened) (now : List Ask) →
    PutsBy f hand broker told now left → told ≢ Refused NoMemory
put-has-room (Some f) hand broker left told now puts e = fault-room f (sym puts.tells ∙ e)
put-has-room None hand broker left told now puts e = told-room puts.ask (sym puts.tells ∙ e)

-- after a take with room the hand still has asks and single items alone
pub put-single : (f : Option TakeFault) (old hand : List Ask) (broker left : BrokerState) (told : Happened) (now : List Ask) →
    hand ≡ old → PutsBy f hand broker told now left → AllByRecursion (λ task. is_single task ≡ true) old →
    AllByRecursion (λ task. is_single task ≡ true) now
put-single (Some f) old hand broker left told now same puts all =
    subst (AllByRecursion (λ task. is_single task ≡ true)) (sym (puts.same ∙ same)) all
put-single None old hand broker left told now same puts all = hand-single old hand now puts.ask same puts.puts all

-- ---- a daemon begins

-- a daemon begins as what it serves begins
pub begins-with : (broker left : BrokerState) (daemon : DaemonId) (request : Request) (result : Begun) (was : DaemonState) (server now : ServerState) →
    true ≡ may_take was.node.phase → was.server ≡ Some server → ServerBegins broker daemon request result left server now →
    DaemonBegins broker daemon request result left was (with_server was now)
begins-with broker left daemon request (begun.Refused refusal) was server now may serves h = record {
  fault = h.fault;
  is = h.is;
  tells = h.tells;
  same = ap (with_server was) h.same ∙ (λ i. record was { server = sym serves i });
  same_broker = h.same_broker;
}
begins-with broker left daemon request (begun.Issued unique told) was server now may serves h = record {
  accepted = h.accepted;
  asks = h.asks;
  takes = takes-with (issued broker request) left daemon told was server now may serves h.takes;
  has_room = h.has_room;
}
