-- Who takes or posts has the seat, and whoever has the seat meets no fault of it.
use Rattle.std.proofs.Common.{◌≡◌, ℕ, Bool, true, false, ◌&&◌, Option, Some, None, is_none, refl, ap, ◌∙◌, if◌then◌else◌}
use Rattle.std.proofs.lemmas.Bool.{and_parts}
use Rattle.std.specs.Prelude.{◌==◌}
use Rattle.eden_base.proofs.NumberTests.{eq-true, true-eq}
use Rattle.eden_base.specs.declared.number.DaemonId.{DaemonId}
use Rattle.fuse_wire.specs.declared.reply.Reply.{Reply}
use Rattle.broker_core.specs.Broker.{BrokerState, seat_fault, take_fault, take_fault_by, post_fault, post_fault_by}
use Rattle.broker_core.specs.Traffic.{next_taken, is_asked}
use Rattle.broker_core.specs.declared.fault.TakeFault.TheVariants.{Empty}
use Rattle.broker_core.specs.declared.fault.PostFault.TheVariants.{NotAsked}
use Rattle.broker_core.specs.declared.fault.NotSeated.{NotSeated}
use Rattle.broker_core.specs.declared.fault.NotSeated.TheVariants as unseated
use Rattle.broker_core.specs.declared.seat.Seat.{Seat}

-- if the seat gives no fault, it is the daemon's at that generation
seated : (seat : Option Seat) (daemon : DaemonId) (generation : ℕ) → seat_fault seat daemon generation ≡ None → seat ≡ Some (record { generation = generation; daemon = daemon })
seated None daemon generation h = absurd (let none : ⊥ = cc in none)
seated (Some seat) daemon generation h = in_ (seat.daemon.0 == daemon.0 && seat.generation == generation) refl h where
  in_ : (b : Bool) → (seat.daemon.0 == daemon.0 && seat.generation == generation) ≡ b → (if b then None else Some (unseated.Stale seat.generation)) ≡ None → Some seat ≡ Some (record { generation = generation; daemon = daemon })
  in_ false e f = absurd (let none : ⊥ = cc in none)
  in_ true e f =
      let r = and_parts (seat.daemon.0 == daemon.0) (seat.generation == generation) e in
      let d : seat.daemon.0 ≡ daemon.0 = true-eq seat.daemon.0 daemon.0 r.0 in
      let g : seat.generation ≡ generation = true-eq seat.generation generation r.1 in
      λ i. Some (record { generation = g i; daemon = record { 0 = d i } })

pub taken-seated : (broker : BrokerState) (daemon : DaemonId) (generation : ℕ) → take_fault broker daemon generation ≡ None → broker.seat ≡ Some (record { generation = generation; daemon = daemon })
taken-seated broker daemon generation h = seated broker.seat daemon generation (clear (seat_fault broker.seat daemon generation) h) where
  clear : (f : Option NotSeated) → take_fault_by broker.traffic f ≡ None → f ≡ None
  clear None e = refl
  clear (Some unseated.Ended) e = absurd (let none : ⊥ = cc in none)
  clear (Some (unseated.Stale now)) e = absurd (let none : ⊥ = cc in none)

pub posted-seated : (broker : BrokerState) (daemon : DaemonId) (generation : ℕ) (reply : Reply) → post_fault broker daemon generation reply ≡ None → broker.seat ≡ Some (record { generation = generation; daemon = daemon })
posted-seated broker daemon generation reply h = seated broker.seat daemon generation (clear (seat_fault broker.seat daemon generation) h) where
  clear : (f : Option NotSeated) → post_fault_by broker.traffic reply f ≡ None → f ≡ None
  clear None e = refl
  clear (Some unseated.Ended) e = absurd (let none : ⊥ = cc in none)
  clear (Some (unseated.Stale now)) e = absurd (let none : ⊥ = cc in none)

-- ---- the seat's daemon

free : (seat : Option Seat) (daemon : DaemonId) (generation : ℕ) → seat ≡ Some (record { generation = generation; daemon = daemon }) → seat_fault seat daemon generation ≡ None
free seat daemon generation is =
    let d : (daemon.0 == daemon.0) ≡ true = eq-true daemon.0 daemon.0 refl in
    let g : (generation == generation) ≡ true = eq-true generation generation refl in
    ap (λ (s : Option Seat). seat_fault s daemon generation) is ∙ rw (d, g) refl

pub seated-taken : (broker : BrokerState) (daemon : DaemonId) (generation : ℕ) → broker.seat ≡ Some (record { generation = generation; daemon = daemon }) →
    take_fault broker daemon generation ≡ (if is_none (next_taken broker.traffic) then Some Empty else None)
seated-taken broker daemon generation is = ap (take_fault_by broker.traffic) (free broker.seat daemon generation is)

pub seated-posted : (broker : BrokerState) (daemon : DaemonId) (generation : ℕ) (reply : Reply) → broker.seat ≡ Some (record { generation = generation; daemon = daemon }) →
    post_fault broker daemon generation reply ≡ (if is_asked broker.traffic reply then None else Some NotAsked)
seated-posted broker daemon generation reply is = ap (post_fault_by broker.traffic reply) (free broker.seat daemon generation is)
