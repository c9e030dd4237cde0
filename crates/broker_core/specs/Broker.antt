-- What the kernel holds, and who serves the mount. The requests and the lookup counts are those of libfuse's
-- `fuse_lowlevel.h`, seen from the kernel's side. The seat is this project's own, and stands in for a file descriptor
-- that is handed over.
use Rattle.std.specs.Prelude.{◌≡◌, ℕ, ◌+◌, ◌-◌, ◌^◌, Bool, false, ◌||◌, ◌&&◌, ◌==◌, not, nat_le, nat_lt, length, Option, Some, None, is_none, is_some, if◌then◌else◌, refl}
use Rattle.std.specs.List.{list_all}
use Rattle.std.specs.Option.{option_map_or}
use Rattle.std.specs.Coded.{Coded, code_by, coded×, coded_option, coded_ℕ}
use Rattle.eden_base.specs.declared.number.Number.{Number}
use Rattle.eden_base.specs.declared.number.DaemonId.{DaemonId}
use Rattle.eden_base.specs.declared.claim.ClaimFault.{ClaimFault}
use Rattle.eden_base.specs.declared.claim.ClaimFault.TheVariants as claim
use Rattle.fuse_wire.specs.declared.request.Request.{Request}
use Rattle.fuse_wire.specs.declared.item.Item.{Item}
use Rattle.fuse_wire.specs.declared.reply.Reply.{Reply}
use Rattle.fuse_wire.specs.Request.{is_ask, nodes, item_of}
use Rattle.fuse_wire.specs.Given.{given_out}
use Rattle.broker_core.specs.Held.{HeldMap, held_map_code, held_count, none_held, raised, lowered}
use Rattle.broker_core.specs.Traffic.{TrafficState, traffic_state_code, no_traffic, front, ask_refusal, item_refusal, ask_issued, item_issued, next_taken, left_by_take, is_asked, reply_posted, reply_delivered}
use Rattle.broker_core.specs.declared.seat.Seat.{Seat}
use Rattle.broker_core.specs.contracts.seat.Seat.{the_row}
use Rattle.broker_core.specs.declared.broker.MountFault.{MountFault}
use Rattle.broker_core.specs.declared.broker.MountFault.TheVariants.{Seated, LastGeneration}
use Rattle.broker_core.specs.declared.broker.IssueFault.{IssueFault}
use Rattle.broker_core.specs.declared.broker.IssueFault.TheVariants.{NotMounted, NotHeld, BadForget, Full, NoMemory}
use Rattle.broker_core.specs.declared.fault.NotSeated.{NotSeated}
use Rattle.broker_core.specs.declared.fault.NotSeated.TheVariants as unseated
use Rattle.broker_core.specs.declared.fault.TakeFault.{TakeFault}
use Rattle.broker_core.specs.declared.fault.TakeFault.TheVariants as take
use Rattle.broker_core.specs.declared.fault.PostFault.{PostFault}
use Rattle.broker_core.specs.declared.fault.PostFault.TheVariants as post
use Rattle.broker_core.specs.declared.fault.DeliverFault.{DeliverFault}
use Rattle.broker_core.specs.declared.fault.DeliverFault.TheVariants as deliver

-- who serves at which generation, if anyone; the greatest generation so far; what the kernel holds; the unique of the
-- next ask; and what is under way
pub record BrokerState : Type 0 where
  pub seat : Option Seat
  pub last : ℕ
  pub held : HeldMap
  pub next_unique : ℕ
  pub traffic : TrafficState

-- the coding of a state as a tuple, for the type that contracts see as a state
abbrev pub broker_state_code : Coded BrokerState
broker_state_code =
    code_by (Option Seat × (ℕ × (HeldMap × (ℕ × TrafficState))))
    (coded× (coded_option the_row.coded) (coded× coded_ℕ (coded× held_map_code (coded× coded_ℕ traffic_state_code))))
    (λ b. (b.seat, (b.last, (b.held, (b.next_unique, b.traffic)))))
    (λ p. record { seat = p.0; last = p.1.0; held = p.1.1.0; next_unique = p.1.1.1.0; traffic = p.1.1.1.1 })
    (λ _. refl)

-- the greatest generation
abbrev pub last_generation : ℕ
last_generation = 2 ^ 63 - 1

-- the greatest unique
abbrev pub last_unique : ℕ
last_unique = 2 ^ 63 - 1

-- the state of a new broker: nothing is held or under way, nobody serves, and the first ask gets unique 1
abbrev pub new_broker : BrokerState
new_broker = record { seat = None; last = 0; held = none_held; next_unique = 1; traffic = no_traffic }

-- why a daemon cannot mount, if it cannot
abbrev pub mount_fault : BrokerState → Option MountFault
mount_fault broker =
    if is_some broker.seat then Some Seated
    else if nat_le last_generation broker.last then Some LastGeneration
    else None

-- the state with the seat given to a daemon at a generation, which becomes the greatest
abbrev pub seated : BrokerState → DaemonId → ℕ → BrokerState
seated broker daemon generation =
    record broker { seat = Some (record { generation = generation; daemon = daemon }); last = generation }

-- the state after a daemon mounted, one generation later
abbrev pub mounted : BrokerState → DaemonId → BrokerState
mounted broker daemon = seated broker daemon (broker.last + 1)

-- the number is the root, or the kernel holds it
abbrev pub may_be_asked : BrokerState → Number → Bool
may_be_asked broker number = number.0 == 1 || nat_lt 0 (held_count broker.held number.0)

-- the item forgets the root, nothing, or more than the kernel holds
abbrev pub is_bad_forget : BrokerState → Item → Bool
is_bad_forget broker item = item.node.0 == 1 || item.k == 0 || nat_lt (held_count broker.held item.node.0) item.k

-- ---- issue

-- why an ask is refused, if there is a cause other than memory
abbrev pub ask_fault : BrokerState → Request → Option IssueFault
ask_fault broker request =
    if not (list_all (may_be_asked broker) (nodes request)) then Some NotHeld
    else if nat_lt last_unique broker.next_unique then Some Full
    else ask_refusal broker.traffic

-- why a forget is refused, if there is a cause other than memory; a batch, which has no single item, always is
abbrev pub forget_fault : BrokerState → Option Item → Option IssueFault
forget_fault broker None = Some BadForget
forget_fault broker (Some item) =
    if is_bad_forget broker item then Some BadForget else item_refusal broker.traffic

-- why the kernel's request is refused, if there is a cause other than memory
abbrev pub issue_fault : BrokerState → Request → Option IssueFault
issue_fault broker request =
    if is_none broker.seat then Some NotMounted
    else if is_ask request then ask_fault broker request
    else forget_fault broker (item_of request)

-- a request is refused with this fault: the first that it has, or NoMemory if it has none
abbrev pub IsIssueRefusal : BrokerState → Request → IssueFault → Type 0
IsIssueRefusal broker request NoMemory = issue_fault broker request ≡ None
IsIssueRefusal broker request fault = issue_fault broker request ≡ Some fault

-- the state after an ask was accepted: the ask has the next unique, and waits
abbrev pub asked : BrokerState → Request → BrokerState
asked broker request = record broker {
  next_unique = broker.next_unique + 1;
  traffic = ask_issued broker.traffic broker.next_unique request;
}

-- the state after an item was accepted: its number is held less often at once, by the item's k, and the item waits
abbrev pub forgot : BrokerState → Item → BrokerState
forgot broker item = record broker {
  held = lowered broker.held item.node.0 item.k;
  traffic = item_issued broker.traffic item;
}

-- the state after a request was accepted
abbrev pub issued : BrokerState → Request → BrokerState
issued broker request =
    if is_ask request then asked broker request else option_map_or (forgot broker) (item_of request) broker

-- the unique that an ask gets; a forget gets none
abbrev pub unique_of : BrokerState → Request → Option ℕ
unique_of broker request = if is_ask request then Some broker.next_unique else None

-- ---- take and post, which are for the daemon of the seat

-- why a daemon does not have the seat at a generation, if it does not
abbrev pub seat_fault : Option Seat → DaemonId → ℕ → Option NotSeated
seat_fault None daemon generation = Some unseated.Ended
seat_fault (Some seat) daemon generation =
    if seat.daemon.0 == daemon.0 && seat.generation == generation then None
    else Some (unseated.Stale seat.generation)

-- why nothing is taken, by the fault of the seat, if any, and then by what waits
abbrev pub take_fault_by : TrafficState → Option NotSeated → Option TakeFault
take_fault_by traffic (Some unseated.Ended) = Some take.Ended
take_fault_by traffic (Some (unseated.Stale now)) = Some (take.Stale now)
take_fault_by traffic None = if is_none (next_taken traffic) then Some take.Empty else None

-- why a daemon can take nothing at a generation, if it cannot
abbrev pub take_fault : BrokerState → DaemonId → ℕ → Option TakeFault
take_fault broker daemon generation = take_fault_by broker.traffic (seat_fault broker.seat daemon generation)

-- the state after what goes first was taken
abbrev pub taken : BrokerState → BrokerState
taken broker = record broker { traffic = left_by_take broker.traffic }

-- why a reply is refused, by the fault of the seat, if any, and then by what was asked
abbrev pub post_fault_by : TrafficState → Reply → Option NotSeated → Option PostFault
post_fault_by traffic reply (Some unseated.Ended) = Some post.Ended
post_fault_by traffic reply (Some (unseated.Stale now)) = Some (post.Stale now)
post_fault_by traffic reply None = if is_asked traffic reply then None else Some post.NotAsked

-- why a daemon's reply at a generation is refused, if it is
abbrev pub post_fault : BrokerState → DaemonId → ℕ → Reply → Option PostFault
post_fault broker daemon generation reply =
    post_fault_by broker.traffic reply (seat_fault broker.seat daemon generation)

-- the state after a reply was posted, which waits for the kernel
abbrev pub posted : BrokerState → Reply → BrokerState
posted broker reply = record broker { traffic = reply_posted broker.traffic reply }

-- ---- delivery

-- what is held after a reply: the number that it gives out, if any, is held once more
abbrev pub held_with : HeldMap → Option Reply → HeldMap
held_with held None = held
held_with held (Some reply) = option_map_or (λ (number : Number). raised held number.0) (given_out reply.answer) held

-- the state after the first posted reply reached the kernel
abbrev pub delivered : BrokerState → BrokerState
delivered broker = record broker {
  held = held_with broker.held (front broker.traffic.posted);
  traffic = reply_delivered broker.traffic;
}

-- the first posted reply gives out a number that is not held, and so takes memory
pub record IsNewNumber (broker : BrokerState) : Type 0 where
  pub reply : Reply
  pub number : Number
  pub first : front broker.traffic.posted ≡ Some reply
  pub gives : given_out reply.answer ≡ Some number
  pub unheld : held_count broker.held number.0 ≡ 0

-- no reply is delivered for this cause: none is posted, or memory was refused for a number that was not held
abbrev pub IsDeliverRefusal : BrokerState → DeliverFault → Type 0
IsDeliverRefusal broker deliver.Empty = front broker.traffic.posted ≡ None
IsDeliverRefusal broker deliver.NoMemory = IsNewNumber broker

-- ---- the seat moves on, or is left

-- why the seat cannot be claimed from a generation, by who has the seat and by how many taken asks have no reply
abbrev pub claim_fault_by : Option Seat → ℕ → ℕ → Option ClaimFault
claim_fault_by None asks generation = Some claim.Ended
claim_fault_by (Some seat) asks generation =
    if not (seat.generation == generation) then Some (claim.Stale seat.generation)
    else if nat_lt 0 asks then Some (claim.Unanswered asks)
    else if nat_le last_generation generation then Some claim.LastGeneration
    else None

-- why the seat cannot be claimed from a generation, if it cannot
abbrev pub claim_fault : BrokerState → ℕ → Option ClaimFault
claim_fault broker generation = claim_fault_by broker.seat (length broker.traffic.taken) generation

-- the state after a daemon claimed the seat, one generation later; what is held and what is under way is unchanged
abbrev pub claimed : BrokerState → DaemonId → ℕ → BrokerState
claimed broker daemon generation = seated broker daemon (generation + 1)

-- the state after the mount ended: nobody serves, and nothing is held or under way; generations and uniques go on
abbrev pub ended : BrokerState → BrokerState
ended broker = record broker { seat = None; held = none_held; traffic = no_traffic }

-- a daemon has the seat
abbrev pub has_seat : BrokerState → DaemonId → Bool
has_seat broker daemon = option_map_or (λ seat. seat.daemon.0 == daemon.0) broker.seat false

-- the state after a daemon ended: the mount ends if that daemon has the seat, else nothing changes
abbrev pub without_daemon : BrokerState → DaemonId → BrokerState
without_daemon broker daemon = if has_seat broker daemon then ended broker else broker
