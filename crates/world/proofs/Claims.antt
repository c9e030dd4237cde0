-- What a claim says of the seat, and the phases that a mount, a claim and a crash lead to.
use Rattle.std.proofs.Common.{◌≡◌, ℕ, ◌<◌, ◌≤◌, Bool, true, false, List, length, Option, Some, None, Ok, Err, refl, sym, ap, ◌∙◌, subst, arith, rules}
use Rattle.std.specs.Prelude.{◌==◌, not, nat_lt, nat_le, if◌then◌else◌}
use Rattle.std.specs.Option.{option_map}
use Rattle.std.proofs.lemmas.Bool.Decides.{nat_tests}
use Rattle.eden_base.specs.Limits.{last_generation}
use Rattle.eden_base.specs.declared.claim.ClaimFault.{ClaimFault}
use Rattle.eden_base.specs.declared.claim.ClaimFault.TheVariants as claim
use Rattle.eden_base.specs.declared.number.DaemonId.{DaemonId}
use Rattle.eden_base.proofs.NumberTests.{true-eq, eq-true}
use Rattle.broker_core.specs.Broker.{claim_fault, claim_fault_by}
use Rattle.broker_core.specs.declared.seat.Seat.{Seat}
use Rattle.takeover_core.specs.Phases as table
use Rattle.takeover_core.specs.declared.phase.Phase.{Phase}
use Rattle.takeover_core.specs.declared.phase.Phase.TheVariants.{Waiting, Holding, Serving, Gone}
use Rattle.world.specs.World.{World}
use Rattle.world.specs.Agreement.{Follows}
use Rattle.daemon.specs.Daemon.{DaemonState, is_waiting_in}
use Rattle.world.specs.Handing.{in_session, DaemonStands, IsHanding}
use Rattle.daemon.specs.Refusals.{refusal_of_claim}
use Rattle.world.specs.State.{State, daemon_of, fault, claim_refusal, wanted_refusal}
use Rattle.daemon.specs.Talking.{after_claim}
use Rattle.world.specs.declared.event.Event.TheVariants.{Claim}
use Rattle.world.proofs.Handing.{holding-part}
use Rattle.world.proofs.Turns.{node_of}

-- ---- phases

pub mounted-phase : (vs : List ℕ) (n : ℕ) (phase : Phase) (g : ℕ) → is_waiting_in phase ≡ true → (table.after (node_of vs n phase) (table.Mounted g)).phase ≡ Serving g
mounted-phase vs n Waiting g e = refl
mounted-phase vs n phase g e = absurd (let none : ⊥ = cc in none)

pub claimed-phase : (vs : List ℕ) (n : ℕ) (phase : Phase) (g next : ℕ) → table.claim_wanted phase ≡ Some g → (table.after (node_of vs n phase) (table.Claimed (Ok next))).phase ≡ Serving next
claimed-phase vs n (Holding h) g next e = refl
claimed-phase vs n phase g next e = absurd (let none : ⊥ = cc in none)

-- no other claim can succeed after this fault
abbrev pub IsFatal : ClaimFault → Type 0
IsFatal (claim.Unanswered asks) = ⊥
IsFatal fault = Unit {0}

pub fatal-phase : (vs : List ℕ) (n : ℕ) (phase : Phase) (g : ℕ) (fault : ClaimFault) → IsFatal fault → table.claim_wanted phase ≡ Some g → (table.after (node_of vs n phase) (table.Claimed (Err fault))).phase ≡ Gone
fatal-phase vs n (Holding h) g claim.Ended fatal e = refl
fatal-phase vs n (Holding h) g (claim.Stale now) fatal e = refl
fatal-phase vs n (Holding h) g claim.LastGeneration fatal e = refl
fatal-phase vs n (Holding h) g (claim.Unanswered asks) fatal e = absurd fatal
fatal-phase vs n phase g fault fatal e = absurd (let none : ⊥ = cc in none)

-- if asks were unanswered, the daemon stays as it was
pub waiting-phase : (was : DaemonState) (g asks : ℕ) → table.claim_wanted was.node.phase ≡ Some g → after_claim was (Err (claim.Unanswered asks)) ≡ was
waiting-phase was g asks e = in_ was.node.phase refl e where
  in_ : (p : Phase) → was.node.phase ≡ p → table.claim_wanted p ≡ Some g → after_claim was (Err (claim.Unanswered asks)) ≡ was
  in_ (Holding h) same x = λ i. record was { node = (ap (λ (q : Phase). table.after (node_of was.node.versions was.node.sessions q) (table.Claimed (Err (claim.Unanswered asks)))) same ∙ ap (node_of was.node.versions was.node.sessions) (sym same)) i }
  in_ p same x = absurd (let none : ⊥ = cc in none)

pub crashed-phase : (vs : List ℕ) (n : ℕ) (phase : Phase) → (table.after (node_of vs n phase) table.Crash).phase ≡ Gone
crashed-phase vs n phase = grind (arith, rules)

-- ---- the seat

-- a claim is from the seat's generation, which is the last so far, but not the last that there may be
pub record IsClaim (w : World) (old : State) (g : ℕ) : Type 0 where
  pub seat : Seat
  pub seated : old.broker.seat ≡ Some seat
  pub is : seat.generation ≡ g
  pub last : old.broker.last ≡ g
  pub below : g < last_generation

record IsFree (o : Option Seat) (asks g : ℕ) : Type 0 where
  seat : Seat
  seated : o ≡ Some seat
  is : seat.generation ≡ g
  below : g < last_generation

claim-free : (o : Option Seat) (asks g : ℕ) → claim_fault_by o asks g ≡ None → IsFree o asks g
claim-free None asks g e = absurd (let none : ⊥ = cc in none)
claim-free (Some seat) asks g e = in_ (seat.generation == g) (nat_lt 0 asks) (nat_le last_generation g) refl refl refl e where
  in_ : (a b c : Bool) → (seat.generation == g) ≡ a → nat_lt 0 asks ≡ b → nat_le last_generation g ≡ c →
      (if not a then Some (claim.Stale seat.generation) else if b then Some (claim.Unanswered asks) else if c then Some claim.LastGeneration else None) ≡ None → IsFree (Some seat) asks g
  in_ true false false x y z r = record { seat = seat; seated = refl; is = true-eq seat.generation g x; below = grind (arith, nat_tests, z) }
  in_ true false true x y z r = absurd (let none : ⊥ = cc in none)
  in_ true true c x y z r = absurd (let none : ⊥ = cc in none)
  in_ false b c x y z r = absurd (let none : ⊥ = cc in none)

pub claim-is : (w : World) (old : State) (daemon : DaemonId) (was : DaemonState) (g : ℕ) → Follows w old → daemon_of old daemon ≡ Some was → table.claim_wanted was.node.phase ≡ Some g → fault old (Claim daemon) ≡ None → IsClaim w old g
claim-is w old daemon was g m there wants clear = record {
  seat = free.seat;
  seated = free.seated;
  is = free.is;
  last = sym (m.books).last ∙ sym ((m.seat_is_last).is_last free.seat ((m.books).seat ∙ free.seated)) ∙ free.is;
  below = free.below;
} where
  no_fault : (f : Option ClaimFault) → option_map refusal_of_claim f ≡ None → f ≡ None
  no_fault None e = refl
  no_fault (Some f) e = absurd (let none : ⊥ = cc in none)

  free : IsFree old.broker.seat (length old.broker.traffic.taken) g
  free = claim-free old.broker.seat (length old.broker.traffic.taken) g
      (no_fault (claim_fault old.broker g) (ap (wanted_refusal old) (sym wants) ∙ ap (claim_refusal old) (sym there) ∙ clear))

-- a claim from the seat's generation, below the last, is refused for unanswered asks alone
fatal-apart : (seat : Seat) (asks g : ℕ) (fault : ClaimFault) → IsFatal fault → claim_fault_by (Some seat) asks g ≡ Some fault → seat.generation ≡ g → g < last_generation → ⊥
fatal-apart seat asks g fault fatal e same below = in_ (nat_lt 0 asks) (nat_le last_generation g) refl refl (ap (λ (b : Bool). if not b then Some (claim.Stale seat.generation) else if nat_lt 0 asks then Some (claim.Unanswered asks) else if nat_le last_generation g then Some claim.LastGeneration else None) (sym (eq-true seat.generation g same)) ∙ e) where
  in_ : (b c : Bool) → nat_lt 0 asks ≡ b → nat_le last_generation g ≡ c → (if b then Some (claim.Unanswered asks) else if c then Some claim.LastGeneration else None) ≡ Some fault → ⊥
  in_ true c x y r = let is : claim.Unanswered asks ≡ fault = cc in subst IsFatal (sym is) fatal
  in_ false true x y r = let high : last_generation ≤ g = grind (arith, nat_tests, y) in omega (arith, high, below)
  in_ false false x y r = let none : ⊥ = cc in none

pub refused-no-holder : (old : State) (daemon : DaemonId) (was : DaemonState) (g : ℕ) (fault : ClaimFault) → IsFatal fault → IsHanding old → daemon_of old daemon ≡ Some was → table.claim_wanted was.node.phase ≡ Some g → claim_fault old.broker g ≡ Some fault →
    (seat : Seat) → old.broker.seat ≡ Some seat → daemon ≡ seat.daemon → ⊥
refused-no-holder old daemon was g fault fatal h there wants e seat at here =
    fatal-apart seat (length old.broker.traffic.taken) g fault fatal (ap (λ (o : Option Seat). claim_fault_by o (length old.broker.traffic.taken) g) (sym at) ∙ e) same below where
      stands : DaemonStands old daemon was
      stands = h.daemons daemon was there

      same : seat.generation ≡ g
      same = let two : Some seat.generation ≡ Some g = sym (stands.part seat at here) ∙ holding-part was.node.phase g wants in cc

      in_it : (p : Phase) → table.claim_wanted p ≡ Some g → in_session p ≡ true
      in_it (Holding x) w = refl
      in_it p w = absurd (let none : ⊥ = cc in none)

      below : g < last_generation
      below =
          let no : seat.generation ≡ last_generation → ⊥ = stands.goes_on seat at here (in_it was.node.phase wants) in
          let most : g ≤ old.broker.last = stands.at_most g (holding-part was.node.phase g wants) in
          let low : old.broker.last ≤ last_generation = h.low in
          let s : seat.generation ≡ g = same in
          omega (arith, no)
