-- What may be lent: all that is served, since nothing is in hand.
use Rattle.std.proofs.Common.{◌≡◌, ℕ, Bool, true, false, List, [], Option, Some, None, IsSome, refl, sym, ap, subst, ◌∙◌, arith, rules}
use Rattle.std.specs.Prelude.{◌≢◌, ◌&&◌, is_none}
use Rattle.std.specs.Option.{IfSome, option_map}
use Rattle.takeover_core.specs.Histories.{seat_of}
use Rattle.takeover_core.specs.Phases.{may_take}
use Rattle.takeover_core.specs.declared.phase.Phase.{Phase}
use Rattle.fuse_wire.specs.declared.request.Ask.{Ask}
use Rattle.fuse_wire.specs.declared.reply.Reply.{Reply}
use Rattle.daemon.specs.Daemon.{DaemonState, lendable, lendable_with, lent_from, lent_server, with_lent}
use Rattle.daemon.specs.declared.lease.Lease.{Lease}
use Rattle.daemon.specs.Server.{ServerState, IsIdle}
use Rattle.daemon_desk.specs.Desk.{DeskState, is_generation, is_lent_at, lendable_at, taking_at}
use Rattle.daemon_desk.specs.Inside.{IsOrderly, IsServedAt, knows}

pub all_lendable : (server : Option ServerState) → IfSome server IsIdle → lendable server ≡ server
all_lendable None idle = refl
all_lendable (Some server) idle =
    subst (λ (hand : List Ask). lendable_with hand server.unposted server ≡ Some server) (sym idle.hand)
    (subst (λ (unposted : List Reply). lendable_with [] unposted server ≡ Some server) (sym idle.unposted) refl)

pub taking_may : (phase : Phase) (generation : ℕ) → taking_at phase ≡ Some generation → may_take phase ≡ true
taking_may phase generation is = grind rules

may_take_knows : (phase : Phase) → may_take phase ≡ true → knows phase ≡ true
may_take_knows phase may = grind rules

taking : (phase : Phase) → may_take phase ≡ true → IsSome (taking_at phase)
taking phase may = grind rules

some_lent : (generation : Option ℕ) (server : Option ServerState) (lease : Option Lease) → IsSome generation → IsSome server → option_map lent_server lease ≡ lendable_at generation server → IsSome lease
some_lent None server lease at there is = absurd (let no : ⊥ = cc in no)
some_lent (Some generation) None lease at there is = absurd (let no : ⊥ = cc in no)
some_lent (Some generation) (Some server) None at there is = absurd (let no : ⊥ = cc in no)
some_lent (Some generation) (Some server) (Some lease) at there is = refl

-- a desk lends what its daemon serves, if workers may take and it is not lent
pub lends_it : (is_lent : Bool) (daemon : DaemonState) (lease : Option Lease) → IsOrderly is_lent daemon → may_take daemon.node.phase ≡ true → is_lent ≡ false → option_map lent_server lease ≡ lendable_at (taking_at daemon.node.phase) daemon.server → IsSome lease
lends_it is_lent daemon lease orderly may own is =
    some_lent (taking_at daemon.node.phase) daemon.server lease (taking daemon.node.phase may) (orderly.known (may_take_knows daemon.node.phase may) own) is

-- who serves at some generation may take
serves_may : (phase : Phase) (taking : Option ℕ) → taking ≡ taking_at phase → is_none taking ≡ false → may_take phase ≡ true
serves_may phase None is serves = absurd (let no : ⊥ = cc in no)
serves_may phase (Some g) is serves = taking_may phase g (sym is)

-- what is left of a daemon whose server was lent
pub lent_orderly : (phase : Phase) (daemon new : DaemonState) (taking : Option ℕ) (lease : Lease) → daemon.node.phase ≡ phase → taking ≡ taking_at phase → is_none taking ≡ false → Some (lent_server lease) ≡ lendable daemon.server → new ≡ with_lent daemon → IsOrderly true new
lent_orderly phase daemon new taking lease same at serves is becomes =
    let left : IsOrderly true (lent_from daemon (Some (lent_server lease))) = record {
      lent = λ t. record { may_take = ap may_take same ∙ serves_may phase taking at serves; serves_nothing = refl };
      idle = tt;
      known = λ knew own. absurd (let no : ⊥ = cc in no);
      at = λ g e. tt;
    } in
    subst (IsOrderly true) (ap (lent_from daemon) is ∙ sym becomes) left

-- ---- the generation

-- a lease of a server at this generation is at this generation
lent_at : (generation : ℕ) (server : Option ServerState) (lease : Lease) → IsServedAt generation server → Some (lent_server lease) ≡ server → generation ≡ lease.generation
lent_at generation None lease at is = absurd (let no : ⊥ = cc in no)
lent_at generation (Some server) lease at is =
    let same : lent_server lease ≡ server = cc in
    sym (ap (λ (s : ServerState). s.generation) same ∙ at)

-- a lease of a daemon that serves is at the seat's generation
pub lends_at : (phase : Phase) (is_lent : Bool) (daemon : DaemonState) (taking : Option ℕ) (lease : Lease) → daemon.node.phase ≡ phase → IsOrderly is_lent daemon → IfSome taking (λ (g : ℕ). seat_of phase ≡ Some g) → is_none taking ≡ false → Some (lent_server lease) ≡ lendable daemon.server → seat_of phase ≡ Some lease.generation
lends_at phase is_lent daemon None lease same orderly seat serves is = absurd (let no : ⊥ = cc in no)
lends_at phase is_lent daemon (Some g) lease same orderly seat serves is =
    let at : IsServedAt g daemon.server = orderly.at g (ap seat_of same ∙ seat) in
    seat ∙ ap (λ (n : ℕ). Some n) (lent_at g daemon.server lease at (is ∙ all_lendable daemon.server orderly.idle))

-- nothing is lent at another generation
pub not_lent_at : (is_lent : Bool) (phase : Phase) (generation : ℕ) → seat_of phase ≢ Some generation → (is_lent && is_generation (taking_at phase) generation) ≡ false
not_lent_at is_lent phase generation other = grind (arith, rules)

-- a lease of this generation is out
taking_of : (is_lent : Bool) (taking : Option ℕ) (generation : ℕ) → (is_lent && is_generation taking generation) ≡ true → taking ≡ Some generation
taking_of true (Some g) generation is = grind (arith, rules)
taking_of true None generation is = cc
taking_of false taking generation is = cc

pub taking_by_loan : (desk : DeskState) (phase : Phase) (generation : ℕ) → desk.daemon.node.phase ≡ phase → true ≡ is_lent_at desk generation → taking_at phase ≡ Some generation
taking_by_loan desk phase generation same lent =
    subst (λ (p : Phase). taking_at p ≡ Some generation) same (taking_of desk.is_lent (taking_at desk.daemon.node.phase) generation (sym lent))
