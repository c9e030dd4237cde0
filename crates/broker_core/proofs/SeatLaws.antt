-- The seat stays where it is, whatever is issued, and of each generation it is claimed once. That a take, a post and a
-- delivery leave it is seen by computation.
use Rattle.std.proofs.Common.{◌≡◌, ℕ, ◌+◌, false, Some, refl, arith}
use Rattle.std.specs.Prelude.{◌==◌}
use Rattle.std.proofs.lemmas.Bool.Decides.{nat_tests}
use Rattle.eden_base.specs.declared.number.DaemonId.{DaemonId}
use Rattle.eden_base.specs.declared.claim.ClaimFault.TheVariants.{Stale}
use Rattle.broker_core.specs.Broker.{BrokerState, claim_fault, claimed}

-- a claim from a generation that was claimed comes too late, whoever makes it
pub claimed-once : (b : BrokerState) (daemon : DaemonId) (generation : ℕ) → claim_fault (claimed b daemon generation) generation ≡ Some (Stale (generation + 1))
claimed-once b daemon generation = let other : (generation + 1 == generation) ≡ false = grind (arith, nat_tests) in rw other refl
