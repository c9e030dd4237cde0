-- Who wants no claim.
use Rattle.std.proofs.Common.{length, refl, sym, ◌∙◌, subst, arith}
use Rattle.std.proofs.lemmas.Option.{slice_get_read}
use Rattle.daemon.specs.Serving.{IsIndex}
use Rattle.world.specs.State.{State}
use Rattle.world.specs.Step.{Once}
use Rattle.world.specs.declared.event.Event.TheVariants.{Claim}
use Rattle.daemon.specs.declared.happened.Happened.TheVariants as happened
use Rattle.daemon.specs.declared.happened.Refusal.TheVariants.{WrongPhase}
use Rattle.world.proofs.StepLemmas.{Once-unwanted}
use Rattle.world.proofs.world.World.claim.Goals as goal

pub returns-in_default-claim_wanted : goal.returns-in_default-claim_wanted
returns-in_default-claim_wanted c =
    let old : State = record { manifest = c.self.inside.manifest; limit = c.self.inside.limit; broker = c.self.inside.broker; daemons = c.self.inside.daemons.items; messages = c.self.inside.messages.items } in
    let at : IsIndex (length old.daemons) c.args.daemon.0 c.in-Some.index = record {
      counted = c.in-Some.ensures.index.counted;
      is = c.in-Some.ensures.index.is;
      within = omega (arith, c.in-Some.ensures.index.within, c.len.ensures, c.self.inside.daemons.ok.0);
    } in
    record {
      once = subst (λ (s : State). Once s (Claim c.args.daemon) (happened.Refused WrongPhase) s) c.self.view_is
          (Once-unwanted old c.args.daemon c.in-Some.index c.index.result.now at (slice_get_read old.daemons (length old.daemons) c.in-Some.index c.index.result.now refl at.within c.index.ensures)
          (sym c.claim_wanted.ensures.wanted ∙ c.in_default-claim_wanted.is));
    }
