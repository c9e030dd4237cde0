-- What is restored is held; if nothing can be, the daemon is gone.
use Rattle.std.proofs.Common.{true, Some, inl, inr, ap, subst, ◌∙◌}
use Rattle.map_codec.specs.Handover.{IsTakingRefusal}
use Rattle.takeover_core.specs.Phases as table
use Rattle.daemon.specs.Daemon.{read_in}
use Rattle.daemon.specs.Saying.{TurnState, turned}
use Rattle.daemon.specs.Server.{ServerState}
use Rattle.daemon.proofs.taking.Restorer.take_data.Goals as goal

pub returns-in-Ok : goal.returns-in-Ok
returns-in-Ok c = record {
  taken = inl (record {
    served = c.in-Ok.served;
    taken = c.in-Ok.ensures.taken;
    reacts = ap (λ (t : TurnState). t.reaction) c.hold.ensures.holds;
    becomes = ap (turned c.args.self.now.daemon.now) c.hold.ensures.holds
        ∙ ap (λ (s : ServerState). record { node = table.after c.args.node (table.Raised true); server = Some s; reading = read_in (table.after c.args.node (table.Raised true)).phase c.args.self.now.daemon.now.reading }) c.new.ensures.new;
  });
  at_most_one = c.hold.ensures.at_most_one;
}

pub returns-in-Err-Refused : goal.returns-in-Err-Refused
returns-in-Err-Refused c = record {
  taken = inr (record {
    cannot = subst (IsTakingRefusal c.args.self.now.manifest.now c.args.generation c.args.bytes.now) c.in-Err-Refused.field-0-is c.in-Err-Refused.ensures.refused;
    loses = c.lose.ensures.loses;
  });
  at_most_one = c.lose.ensures.at_most_one;
}
