-- What is restored is held.
use Rattle.std.proofs.Common.{true, Some, inl, ap, ◌∙◌}
use Rattle.takeover_core.specs.Phases as table
use Rattle.daemon.specs.Daemon.{read_in}
use Rattle.daemon.specs.Saying.{TurnState, turned}
use Rattle.daemon.specs.Server.{ServerState}
use Rattle.daemon.proofs.taking.Restorer.take_read.Goals as goal

pub returns-in-Ok-clause-taken : goal.returns-in-Ok-clause-taken
returns-in-Ok-clause-taken c = inl (record {
  served = c.in-Ok.served;
  taken = c.in-Ok.ensures.taken;
  reacts = ap (λ (t : TurnState). t.reaction) c.hold.ensures.holds;
  becomes = ap (turned c.args.self.now.daemon.now) c.hold.ensures.holds
      ∙ ap (λ (s : ServerState). record { node = table.after c.args.node (table.Raised true); server = Some s; reading = read_in (table.after c.args.node (table.Raised true)).phase c.args.self.now.daemon.now.reading }) c.new.ensures.new;
})
