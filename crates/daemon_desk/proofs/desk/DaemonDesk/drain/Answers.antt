-- The daemon drains.
use Rattle.std.proofs.Common.{◌≡◌, Bool, false, None, Result, Ok, refl, sym, ap, subst, ◌∙◌}
use Rattle.takeover_core.specs.declared.node.DrainFault.{DrainFault}
use Rattle.daemon.specs.declared.turn.Reaction.{Reaction}
use Rattle.daemon_desk.specs.Desk.{DeskState, IsReadied}
use Rattle.daemon_desk.specs.Inside.{IsOrderly}
use Rattle.daemon_desk.proofs.Keeping.{drains_keeps}
use Rattle.daemon_desk.proofs.Telling.{drains_by, readied}
use Rattle.daemon_desk.proofs.desk.DaemonDesk.drain.Goals as goal

pub returns-in_default-clause-drains : goal.returns-in_default-clause-drains
returns-in_default-clause-drains c =
    drains_by _ c.args.self.now _ None c.drain.result c.drain.new.self c.self.view_is c.drain.ensures.drains
    (subst (λ (r : Result Reaction DrainFault). IsReadied r None) (sym c.in_default.is) refl) refl

pub returns-clause-drains : goal.returns-clause-drains
returns-clause-drains c =
    drains_by _ c.args.self.now _ c.frame_of.result (Ok c.in-Ok.reaction) c.drain.new.self c.self.view_is c.in-Ok.ensures.drains
    (readied c.self.inside.daemon c.drain.new.self c.in-Ok.reaction c.frame_of.result c.in-Ok.ensures.drains c.frame_of.ensures.said) refl

pub invariant_of-self-2 : goal.invariant_of-self-2
invariant_of-self-2 c =
    let own : c.self.inside.is_lent ≡ false = ap (λ (d : DeskState). d.is_lent) c.self.view_is ∙ c.requires.own in
    subst (λ (b : Bool). IsOrderly b c.drain.new.self) (sym own) (drains_keeps c.self.inside.daemon c.drain.new.self c.drain.result
    (subst (λ (b : Bool). IsOrderly b c.self.inside.daemon) own c.self.invariant) c.drain.ensures.drains)
