-- The daemon hears the message, and what is lent stays so.
use Rattle.std.proofs.Common.{inl, refl, subst}
use Rattle.daemon.specs.Talking.{ComesTo}
use Rattle.daemon_desk.proofs.HearingKeeps.{hears_keeps}
use Rattle.daemon_desk.proofs.Telling.{hears_by, hears_turned}
use Rattle.daemon_desk.proofs.desk.DaemonDesk.hear_message.Goals as goal

pub invariant_of-self : goal.invariant_of-self
invariant_of-self c =
    hears_keeps c.self.inside.is_lent c.self.inside.manifest c.self.inside.limit c.self.inside.daemon c.turn-reaction.new.self c.args.message.now c.turn-reaction.result c.self.invariant
    (hears_turned c.self.inside.manifest c.self.inside.limit c.self.inside.daemon c.turn-reaction.new.self c.args.message.now c.in-Turn.turn c.turn-reaction.result (subst (ComesTo c.self.inside.manifest c.self.inside.limit c.self.inside.daemon c.args.message.now) c.in-Turn.is c.in-Ok.ensures.hears) c.turn-reaction.ensures.reacts c.turn-reaction.ensures.becomes)

pub returns-in-Turn : goal.returns-in-Turn
returns-in-Turn c = record {
  hears = inl (hears_by _ c.args.self.now _ c.args.message.now c.hearing_of.result c.turn-reaction.result c.turn-reaction.new.self c.self.view_is
      (hears_turned c.self.inside.manifest c.self.inside.limit c.self.inside.daemon c.turn-reaction.new.self c.args.message.now c.in-Turn.turn c.turn-reaction.result (subst (ComesTo c.self.inside.manifest c.self.inside.limit c.self.inside.daemon c.args.message.now) c.in-Turn.is c.in-Ok.ensures.hears) c.turn-reaction.ensures.reacts c.turn-reaction.ensures.becomes)
      c.hearing_of.ensures.told refl);
}
