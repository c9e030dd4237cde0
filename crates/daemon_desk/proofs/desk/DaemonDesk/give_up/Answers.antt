-- The daemon gives up, and what is lent stays so.
use Rattle.std.proofs.Common.{refl}
use Rattle.daemon_desk.proofs.HearingKeeps.{gives_up_keeps}
use Rattle.daemon_desk.proofs.Telling.{gives_up_by}
use Rattle.daemon_desk.proofs.desk.DaemonDesk.give_up.Goals as goal

pub invariant_of-self : goal.invariant_of-self
invariant_of-self c = gives_up_keeps c.self.inside.is_lent c.self.inside.daemon c.give_up.new.self c.give_up.result c.self.invariant c.give_up.ensures.gives_up

pub returns : goal.returns
returns c = record {
  gives_up = gives_up_by _ c.args.self.now _ c.frame_of.result c.give_up.result c.give_up.new.self c.self.view_is c.give_up.ensures.gives_up c.frame_of.ensures.said refl;
}
