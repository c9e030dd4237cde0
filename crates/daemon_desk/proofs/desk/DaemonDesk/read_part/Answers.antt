-- The daemon reads a part that others follow, and what is lent stays so.
use Rattle.std.proofs.Common.{inl, refl}
use Rattle.daemon_desk.proofs.HearingKeeps.{hears_keeps}
use Rattle.daemon_desk.proofs.Telling.{hears_by}
use Rattle.daemon_desk.proofs.desk.DaemonDesk.read_part.Goals as goal

pub invariant_of-self : goal.invariant_of-self
invariant_of-self c =
    hears_keeps c.self.inside.is_lent c.self.inside.manifest c.self.inside.limit c.self.inside.daemon c.read_part.new.self c.args.message.now c.in-Ok.reaction c.self.invariant
    (c.in-Ok.ensures.hears c.self.inside.manifest c.self.inside.limit)

pub returns-in-Ok : goal.returns-in-Ok
returns-in-Ok c = record {
  hears = inl (hears_by _ c.args.self.now _ c.args.message.now c.hearing_of.result c.in-Ok.reaction c.read_part.new.self c.self.view_is
      (c.in-Ok.ensures.hears c.self.inside.manifest c.self.inside.limit) c.hearing_of.ensures.told refl);
}
