-- No name was found, so the backing was not asked.
use Rattle.fuse_ops.proofs.Asking.{unfound-known}
use Rattle.fuse_ops.proofs.served.Served.look_up.Goals as goal

pub returns-in-Err-clause-as_known : goal.returns-in-Err-clause-as_known
returns-in-Err-clause-as_known g c = unfound-known c.args.self.now c.args.dir c.args.name.now c.in-Err.errno (g.B.Backing.will_answer c.args.backing.now) c.in-Err.ensures.found
