use Rattle.std.proofs.Common.{refl, Err}
use Rattle.links.proofs.AheadLaws.{read_nothing, read_well}
use Rattle.links.proofs.socket_channel.SocketChannel.read_answer.Goals as goal

pub returns-then-is_err-clause-hears : goal.returns-then-is_err-clause-hears
returns-then-is_err-clause-hears g c = record {
  generation = refl;
  ended = refl;
  ahead = refl;
  sent = c.flush.ensures.bytes;
  read = read_nothing _ c.args.self.now.frame_room;
}

pub returns-in-Ok-clause-hears : goal.returns-in-Ok-clause-hears
returns-in-Ok-clause-hears g c = record {
  generation = refl;
  ended = refl;
  ahead = refl;
  sent = c.flush.ensures.bytes;
  read = read_well _ _ _ c.in-Ok.answer c.in-Ok.ensures.gives;
}

pub returns-in-Err-clause-hears : goal.returns-in-Err-clause-hears
returns-in-Err-clause-hears g c = record {
  generation = refl;
  ended = refl;
  ahead = refl;
  sent = c.flush.ensures.bytes;
  read = (Err c.in-Err._fault, c.in-Err.ensures.memory, c.in-Err.ensures.gives);
}
