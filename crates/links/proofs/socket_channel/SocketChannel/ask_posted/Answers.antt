use Rattle.std.proofs.Common.{refl}
use Rattle.std.proofs.KnownBytes.{Keeps-refl}
use Rattle.links.specs.Channel.{NotSent}
use Rattle.links.proofs.AheadLaws.{answers_by}
use Rattle.links.proofs.socket_channel.SocketChannel.ask_posted.Goals as goal

pub returns-in-Ok-clause-answers : goal.returns-in-Ok-clause-answers
returns-in-Ok-clause-answers g c = answers_by _ _ _ _ c.read_answer.result _ refl c.in-Ok.ensures.writes c.read_answer.ensures.hears

pub returns-in-Err-clause-answers : goal.returns-in-Err-clause-answers
returns-in-Err-clause-answers g c = NotSent c.in-Err._fault c.in-Err.ensures.memory c.in-Err.ensures.writes (Keeps-refl _)
