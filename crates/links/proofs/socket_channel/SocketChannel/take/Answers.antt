use Rattle.links.specs.Channel.{state_of}
use Rattle.links.proofs.AheadLaws.{takes_asked}
use Rattle.links.proofs.socket_channel.SocketChannel.take.Goals as goal

pub returns-in-None : goal.returns-in-None
returns-in-None g c = record {
  takes = takes_asked (state_of g.R.Read.remaining g.W.Write.contents c.args.self.now) _ _ c.take.new.self
      c.in-None.ensures.after c.in-None.ensures.value c.ask.ensures.asks;
}
