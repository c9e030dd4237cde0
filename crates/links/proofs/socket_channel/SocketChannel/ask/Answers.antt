use Rattle.links.proofs.ChannelLaws.{asks_heard, asks_nothing, asks_unheard}
use Rattle.links.proofs.socket_channel.SocketChannel.ask.Goals as goal

pub returns-then-not-has_rooms : goal.returns-then-not-has_rooms
returns-then-not-has_rooms g c = record { asks = asks_nothing _ _ c.if-not-has_rooms.ensures.same }

pub returns-in-Some : goal.returns-in-Some
returns-in-Some g c = record { asks = asks_heard _ _ _ _ c.in-Some.answer _ _ c.if-not-has_rooms.ensures.same c.in-Some.ensures.answers c.hear.ensures.hears }

pub returns-in-None : goal.returns-in-None
returns-in-None g c = record { asks = asks_unheard _ _ _ c.if-not-has_rooms.ensures.same c.in-None.ensures.answers }
