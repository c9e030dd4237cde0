use Rattle.std.proofs.Common.{refl, sym, ◌∙◌}
use Rattle.links.proofs.AheadLaws.{not_posted, posted_and_taken}
use Rattle.links.proofs.socket_channel.SocketChannel.post_and_take.Goals as goal

pub returns-in-Done : goal.returns-in-Done
returns-in-Done g c = record {
  posts = posted_and_taken _ _ _ _ c.in-Some.answer _ c.if-not-write_both.ensures.writes c.in-Some.ensures.hears
      (sym c.posted_of-posted.ensures ∙ c.in-Done.is) c.posted_of-posted.result c.in-Done.is c.ended_by-self.result c.ended_by-self.ensures _ _
      c.hear_next-next.result c.hear_next-next.ensures.hears refl;
}

pub returns-in_default-posted : goal.returns-in_default-posted
returns-in_default-posted g c = record {
  posts = not_posted _ _ _ _ _ c.in-Some.answer _ c.posted_of-posted.result c.if-not-write_both.ensures.writes c.in-Some.ensures.hears
      c.posted_of-posted.ensures c.in_default-posted.not-Done c.ended_by-self.result c.ended_by-self.ensures refl;
}
