-- What is taken are asks and single items, and each has room for its reply.
use Rattle.std.proofs.Common.{rules, ◌+◌, ◌≤◌, length, subst, arith}
use Rattle.broker_core.specs.Broker.{take_fault}
use Rattle.daemon.specs.Server.{ServerState}
use Rattle.daemon.specs.Serving.{TakesBy}
use Rattle.daemon.proofs.BeginningLemmas.{put-single, fields-taken}
use Rattle.daemon.proofs.server.Server.take.Goals as goal

pub invariant_of-self-2 : goal.invariant_of-self-2
invariant_of-self-2 c =
    let room : length c.make_room.new.hand.members + 256 ≤ c.make_room.new.unposted.room = search rules in
    record {
      of_manifest = c.self.invariant.of_manifest;
      single = put-single (take_fault c.args.broker.now c.args.daemon c.self.inside.generation) c.self.inside.hand.members c.make_room.new.hand.members c.args.broker.now c.take_into.new.broker c.take_into.result c.take_into.new.hand.members
          c.make_room.ensures.same_hand c.take_into.ensures.takes c.self.invariant.single;
      room = omega (arith, room, c.take_into.ensures.at_most);
    }

pub returns : goal.returns
returns c =
    let old : ServerState = record { generation = c.self.inside.generation; served = c.self.inside.served; hand = c.self.inside.hand.members; unposted = c.self.inside.unposted.members } in
    record {
      takes = subst (λ (s : ServerState). TakesBy (take_fault c.args.broker.now c.args.daemon s.generation) s c.args.broker.now c.take_into.result (record old { hand = c.take_into.new.hand.members; unposted = c.make_room.new.unposted.members }) c.take_into.new.broker) c.self.view_is
          (fields-taken (take_fault c.args.broker.now c.args.daemon c.self.inside.generation) old c.args.broker.now c.take_into.new.broker c.take_into.result c.make_room.new.hand.members c.take_into.new.hand.members c.make_room.new.unposted.members
          c.make_room.ensures.same_hand c.make_room.ensures.same_replies c.take_into.ensures.takes);
    }
