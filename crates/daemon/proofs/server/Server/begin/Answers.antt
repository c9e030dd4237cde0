-- What is taken are asks and single items, and each has room for its reply; and the take had room.
use Rattle.std.proofs.Common.{rules, ◌≡◌, ◌+◌, ◌≤◌, length, ◌∙◌, subst, arith}
use Rattle.broker_core.specs.Broker.{BrokerState, take_fault, issued}
use Rattle.daemon.specs.Server.{ServerState}
use Rattle.daemon.specs.Serving.{TakesBy}
use Rattle.daemon.specs.Beginning.{PutsBy, IsIssued}
use Rattle.daemon.proofs.BeginningLemmas.{put-has-room, put-single, fields-taken}
use Rattle.daemon.proofs.server.Server.begin.Goals as goal
use Rattle.daemon.proofs.server.Server.begin.Goals.{in-Some, in-None}

pub invariant_of-self-in-Ok : goal.invariant_of-self-in-Ok
invariant_of-self-in-Ok c =
    let room : length c.make_room.new.hand.members + 256 ≤ c.make_room.new.unposted.room = search rules in
    record {
      of_manifest = c.self.invariant.of_manifest;
      single = put-single (take_fault c.issue.new.self c.args.daemon c.self.inside.generation) c.self.inside.hand.members c.make_room.new.hand.members c.issue.new.self c.take_into.new.broker c.take_into.result c.take_into.new.hand.members
          c.make_room.ensures.same_hand c.take_into.ensures.takes c.self.invariant.single;
      room = omega (arith, room, c.take_into.ensures.at_most);
    }

pub returns-in-Ok : goal.returns-in-Ok
returns-in-Ok c =
    let old : ServerState = record { generation = c.self.inside.generation; served = c.self.inside.served; hand = c.self.inside.hand.members; unposted = c.self.inside.unposted.members } in
    let is : BrokerState = issued c.args.broker.now c.args.request.now in
    let same : c.issue.new.self ≡ is = c.in-Ok.ensures.issued in
    let puts : PutsBy (take_fault is c.args.daemon c.self.inside.generation) c.make_room.new.hand.members is c.take_into.result c.take_into.new.hand.members c.take_into.new.broker =
    subst (λ (b : BrokerState). PutsBy (take_fault b c.args.daemon c.self.inside.generation) c.make_room.new.hand.members b c.take_into.result c.take_into.new.hand.members c.take_into.new.broker) same c.take_into.ensures.takes in
    record {
      begins = subst (λ (s : ServerState). IsIssued c.args.broker.now c.args.request.now c.in-Ok.unique c.take_into.result
          (TakesBy (take_fault is c.args.daemon s.generation) s is c.take_into.result (record old { hand = c.take_into.new.hand.members; unposted = c.make_room.new.unposted.members }) c.take_into.new.broker)) c.self.view_is
          (record {
            accepted = c.in-Ok.ensures.accepted;
            asks = c.in-Ok.ensures.unique;
            takes = fields-taken (take_fault is c.args.daemon c.self.inside.generation) old is c.take_into.new.broker c.take_into.result c.make_room.new.hand.members c.take_into.new.hand.members c.make_room.new.unposted.members
                c.make_room.ensures.same_hand c.make_room.ensures.same_replies puts;
            has_room = put-has-room (take_fault is c.args.daemon c.self.inside.generation) c.make_room.new.hand.members is c.take_into.new.broker c.take_into.result c.take_into.new.hand.members puts;
          });
    }

pub returns-then-is_err : goal.returns-then-is_err
returns-then-is_err c =
    let old : ServerState = record { generation = c.self.inside.generation; served = c.self.inside.served; hand = c.self.inside.hand.members; unposted = c.self.inside.unposted.members } in
    let same : record old { hand = c.make_room.new.hand.members; unposted = c.make_room.new.unposted.members } ≡ c.args.self.now =
    (λ i. record old { hand = c.make_room.ensures.same_hand i; unposted = c.make_room.ensures.same_replies i }) ∙ c.self.view_is in
    record { begins = elim c.match-refusal.branch [ in-Some w ↦ search rules | in-None w ↦ search rules ] }
