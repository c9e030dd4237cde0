-- What was worked leaves the hand, and its reply is unposted.
use Rattle.std.proofs.Common.{Option, Some, ℕ, ◌≡◌, [], ◌∷◌, ◌++◌, length, refl, subst, sym, ap, ◌∙◌, arith}
use Rattle.std.proofs.lemmas.Option.{get_or_from_slice_get}
use Rattle.fuse_wire.specs.declared.reply.Answer.{Answer}
use Rattle.fuse_ops.specs.Served.{Replay}
use Rattle.fuse_ops.proofs.Owned.{owned-replay}
use Rattle.daemon.specs.Server.{ServerState, at_position}
use Rattle.daemon.specs.Serving.{FailsSo, IsIndex, WorksBy}
use Rattle.daemon.specs.declared.happened.Happened.TheVariants.{Made}
use Rattle.daemon.proofs.Owned.{owned-fails_so}
use Rattle.daemon.proofs.Positions.{none-unless}
use Rattle.daemon.proofs.ServingLemmas.{WorksBy-some, WorksOff-forgets, WorksOff-answers}
use Rattle.daemon.proofs.server.Server.work.Goals as goal

pub returns-in_default-answer : goal.returns-in_default-answer
returns-in_default-answer c =
    let old : ServerState = record { generation = c.self.inside.generation; served = c.self.inside.served; hand = c.self.inside.hand.members; unposted = c.self.inside.unposted.members } in
    let at : IsIndex (length old.hand) c.args.position c.in-Some.index = record {
      counted = c.in-Some.ensures.index.counted;
      is = c.in-Some.ensures.index.is;
      within = omega (arith, c.in-Some.ensures.index.within, c.len.ensures.len);
    } in
    let new : ServerState = record old { served = c.apply-answer.new.served; hand = c.remove.new.self.members; unposted = c.self.inside.unposted.members } in
    record {
      works = subst (λ (s : ServerState). WorksBy (at_position s.hand c.args.position) s c.args.position c.args.fails c.told_of_item-told.result new) c.self.view_is
          (WorksBy-some old new c.args.position c.args.fails c.in-Some.index c.in-Some-remove.task c.told_of_item-told.result at
          (sym (get_or_from_slice_get c.self.inside.hand.members c.in-Some.index c.in-Some-remove.task c.in-Some-remove.task (sym c.in-Some-remove.ensures.value)))
          (WorksOff-forgets old (length old.hand) c.args.position c.in-Some.index c.args.fails c.in-Some-remove.task c.item.result c.told_of_item-told.result c.apply-answer.result c.apply-answer.new.served c.remove.new.self.members c.self.inside.unposted.members
          at (none-unless c.apply-answer.result c.in_default-answer.not-Some) c.apply-answer.ensures.replay c.told_of_item-told.ensures c.item.ensures.item c.in-Some-remove.ensures.rest refl));
    }

pub returns : goal.returns
returns c =
    let old : ServerState = record { generation = c.self.inside.generation; served = c.self.inside.served; hand = c.self.inside.hand.members; unposted = c.self.inside.unposted.members } in
    let at : IsIndex (length old.hand) c.args.position c.in-Some.index = record {
      counted = c.in-Some.ensures.index.counted;
      is = c.in-Some.ensures.index.is;
      within = omega (arith, c.in-Some.ensures.index.within, c.len.ensures.len);
    } in
    let new : ServerState = record old { served = c.apply-answer.new.served; hand = c.remove.new.self.members; unposted = c.push_reserved.new.self.members } in
    let unique : c.unique-unique.result ≡ c.in-Some-remove.task.unique = c.unique-unique.ensures.unique in
    let answer = c.in-Some-answer.answer in
    let owned = c.twice-answer.result.0 in
    let replay = owned-replay c.self.inside.served c.in-Some-remove.task.what answer owned c.apply-answer.new.served
    (subst (λ (a : Option Answer). Replay c.self.inside.served c.in-Some-remove.task.what a c.apply-answer.new.served) c.in-Some-answer.is c.apply-answer.ensures.replay)
    c.twice-answer.ensures.first in
    let fails_so = owned-fails_so c.args.fails c.self.inside.served c.in-Some-remove.task.what answer owned c.twice-answer.ensures.first
    (subst (FailsSo c.args.fails c.self.inside.served c.in-Some-remove.task.what) c.in-Some-answer.is c.apply-answer.ensures.fails_so) in
    let posted = c.push_reserved.ensures.members
    ∙ ap (λ (n : ℕ). c.self.inside.unposted.members ++ (record { unique = n; answer = owned }) ∷ []) unique in
    let worked : WorksBy (at_position old.hand c.args.position) old c.args.position c.args.fails (Made (record { unique = c.in-Some-remove.task.unique; answer = owned })) new =
    WorksBy-some old new c.args.position c.args.fails c.in-Some.index c.in-Some-remove.task _ at
    (sym (get_or_from_slice_get c.self.inside.hand.members c.in-Some.index c.in-Some-remove.task c.in-Some-remove.task (sym c.in-Some-remove.ensures.value)))
    (WorksOff-answers old (length old.hand) c.args.position c.in-Some.index c.args.fails c.in-Some-remove.task owned (Some owned) c.apply-answer.new.served c.remove.new.self.members c.self.inside.unposted.members c.push_reserved.new.self.members
    at refl replay fails_so c.in-Some-remove.ensures.rest refl posted) in
    let told = subst (λ (n : ℕ). WorksBy (at_position old.hand c.args.position) old c.args.position c.args.fails (Made (record { unique = n; answer = owned })) new) (sym unique) worked in
    let both = subst (λ (a : Answer). WorksBy (at_position old.hand c.args.position) old c.args.position c.args.fails (Made (record { unique = c.unique-unique.result; answer = a })) new) (sym c.twice-answer.ensures.second) told in
    record {
      works = subst (λ (s : ServerState). WorksBy (at_position s.hand c.args.position) s c.args.position c.args.fails (Made (record { unique = c.unique-unique.result; answer = c.twice-answer.result.1 })) new) c.self.view_is both;
    }
