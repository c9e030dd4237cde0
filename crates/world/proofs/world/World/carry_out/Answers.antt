-- The events of a `do`, until one is refused.
use Rattle.std.proofs.Common.{◌≡◌, ◌≤◌, Bool, false, List, [], ◌∷◌, ◌++◌, length, Some, sym, ap, ◌∙◌, subst, arith}
use Rattle.std.specs.Prelude.{if◌then◌else◌}
use Rattle.fuse_wire.specs.Request.{is_ask}
use Rattle.world.specs.State.{State}
use Rattle.world.specs.Beginning.{Goes, HasTwo}
use Rattle.world.specs.declared.event.Event.{Event}
use Rattle.world.specs.declared.event.Event.TheVariants.{Issue, Take, Work, Post, Deliver}
use Rattle.daemon.specs.declared.happened.Happened.{Happened}
use Rattle.world.proofs.Carrying.{goes-on, goes-stop, goes-last, goes-end, rest_of_do, two-after, few-more, Step-do-unseated, Step-do-unbegun, Step-do-begun}
use Rattle.world.proofs.world.World.carry_out.Goals as goal

pub returns-in_default : goal.returns-in_default
returns-in_default c = record {
  step = Step-do-unseated c.args.self.now c.args.request.now c.issue.result c.tell.new.self c.issue.new.self
      (sym (ap (λ (s : State). s.broker.seat) c.self.view_is) ∙ sym c.seat.ensures.seat ∙ c.in_default.is)
      c.issue.ensures.once (c.tell.ensures.told ∙ ap (λ (os : List Happened). os ++ c.issue.result ∷ []) c.requires.nothing);
}

pub returns-then-not-begin : goal.returns-then-not-begin
returns-then-not-begin c =
    let old : State = c.args.self.now in
    let request = c.args.request.now in
    let seat = c.in-Some.seat in
    let has : old.broker.seat ≡ Some seat = sym (ap (λ (s : State). s.broker.seat) c.self.view_is) ∙ sym c.seat.ensures.seat ∙ c.in-Some.is in
    record { step = Step-do-unbegun old seat request c.begin.new.outcome c.begin.new.self has c.if-not-begin.ensures.begins }

pub returns-then-not-add : goal.returns-then-not-add
returns-then-not-add c =
    let old : State = c.args.self.now in
    let request = c.args.request.now in
    let seat = c.in-Some.seat in
    let has : old.broker.seat ≡ Some seat = sym (ap (λ (s : State). s.broker.seat) c.self.view_is) ∙ sym c.seat.ensures.seat ∙ c.in-Some.is in
    let events : List Event = Issue request ∷ Take seat.daemon ∷ rest_of_do seat.daemon request in
    let later : List Event = if is_ask request then Post seat.daemon 1 ∷ Deliver ∷ [] else [] in
    let two : HasTwo c.begin.new.outcome = c.if-not-begin.ensures.begins.1 in
    let g2 : Goes old events c.begin.new.outcome c.begin.new.self (rest_of_do seat.daemon request) = c.if-not-begin.ensures.begins.2 (rest_of_do seat.daemon request) in
    let two_3 : HasTwo c.add.new.self = two-after c.begin.new.outcome (c.work.result ∷ []) c.add.new.self two c.add.ensures.added in
    record { step = Step-do-begun old seat request c.add.new.self c.work.new.self has two_3 (goes-stop old events c.begin.new.outcome c.add.new.self c.begin.new.self (Work seat.daemon 1 false) c.work.result c.work.new.self later g2 c.work.ensures.once c.add.ensures.added c.if-not-add.ensures.made) }

pub returns-then-not-is_ask : goal.returns-then-not-is_ask
returns-then-not-is_ask c =
    let old : State = c.args.self.now in
    let request = c.args.request.now in
    let seat = c.in-Some.seat in
    let has : old.broker.seat ≡ Some seat = sym (ap (λ (s : State). s.broker.seat) c.self.view_is) ∙ sym c.seat.ensures.seat ∙ c.in-Some.is in
    let events : List Event = Issue request ∷ Take seat.daemon ∷ rest_of_do seat.daemon request in
    let later : List Event = if is_ask request then Post seat.daemon 1 ∷ Deliver ∷ [] else [] in
    let two : HasTwo c.begin.new.outcome = c.if-not-begin.ensures.begins.1 in
    let g2 : Goes old events c.begin.new.outcome c.begin.new.self (rest_of_do seat.daemon request) = c.if-not-begin.ensures.begins.2 (rest_of_do seat.daemon request) in
    let two_3 : HasTwo c.add.new.self = two-after c.begin.new.outcome (c.work.result ∷ []) c.add.new.self two c.add.ensures.added in
    let g3 : Goes old events c.add.new.self c.work.new.self later = goes-on old events c.begin.new.outcome c.add.new.self c.begin.new.self (Work seat.daemon 1 false) c.work.result c.work.new.self later g2 c.work.ensures.once c.add.ensures.added c.if-not-add.ensures.made in
    let forgets : Goes old events c.add.new.self c.work.new.self [] = subst (λ (b : Bool). Goes old events c.add.new.self c.work.new.self (if b then Post seat.daemon 1 ∷ Deliver ∷ [] else [])) (sym c.if-not-is_ask.ensures.ask) g3 in
    record { step = Step-do-begun old seat request c.add.new.self c.work.new.self has two_3 (goes-end old events c.add.new.self c.work.new.self forgets) }

pub returns-then-not-add-2 : goal.returns-then-not-add-2
returns-then-not-add-2 c =
    let old : State = c.args.self.now in
    let request = c.args.request.now in
    let seat = c.in-Some.seat in
    let has : old.broker.seat ≡ Some seat = sym (ap (λ (s : State). s.broker.seat) c.self.view_is) ∙ sym c.seat.ensures.seat ∙ c.in-Some.is in
    let events : List Event = Issue request ∷ Take seat.daemon ∷ rest_of_do seat.daemon request in
    let later : List Event = if is_ask request then Post seat.daemon 1 ∷ Deliver ∷ [] else [] in
    let two : HasTwo c.begin.new.outcome = c.if-not-begin.ensures.begins.1 in
    let g2 : Goes old events c.begin.new.outcome c.begin.new.self (rest_of_do seat.daemon request) = c.if-not-begin.ensures.begins.2 (rest_of_do seat.daemon request) in
    let two_3 : HasTwo c.add.new.self = two-after c.begin.new.outcome (c.work.result ∷ []) c.add.new.self two c.add.ensures.added in
    let g3 : Goes old events c.add.new.self c.work.new.self later = goes-on old events c.begin.new.outcome c.add.new.self c.begin.new.self (Work seat.daemon 1 false) c.work.result c.work.new.self later g2 c.work.ensures.once c.add.ensures.added c.if-not-add.ensures.made in
    let asks : Goes old events c.add.new.self c.work.new.self (Post seat.daemon 1 ∷ Deliver ∷ []) = subst (λ (b : Bool). Goes old events c.add.new.self c.work.new.self (if b then Post seat.daemon 1 ∷ Deliver ∷ [] else [])) (sym c.if-not-is_ask.ensures.ask) g3 in
    let two_4 : HasTwo c.add-2.new.self = two-after c.add.new.self (c.post.result ∷ []) c.add-2.new.self two_3 c.add-2.ensures.added in
    record { step = Step-do-begun old seat request c.add-2.new.self c.post.new.self has two_4 (goes-stop old events c.add.new.self c.add-2.new.self c.work.new.self (Post seat.daemon 1) c.post.result c.post.new.self (Deliver ∷ []) asks c.post.ensures.once c.add-2.ensures.added c.if-not-add-2.ensures.made) }

pub returns : goal.returns
returns c =
    let old : State = c.args.self.now in
    let request = c.args.request.now in
    let seat = c.in-Some.seat in
    let has : old.broker.seat ≡ Some seat = sym (ap (λ (s : State). s.broker.seat) c.self.view_is) ∙ sym c.seat.ensures.seat ∙ c.in-Some.is in
    let events : List Event = Issue request ∷ Take seat.daemon ∷ rest_of_do seat.daemon request in
    let later : List Event = if is_ask request then Post seat.daemon 1 ∷ Deliver ∷ [] else [] in
    let two : HasTwo c.begin.new.outcome = c.if-not-begin.ensures.begins.1 in
    let g2 : Goes old events c.begin.new.outcome c.begin.new.self (rest_of_do seat.daemon request) = c.if-not-begin.ensures.begins.2 (rest_of_do seat.daemon request) in
    let two_3 : HasTwo c.add.new.self = two-after c.begin.new.outcome (c.work.result ∷ []) c.add.new.self two c.add.ensures.added in
    let g3 : Goes old events c.add.new.self c.work.new.self later = goes-on old events c.begin.new.outcome c.add.new.self c.begin.new.self (Work seat.daemon 1 false) c.work.result c.work.new.self later g2 c.work.ensures.once c.add.ensures.added c.if-not-add.ensures.made in
    let asks : Goes old events c.add.new.self c.work.new.self (Post seat.daemon 1 ∷ Deliver ∷ []) = subst (λ (b : Bool). Goes old events c.add.new.self c.work.new.self (if b then Post seat.daemon 1 ∷ Deliver ∷ [] else [])) (sym c.if-not-is_ask.ensures.ask) g3 in
    let two_4 : HasTwo c.add-2.new.self = two-after c.add.new.self (c.post.result ∷ []) c.add-2.new.self two_3 c.add-2.ensures.added in
    let g4 : Goes old events c.add-2.new.self c.post.new.self (Deliver ∷ []) = goes-on old events c.add.new.self c.add-2.new.self c.work.new.self (Post seat.daemon 1) c.post.result c.post.new.self (Deliver ∷ []) asks c.post.ensures.once c.add-2.ensures.added c.if-not-add-2.ensures.made in
    let two_5 : HasTwo c.add-is_made.new.self = two-after c.add-2.new.self (c.deliver.result ∷ []) c.add-is_made.new.self two_4 c.add-is_made.ensures.added in
    record { step = Step-do-begun old seat request c.add-is_made.new.self c.deliver.new.self has two_5 (goes-last old events c.add-2.new.self c.add-is_made.new.self c.post.new.self Deliver c.deliver.result c.deliver.new.self g4 c.deliver.ensures.once c.add-is_made.ensures.added) }

-- there is room to tell of five
pub add-requires : goal.add-requires
add-requires c = record { room = (let few : length c.begin.new.outcome ≤ 2 = c.if-not-begin.ensures.begins.0 in omega arith) }

pub add-requires-2 : goal.add-requires-2
add-requires-2 c = record { room = (let few : length c.add.new.self ≤ 3 = few-more c.begin.new.outcome c.add.new.self c.work.result 2 c.if-not-begin.ensures.begins.0 c.add.ensures.added in omega arith) }

pub add-is_made-requires : goal.add-is_made-requires
add-is_made-requires c =
    let three : length c.add.new.self ≤ 3 = few-more c.begin.new.outcome c.add.new.self c.work.result 2 c.if-not-begin.ensures.begins.0 c.add.ensures.added in
    record { room = (let few : length c.add-2.new.self ≤ 4 = few-more c.add.new.self c.add-2.new.self c.post.result 3 three c.add-2.ensures.added in omega arith) }
