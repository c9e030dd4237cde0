-- A message is heard: a part that others follow is read where it stands, and any other leads to a turn.
use Rattle.std.proofs.Common.{ℕ, ◌≡◌, List, ◌++◌, length, get_or, set, refl, sym, ap, ◌∙◌, subst, arith}
use Rattle.std.proofs.lemmas.Option.{slice_get_read}
use Rattle.takeover_core.specs.declared.message.Message.{Message}
use Rattle.daemon.specs.Daemon.{DaemonState}
use Rattle.daemon.specs.Serving.{IsIndex}
use Rattle.daemon.specs.Saying.{what_is_said}
use Rattle.daemon.specs.Talking.{ComesTo, HearsSo}
use Rattle.daemon.specs.declared.turn.Effect.TheVariants as effect
use Rattle.daemon.proofs.Positions.{set-there}
use Rattle.world.specs.State.{State}
use Rattle.world.specs.Step.{told_reaction, Once}
use Rattle.world.specs.declared.event.Event.TheVariants.{Hear}
use Rattle.daemon.specs.declared.happened.Happened.TheVariants as happened
use Rattle.daemon.specs.declared.happened.Refusal.TheVariants.{NoMemory}
use Rattle.world.proofs.StepLemmas.{changed-at, turned-hears, Once-hear-lacks, Once-hears}
use Rattle.world.proofs.world.World.hear.Goals as goal

pub returns-in_default-hear : goal.returns-in_default-hear
returns-in_default-hear c =
    let old : State = record { manifest = c.self.inside.manifest; limit = c.self.inside.limit; broker = c.self.inside.broker; daemons = c.self.inside.daemons.items; messages = c.self.inside.messages.items } in
    let here : IsIndex (length old.daemons) c.args.daemon.0 c.in-Some.index = record {
      counted = c.in-Some.ensures.index.counted;
      is = c.in-Some.ensures.index.is;
      within = omega (arith, c.in-Some.ensures.index.within, c.len.ensures, c.self.inside.daemons.ok.0);
    } in
    let there : IsIndex (length old.messages) c.args.position c.in-Some-index_of.at = record {
      counted = c.in-Some-index_of.ensures.index.counted;
      is = c.in-Some-index_of.ensures.index.is;
      within = omega (arith, c.in-Some-index_of.ensures.index.within, c.len-2.ensures, c.self.inside.messages.ok.0);
    } in
    let hearer = slice_get_read old.daemons (length old.daemons) c.in-Some.index c.index-hearer.result.now refl here.within c.index-hearer.ensures in
    let read = slice_get_read old.messages (length old.messages) c.in-Some-index_of.at c.index-said.result.now refl there.within c.index-said.ensures in
    record { once = subst (λ (s : State). Once s (Hear c.args.daemon c.args.position) (happened.Refused NoMemory) s) c.self.view_is (Once-hear-lacks old c.args.daemon c.args.position c.in-Some.index c.in-Some-index_of.at c.index-hearer.result.now c.index-said.result.now here hearer there read) }

pub returns-then-is_err-2 : goal.returns-then-is_err-2
returns-then-is_err-2 c =
    let old : State = record { manifest = c.self.inside.manifest; limit = c.self.inside.limit; broker = c.self.inside.broker; daemons = c.self.inside.daemons.items; messages = c.self.inside.messages.items } in
    let here : IsIndex (length old.daemons) c.args.daemon.0 c.in-Some.index = record {
      counted = c.in-Some.ensures.index.counted;
      is = c.in-Some.ensures.index.is;
      within = omega (arith, c.in-Some.ensures.index.within, c.len.ensures, c.self.inside.daemons.ok.0);
    } in
    let there : IsIndex (length old.messages) c.args.position c.in-Some-index_of.at = record {
      counted = c.in-Some-index_of.ensures.index.counted;
      is = c.in-Some-index_of.ensures.index.is;
      within = omega (arith, c.in-Some-index_of.ensures.index.within, c.len-2.ensures, c.self.inside.messages.ok.0);
    } in
    let hearer = slice_get_read old.daemons (length old.daemons) c.in-Some.index c.index-hearer.result.now refl here.within c.index-hearer.ensures in
    let read = slice_get_read old.messages (length old.messages) c.in-Some-index_of.at c.index-said.result.now refl there.within c.index-said.ensures in
    record {
      once = subst (λ (s : State). Once s (Hear c.args.daemon c.args.position) (happened.Refused NoMemory) (record old { messages = c.reserve-in-Part.new.self.items })) c.self.view_is
          (subst (λ (said : List Message). Once old (Hear c.args.daemon c.args.position) (happened.Refused NoMemory) (record old { messages = said })) (sym c.reserve-in-Part.ensures.items) (Once-hear-lacks old c.args.daemon c.args.position c.in-Some.index c.in-Some-index_of.at c.index-hearer.result.now c.index-said.result.now here hearer there read));
    }

pub returns-else-is_err : goal.returns-else-is_err
returns-else-is_err c =
    let old : State = record { manifest = c.self.inside.manifest; limit = c.self.inside.limit; broker = c.self.inside.broker; daemons = c.self.inside.daemons.items; messages = c.self.inside.messages.items } in
    let here : IsIndex (length old.daemons) c.args.daemon.0 c.in-Some.index = record {
      counted = c.in-Some.ensures.index.counted;
      is = c.in-Some.ensures.index.is;
      within = omega (arith, c.in-Some.ensures.index.within, c.len.ensures, c.self.inside.daemons.ok.0);
    } in
    let there : IsIndex (length old.messages) c.args.position c.in-Some-index_of.at = record {
      counted = c.in-Some-index_of.ensures.index.counted;
      is = c.in-Some-index_of.ensures.index.is;
      within = omega (arith, c.in-Some-index_of.ensures.index.within, c.len-2.ensures, c.self.inside.messages.ok.0);
    } in
    let hearer = slice_get_read old.daemons (length old.daemons) c.in-Some.index c.index-hearer.result.now refl here.within c.index-hearer.ensures in
    let read = slice_get_read old.messages (length old.messages) c.in-Some-index_of.at c.index-said.result.now refl there.within c.index-said.ensures in
    let comes : ComesTo old.manifest old.limit c.index-hearer.result.now c.index-said.result.now (effect.Turn c.in-Turn.turn) =
    subst (ComesTo old.manifest old.limit c.index-hearer.result.now c.index-said.result.now) c.in-Turn.is c.in-Ok.ensures.hears in
    let turned = turned-hears old.manifest old.limit old.daemons c.in-Some.index c.index-hearer.result.now c.index-said.result.now c.in-Turn.turn c.let_turn-reaction.result c.let_turn-reaction.new.daemons.items hearer
    c.let_turn-reaction.ensures.reacts comes c.let_turn-reaction.ensures.turns in
    record {
      once = subst (λ (s : State). Once s (Hear c.args.daemon c.args.position) c.say.result (record old { daemons = c.let_turn-reaction.new.daemons.items; messages = c.say.new.messages.items })) c.self.view_is
          (Once-hears old c.args.daemon c.args.position c.in-Some.index c.in-Some-index_of.at c.index-said.result.now c.let_turn-reaction.result c.say.result c.let_turn-reaction.new.daemons.items c.say.new.messages.items here there read turned
          (c.say.ensures.told ∙ ap (λ (count : ℕ). told_reaction count c.let_turn-reaction.result) (c.reserve.ensures.len ∙ c.self.inside.messages.ok.0))
          (c.say.ensures.said ∙ ap (λ (ms : List Message). ms ++ what_is_said c.let_turn-reaction.result) c.reserve.ensures.items));
    }

pub returns-in_default-read_part : goal.returns-in_default-read_part
returns-in_default-read_part c =
    let old : State = record { manifest = c.self.inside.manifest; limit = c.self.inside.limit; broker = c.self.inside.broker; daemons = c.self.inside.daemons.items; messages = c.self.inside.messages.items } in
    let here : IsIndex (length old.daemons) c.args.daemon.0 c.in-Some.index = record {
      counted = c.in-Some.ensures.index.counted;
      is = c.in-Some.ensures.index.is;
      within = omega (arith, c.in-Some.ensures.index.within, c.len.ensures, c.self.inside.daemons.ok.0);
    } in
    let there : IsIndex (length old.messages) c.args.position c.in-Some-index_of.at = record {
      counted = c.in-Some-index_of.ensures.index.counted;
      is = c.in-Some-index_of.ensures.index.is;
      within = omega (arith, c.in-Some-index_of.ensures.index.within, c.len-2.ensures, c.self.inside.messages.ok.0);
    } in
    let hearer = slice_get_read old.daemons (length old.daemons) c.in-Some.index c.index-hearer.result.now refl here.within c.index-hearer.ensures in
    let read = slice_get_read old.messages (length old.messages) c.in-Some-index_of.at c.index-said.result.now refl there.within c.index-said.ensures in
    let same : set old.daemons c.in-Some.index c.read_part.new.self ≡ old.daemons =
    ap (λ (d : DaemonState). set old.daemons c.in-Some.index d) c.in_default-read_part.ensures.unchanged
    ∙ set-there old.daemons c.in-Some.index c.index_mut-reader.result.now (slice_get_read old.daemons (length old.daemons) c.in-Some.index c.index_mut-reader.result.now refl here.within c.index_mut-reader.ensures.value) in
    record {
      once = subst (λ (s : State). Once s (Hear c.args.daemon c.args.position) (happened.Refused NoMemory) (record old { daemons = set old.daemons c.in-Some.index c.read_part.new.self; messages = c.reserve-in-Part.new.self.items })) c.self.view_is
          (subst (λ (said : List Message). Once old (Hear c.args.daemon c.args.position) (happened.Refused NoMemory) (record old { daemons = set old.daemons c.in-Some.index c.read_part.new.self; messages = said })) (sym c.reserve-in-Part.ensures.items)
          (subst (λ (ds : List DaemonState). Once old (Hear c.args.daemon c.args.position) (happened.Refused NoMemory) (record old { daemons = ds })) (sym same) (Once-hear-lacks old c.args.daemon c.args.position c.in-Some.index c.in-Some-index_of.at c.index-hearer.result.now c.index-said.result.now here hearer there read)));
    }

pub returns-in-Ok-read_part : goal.returns-in-Ok-read_part
returns-in-Ok-read_part c =
    let old : State = record { manifest = c.self.inside.manifest; limit = c.self.inside.limit; broker = c.self.inside.broker; daemons = c.self.inside.daemons.items; messages = c.self.inside.messages.items } in
    let here : IsIndex (length old.daemons) c.args.daemon.0 c.in-Some.index = record {
      counted = c.in-Some.ensures.index.counted;
      is = c.in-Some.ensures.index.is;
      within = omega (arith, c.in-Some.ensures.index.within, c.len.ensures, c.self.inside.daemons.ok.0);
    } in
    let there : IsIndex (length old.messages) c.args.position c.in-Some-index_of.at = record {
      counted = c.in-Some-index_of.ensures.index.counted;
      is = c.in-Some-index_of.ensures.index.is;
      within = omega (arith, c.in-Some-index_of.ensures.index.within, c.len-2.ensures, c.self.inside.messages.ok.0);
    } in
    let hearer = slice_get_read old.daemons (length old.daemons) c.in-Some.index c.index-hearer.result.now refl here.within c.index-hearer.ensures in
    let read = slice_get_read old.messages (length old.messages) c.in-Some-index_of.at c.index-said.result.now refl there.within c.index-said.ensures in
    let fed = changed-at (λ was later. HearsSo old.manifest old.limit was c.index.result.now c.in-Ok-read_part.reaction later) old.daemons c.in-Some.index c.index_mut-reader.result.now c.read_part.new.self here.within c.index_mut-reader.ensures.value
    (c.in-Ok-read_part.ensures.hears old.manifest old.limit) in
    record {
      once = subst (λ (s : State). Once s (Hear c.args.daemon c.args.position) c.say-in-Part.result (record old { daemons = set old.daemons c.in-Some.index c.read_part.new.self; messages = c.say-in-Part.new.messages.items })) c.self.view_is
          (Once-hears old c.args.daemon c.args.position c.in-Some.index c.in-Some-index_of.at c.index.result.now c.in-Ok-read_part.reaction c.say-in-Part.result (set old.daemons c.in-Some.index c.read_part.new.self) c.say-in-Part.new.messages.items here there
          (slice_get_read old.messages (length old.messages) c.in-Some-index_of.at c.index.result.now refl there.within (c.index.ensures ∙ ap (λ (ms : List Message). get_or ms c.in-Some-index_of.at c.index.result.now) c.reserve-in-Part.ensures.items)) fed
          (c.say-in-Part.ensures.told ∙ ap (λ (count : ℕ). told_reaction count c.in-Ok-read_part.reaction) (c.reserve-in-Part.ensures.len ∙ c.self.inside.messages.ok.0))
          (c.say-in-Part.ensures.said ∙ ap (λ (ms : List Message). ms ++ what_is_said c.in-Ok-read_part.reaction) c.reserve-in-Part.ensures.items));
    }
