use Rattle.std.proofs.Common.{◌≡◌, ℕ, ◌+◌, ◌++◌, ◌∷◌, [], List, map, Some, None, length, length-append, ap, subst, sym, ◌∙◌, arith, rules}
use Rattle.std.specs.Option.{option_map}
use Rattle.world.specs.declared.event.Event.{Event}
use Rattle.script_lines.specs.EventLine.{event_of}
use Rattle.script_lines.specs.Lines.{lines_of}
use Rattle.world_script.proofs.ScriptLemmas.{events_more, first_bad_is}
use Rattle.world_script.proofs.script.read_events.Goals as goal

pub loop-rest-preserved : goal.loop-rest-preserved
loop-rest-preserved c =
    let pushed : c.push.new.self.items ≡ c.loop-rest.events.items ++ c.in-Some.event ∷ [] = search rules in
    let says : event_of c.first_line.result.0.now ≡ Some c.in-Some.event = sym c.in_ok-event.ensures.event ∙ c.in-Some.is in
    let more = events_more c.loop-rest.events.items c.in-Some.event c.loop-rest.rest.now c.first_line.result.0.now c.first_line.result.1.now _ c.loop-rest.invariant.0 (omega arith) c.first_line.ensures.line c.first_line.ensures.rest says in
    let longer : length c.push.new.self.items ≡ length c.loop-rest.events.items + 1 = ap length pushed ∙ length-append c.loop-rest.events.items (c.in-Some.event ∷ []) in (
      subst (λ (events : List Event). map Some events ++ map event_of (lines_of c.first_line.result.1.now) ≡ map event_of (lines_of c.args.text.now)) (sym pushed) more,
      omega (arith, longer, c.loop-rest.invariant.1, c.first_line.ensures.shorter),
    )

pub returns-in-None-clause-refused : goal.returns-in-None-clause-refused
returns-in-None-clause-refused c =
    let says : event_of c.first_line.result.0.now ≡ None = sym c.in_ok-event.ensures.event ∙ c.in-None.is in
    let bad = first_bad_is c.loop-rest.events.items c.loop-rest.rest.now c.first_line.result.0.now c.first_line.result.1.now c.args.text.now c.loop-rest.invariant.0 (omega arith) c.first_line.ensures.line c.first_line.ensures.rest says in
    let len : c.len.result ≡ length c.loop-rest.events.items = search rules in
    ap (option_map (λ (i : ℕ). c.args.first + i)) (bad ∙ ap Some (sym len))
