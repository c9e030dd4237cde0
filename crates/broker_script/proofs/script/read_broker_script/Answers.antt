use Rattle.std.proofs.Common.{◌≡◌, ◌+◌, ◌∷◌, [], ◌++◌, List, map, length, length-append, Some, None, sym, ap, ◌∙◌, subst, arith, rules}
use Rattle.std.specs.Prelude.{All, is_none}
use Rattle.std.specs.List.{position_from}
use Rattle.std.proofs.lemmas.List.Elements.{All-push}
use Rattle.script_lines.specs.BrokerLine.{broker_line_of, IsSendableLine}
use Rattle.script_lines.specs.Lines.{lines_of}
use Rattle.script_lines.specs.declared.broker_line.BrokerLine.{BrokerLine}
use Rattle.script_lines.proofs.LineLaws.{lines_of_parts}
use Rattle.broker_script.specs.Reading.{Says, first_bad}
use Rattle.broker_script.proofs.ReadingLemmas.{says-first, says-one, says-none, says-done, bad-behind, bad-first, sendable-one}
use Rattle.broker_script.proofs.script.read_broker_script.Goals as goal

pub loop-rest-preserved : goal.loop-rest-preserved
loop-rest-preserved c =
    let text = c.args.text.now in
    let rest = c.loop-rest.rest.now in
    let line = c.first_line.result.0.now in
    let after = c.first_line.result.1.now in
    let done = c.loop-rest.lines.items in
    let one = c.in-Some.said in
    let pushed : c.push.new.self.items ≡ done ++ one ∷ [] = c.in_ok-push-in-Some.ensures.items in
    let longer : length c.push.new.self.items ≡ length done + 1 = ap length pushed ∙ length-append done (one ∷ []) in
    let is : broker_line_of line ≡ Some one = sym c.in_ok-said.ensures.says ∙ c.in-Some.is in
    let lines : lines_of rest ≡ line ∷ lines_of after = lines_of_parts rest line after (omega arith) c.first_line.ensures.line c.first_line.ensures.rest in
    record {
      said = λ more says. subst (λ (said : List BrokerLine). Says text (said ++ more)) (sym pushed) (says-one text done one more (c.loop-rest.invariant.said (one ∷ more) (says-first rest line after one more lines is says)));
      bad = subst (λ n. position_from is_none (n + 1) (map broker_line_of (lines_of after)) ≡ first_bad (lines_of text)) (sym longer) (sym (bad-behind (length done + 1) rest line after one lines is) ∙ c.loop-rest.invariant.bad);
      sendable = subst (λ (said : List BrokerLine). All IsSendableLine said) (sym pushed) (All-push IsSendableLine done one c.loop-rest.invariant.sendable (sendable-one line one is));
      room = omega (arith, longer, c.loop-rest.invariant.room, c.first_line.ensures.shorter);
    }

pub returns-in-None-clause-refused : goal.returns-in-None-clause-refused
returns-in-None-clause-refused c =
    let rest = c.loop-rest.rest.now in
    let line = c.first_line.result.0.now in
    let after = c.first_line.result.1.now in
    let count = length c.loop-rest.lines.items in
    let none : broker_line_of line ≡ None = sym c.in_ok-said.ensures.says ∙ c.in-None.is in
    let lines : lines_of rest ≡ line ∷ lines_of after = lines_of_parts rest line after (omega arith) c.first_line.ensures.line c.first_line.ensures.rest in
    let len : c.len.result ≡ count = search rules in
    sym c.loop-rest.invariant.bad ∙ bad-first (count + 1) rest line after lines none ∙ ap (λ n. Some (n + 1)) (sym len)

pub returns-clause-says : goal.returns-clause-says
returns-clause-says c =
    let none = sym c.is_empty.ensures ∙ c.loop-rest-test.false in
    says-done c.args.text.now c.loop-rest.lines.items (c.loop-rest.invariant.said [] (says-none c.loop-rest.rest.now none))
