use Rattle.std.proofs.Common.{false, ap, sym, ◌∙◌}
use Rattle.script_lines.specs.EventLine.{tried_by, tried_at}
use Rattle.script_lines.proofs.DigitLemmas.{number_is_one_word}
use Rattle.script_lines.proofs.event_line.read_tried.Goals as goal

pub returns-in-Some : goal.returns-in-Some
returns-in-Some c =
    let read = sym c.number.ensures ∙ c.in-Some.is in
    sym (ap (tried_by c.args.words.now) (number_is_one_word c.in-Some.position c.args.words.now read) ∙ ap (λ position. tried_at position false) read)
