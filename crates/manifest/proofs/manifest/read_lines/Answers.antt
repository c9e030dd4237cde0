-- The first line that is refused refuses the text.
use Rattle.std.proofs.Common.{◌≡◌, ◌+◌, ◌<◌, [], length, false, Err, arith, ap, subst, sym, ◌∙◌}
use Rattle.std.proofs.lemmas.Bool.Decides.{nat_tests}
use Rattle.manifest.specs.declared.fault.ManifestFaultKind.TheVariants.{BadLine}
use Rattle.manifest.specs.ManifestText.{fault_at, lines_of, read_on, IsRefusal}
use Rattle.manifest.proofs.TextLemmas.{parts-cut, parts-no_cut}
use Rattle.manifest.proofs.ReadLemmas.{read_on-unended, read_on-taken, length_taken, refusal_from_line, among_lines, first_line}
use Rattle.manifest.proofs.manifest.read_lines.Goals as goal

pub returns-in_default-clause-refused : goal.returns-in_default-clause-refused
returns-in_default-clause-refused c =
    let some : 0 < length c.loop-rest.rest.now = let full : c.is_empty.result ≡ false = cc (c.loop-rest-test.true) in grind (arith, nat_tests) in
    let number = ap (λ n. n + 2) c.len-line.ensures.len in
    sym c.loop-rest.invariant.0 ∙ ap (read_on c.loop-rest.lines (length c.loop-rest.lines + 2)) (parts-no_cut 10 c.loop-rest.rest.now (sym c.in_default.ensures.parts))
    ∙ read_on-unended c.loop-rest.lines (length c.loop-rest.lines + 2) c.loop-rest.rest.now some ∙ sym (ap (λ n. Err (fault_at n BadLine)) number)

pub loop-rest-preserved : goal.loop-rest-preserved
loop-rest-preserved c =
    let old = c.loop-rest.lines in
    let new = c.read.new.self in
    let text = c.in-Some.text.now in
    let after = c.in-Some.after.now in
    let taken = read_on-taken old (length old + 2) text after new c.in-Ok.ensures.added in
    let longer : length old + 2 + 1 ≡ length new + 2 = length_taken old text new c.in-Ok.ensures.added in
    let whole = parts-cut 10 c.loop-rest.rest.now text after (sym c.in-Some.ensures.parts) in
    let left = ap length whole in
    (sym (ap (λ n. read_on new n (lines_of after)) longer) ∙ sym taken ∙ sym (ap (read_on old (length old + 2)) whole) ∙ c.loop-rest.invariant.0, omega (arith, longer, left, c.loop-rest.invariant.1))

pub returns-in-Err-clause-refused : goal.returns-in-Err-clause-refused
returns-in-Err-clause-refused c =
    let old = c.loop-rest.lines in
    let text = c.in-Some.text.now in
    let after = c.in-Some.after.now in
    let number = ap (λ n. n + 2) c.len-line.ensures.len in
    let refused = refusal_from_line old (length old + 2) text after c.in-Err.kind c.in-Err.ensures.refused in
    let whole = sym (ap (read_on old (length old + 2)) (parts-cut 10 c.loop-rest.rest.now text after (sym c.in-Some.ensures.parts))) ∙ c.loop-rest.invariant.0 in
    subst (λ n. IsRefusal (read_on [] 2 (lines_of c.args.bytes.now)) n c.in-Err.kind) (sym number) (subst (λ r. IsRefusal r (length old + 2) c.in-Err.kind) whole refused)

pub returns-in_default-clause-line : goal.returns-in_default-clause-line
returns-in_default-clause-line c =
    let last = ap length (parts-no_cut 10 c.loop-rest.rest.now (sym c.in_default.ensures.parts)) in
    (omega (arith, c.len-line.ensures.len), omega (arith, c.len-line.ensures.len, last, c.loop-rest.invariant.1))

pub returns-in-Err-clause-line : goal.returns-in-Err-clause-line
returns-in-Err-clause-line c =
    let after = c.in-Some.after.now in
    let left = ap length (parts-cut 10 c.loop-rest.rest.now c.in-Some.text.now after (sym c.in-Some.ensures.parts)) in
    let more = (first_line after).1 in
    among_lines _ _ c.in-Err.kind (omega (arith, c.len-line.ensures.len)) (omega (arith, c.len-line.ensures.len, left, more, c.loop-rest.invariant.1))
