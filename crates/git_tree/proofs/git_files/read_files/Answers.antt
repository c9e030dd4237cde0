-- The first record that is refused refuses the output.
use Rattle.std.proofs.Common.{◌≡◌, ◌+◌, ◌<◌, ℕ, length, false, Err, arith, ap, sym, subst, ◌∙◌}
use Rattle.std.proofs.lemmas.Bool.Decides.{nat_tests}
use Rattle.manifest.proofs.TextLemmas.{parts-cut, parts-no_cut, some_part}
use Rattle.git_tree.specs.declared.fault.GitTreeFaultKind.TheVariants.{BadRecord}
use Rattle.git_tree.specs.GitTree.{fault_at, no_files, read_on, records_of, IsRefusal}
use Rattle.git_tree.proofs.RecordLaws.{read_on-refused, read_on-taken, read_on-unended, taken-one_more}
use Rattle.git_tree.proofs.git_files.read_files.Goals as goal

pub returns-in_default-clause-refused : goal.returns-in_default-clause-refused
returns-in_default-clause-refused c =
    let files = c.loop-rest.files in
    let rest = c.loop-rest.rest.now in
    let number = length files.objects + 1 in
    let some : 0 < length rest = let full : c.is_empty.result ≡ false = cc (c.loop-rest-test.true) in grind (arith, nat_tests) in
    sym c.loop-rest.invariant.same ∙ ap (read_on files number) (parts-no_cut 0 rest (sym c.in_default.ensures.parts)) ∙ read_on-unended files number rest some
    ∙ sym (ap (λ (n : ℕ). Err (fault_at (n + 1) BadRecord)) c.len-number.ensures.len)

pub returns-in_default-clause-record : goal.returns-in_default-clause-record
returns-in_default-clause-record c =
    let last = ap length (parts-no_cut 0 c.loop-rest.rest.now (sym c.in_default.ensures.parts)) in
    (omega arith, omega (arith, c.len-number.ensures.len, last, c.loop-rest.invariant.counted))

pub loop-rest-preserved : goal.loop-rest-preserved
loop-rest-preserved c =
    let old = c.loop-rest.files in
    let new = c.add.new.self in
    let text = c.in-Some.text.now in
    let after = c.in-Some.after.now in
    let number = length old.objects + 1 in
    let whole = parts-cut 0 c.loop-rest.rest.now text after (sym c.in-Some.ensures.parts) in
    let left = ap length whole in
    let taken = read_on-taken old new number text after c.in-Ok.ensures.added in
    let more = taken-one_more old new text c.in-Ok.ensures.added in
    record {
      same = ap (λ n. read_on new (n + 1) (records_of after)) more.objects ∙ sym taken ∙ sym (ap (read_on old number) whole) ∙ c.loop-rest.invariant.same;
      counted = omega (arith, more.objects, left, c.loop-rest.invariant.counted);
      same_many = omega (arith, more.objects, more.lines, c.loop-rest.invariant.same_many);
    }

pub returns-in-Err-clause-refused : goal.returns-in-Err-clause-refused
returns-in-Err-clause-refused c =
    let old = c.loop-rest.files in
    let text = c.in-Some.text.now in
    let after = c.in-Some.after.now in
    let number = length old.objects + 1 in
    let whole = parts-cut 0 c.loop-rest.rest.now text after (sym c.in-Some.ensures.parts) in
    let refused = read_on-refused old number text after c.in-Err.kind c.in-Err.ensures.refused in
    subst (λ (n : ℕ). IsRefusal (read_on no_files 1 (records_of c.args.output.now)) (n + 1) c.in-Err.kind) (sym c.len-number.ensures.len)
    (subst (λ said. IsRefusal said number c.in-Err.kind) (sym (ap (read_on old number) whole) ∙ c.loop-rest.invariant.same) refused)

pub returns-in-Err-clause-record : goal.returns-in-Err-clause-record
returns-in-Err-clause-record c =
    let after = c.in-Some.after.now in
    let left = ap length (parts-cut 0 c.loop-rest.rest.now c.in-Some.text.now after (sym c.in-Some.ensures.parts)) in
    let more : 0 < length (records_of after) = let r = some_part 0 after in rw r.2 (omega arith) in
    (omega arith, omega (arith, c.len-number.ensures.len, left, more, c.loop-rest.invariant.counted))
