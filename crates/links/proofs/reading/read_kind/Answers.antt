use Rattle.std.proofs.Common.{arith, length-take, rules, sym, take}
use Rattle.frames.proofs.LackingLaws.{length_says_nothing}
use Rattle.links.proofs.ReadingLaws.{kind_fault, kind_torn}
use Rattle.links.proofs.reading.read_kind.Goals as goal

pub returns-in-Ok-eq0-clause-kind : goal.returns-in-Ok-eq0-clause-kind
returns-in-Ok-eq0-clause-kind g c =
    let front = take 4 c.args.head.now in
    let none = length_says_nothing front c.in_ok-missing.field-0 (omega (arith, c.requires.five, length-take 4 c.args.head.now)) (sym c.in_ok-missing.ensures.missing) in
    kind_torn _ _ front c.fill.new.room none (omega (arith, c.requires.five, length-take 4 c.args.head.now)) (search rules) (search rules)

pub returns-in-Err-clause-kind : goal.returns-in-Err-clause-kind
returns-in-Err-clause-kind g c =
    let front = take 4 c.args.head.now in
    let none = length_says_nothing front c.in_ok-missing.field-0 (omega (arith, c.requires.five, length-take 4 c.args.head.now)) (sym c.in_ok-missing.ensures.missing) in
    kind_fault _ _ front none c.in-Err.ensures.refused.1
