-- One more directory is noted, or memory for it was refused.
use Rattle.std.proofs.Common.{◌∙◌, ◌<◌, length, ap, arith}
use Rattle.std.proofs.lemmas.Bool.Decides.{nat_tests}
use Rattle.std.specs.Prelude.{OnErr, Ok, Err, List, ℕ}
use Rattle.broker_desk.specs.Changed.{is_in, AddsSome}
use Rattle.broker_desk.proofs.Additions.{added_one, added_some}
use Rattle.broker_desk.proofs.changed.ChangedDirectories.add.Goals as goal

pub loop-number-preserved : goal.loop-number-preserved
loop-number-preserved c n =
    let numbers = c.args.numbers.now in
    let i = c.loop-number.number-index in
    let test = c.loop-number-test.true in
    let within : i < length numbers = grind (arith, nat_tests) in
    added_one numbers i n (is_in n c.args.self.now) (is_in n c.loop-number.self-inside.numbers.keys) (is_in n c.insert.new.self.keys) within (c.loop-number.invariant n) (c.in_ok-insert.ensures.updates.0 n)

pub returns-in_err-insert-clause-refused : goal.returns-in_err-insert-clause-refused
returns-in_err-insert-clause-refused c =
    let some : AddsSome c.args.self.now c.args.numbers.now c.insert.new.self.keys =
    λ n. added_some c.args.numbers.now c.loop-number.number-index n (is_in n c.args.self.now) (is_in n c.insert.new.self.keys)
    (ap (λ (keys : List ℕ). is_in n keys) c.in_err-insert.ensures.err ∙ c.loop-number.invariant n) in
    elim c.from_residual.result as (λ r. OnErr r (AddsSome c.args.self.now c.args.numbers.now c.insert.new.self.keys)) [ Ok x ↦ tt | Err fault ↦ some ]
