-- The last eight bytes, or each of fewer.
use Rattle.std.proofs.Common.{arith}
use Rattle.directory_index.proofs.KeyLemmas.{by-eight, by-each}
use Rattle.directory_index.proofs.key.key_with_last.Goals as goal

pub returns-in-Some : goal.returns-in-Some
returns-in-Some c =
    let parts = c.in-Some.ensures.cases in
    record { key = by-eight c.args.key c.from_le_bytes.result c.key_with.result c.args.bytes.now c.in-Some.word.now (omega (arith, parts.2)) parts.1 c.from_le_bytes.ensures c.key_with.ensures.key }

pub returns-in-None : goal.returns-in-None
returns-in-None c = record { key = by-each c.args.key c.key_with_each.result c.args.bytes.now c.in-None.ensures.cases c.key_with_each.ensures.key }
