-- The chain is fit for a map.
use Rattle.std.proofs.Common.{◌≡◌, ◌+◌, ◌≤◌, length, arith}
use Rattle.eden_base.specs.Limits.{end_of_numbers}
use Rattle.measure.proofs.ChainLemmas.{chain-entries}
use Rattle.measure.proofs.map.knows_last_of.Goals as goal

pub knows_last-requires-clause-entries : goal.knows_last-requires-clause-entries
knows_last-requires-clause-entries c =
    let list = c.in_ok-list.list in
    let n = c.args.entries in
    let fits : n + 2 ≤ end_of_numbers = let few = c.ranges.entries.fits in omega arith in
    let len : length list.items ≡ n = c.in_ok-list.ensures.len in
    chain-entries list.items (n + 2) c.in_ok-list.ensures.chain (omega arith) fits
