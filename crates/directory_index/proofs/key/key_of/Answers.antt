-- Eight bytes more, and the last eight behind all.
use Rattle.std.proofs.Common.{◌%◌, ◌*◌, ◌^◌, ◌∙◌}
use Rattle.directory_index.specs.Keys.{factor, key_of}
use Rattle.directory_index.proofs.KeyLemmas.{goes_on, ends}
use Rattle.directory_index.proofs.key.key_of.Goals as goal

pub loop-word-preserved : goal.loop-word-preserved
loop-word-preserved c =
    let parts = c.in-Some.ensures.cases in
    goes_on c.loop-word.key c.from_le_bytes.result c.key_with-key.result c.loop-word.rest.now c.in-Some.word.now c.in-Some.behind.now
    parts.0 parts.1 parts.2 c.from_le_bytes.ensures c.key_with-key.ensures.key
    ∙ c.loop-word.invariant

pub returns : goal.returns
unfolding key_of
returns c = record {
  key = c.key_with.ensures.key
      ∙ ends ((c.args.number * factor) % 2 ^ 64) c.loop-word.key c.key_with_last.result c.args.bytes.now c.loop-word.rest.now c.in_default.ensures.cases c.loop-word.invariant c.key_with_last.ensures.key;
}
