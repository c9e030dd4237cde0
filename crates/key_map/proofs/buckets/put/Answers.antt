-- One bucket is changed, at one key.
use Rattle.std.proofs.Common.{◌≡◌, ◌==◌, ◌&&◌, Some, ℕ, length, ap, ◌∙◌, arith}
use Rattle.std.proofs.lemmas.Grind.{common_steps}
use Rattle.key_map.specs.Cells.{home}
use Rattle.key_map.proofs.BucketLemmas.{changed_at, of_key}
use Rattle.key_map.proofs.buckets.put.Goals as goal

pub returns : goal.returns
returns c = record {
  put = λ k.
      let long : c.len.result ≡ length c.args.buckets.now.items = grind (arith, common_steps) in
      let home_is : c.home_of-home.result ≡ home c.args.shift (length c.args.buckets.now.items) c.args.key =
      c.home_of-home.ensures.home ∙ ap (λ (n : ℕ). home c.args.shift n c.args.key) long in
      changed_at c.args.buckets.now.items c.args.shift c.args.key k c.home_of-home.result c.index_mut.result.now c.put.new.self (c.put.result && k == c.args.key) (Some c.args.number) home_is (omega (arith, c.home_of-home.ensures.bound, long))
      c.index_mut.ensures.value (of_key c.put.result k c.args.key) (c.put.ensures.put k);
}
