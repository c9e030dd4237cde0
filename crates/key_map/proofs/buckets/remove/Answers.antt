-- One bucket is changed, at one key.
use Rattle.std.proofs.Common.{◌≡◌, ◌<◌, ◌==◌, ◌&&◌, None, ℕ, get_or, length, ap, ◌∙◌, arith}
use Rattle.std.proofs.lemmas.Grind.{common_steps}
use Rattle.std.proofs.lemmas.List.{get_or_default}
use Rattle.key_map.specs.Cells.{empty_bucket, home, in_bucket, is_number}
use Rattle.key_map.specs.declared.bucket.Bucket.{Bucket}
use Rattle.key_map.proofs.BucketLemmas.{changed_at, of_key}
use Rattle.key_map.proofs.buckets.remove.Goals as goal

pub returns : goal.returns
returns c =
    let buckets = c.args.buckets.now.items in
    let long : c.len.result ≡ length buckets = grind (arith, common_steps) in
    let home_is : c.home_of-home.result ≡ home c.args.shift (length buckets) c.args.key = c.home_of-home.ensures.home ∙ ap (λ (n : ℕ). home c.args.shift n c.args.key) long in
    let less : c.home_of-home.result < length buckets = omega (arith, c.home_of-home.ensures.bound, long) in
    record {
      had = c.remove.ensures.had
          ∙ ap (λ (b : Bucket). is_number c.args.number (in_bucket c.args.key b))
          (c.index_mut.ensures.value ∙ get_or_default buckets c.home_of-home.result c.index_mut.result.now empty_bucket less ∙ ap (λ (i : ℕ). get_or buckets i empty_bucket) home_is);
      removed = λ k.
          changed_at buckets c.args.shift c.args.key k c.home_of-home.result c.index_mut.result.now c.remove.new.self (c.remove.result && k == c.args.key) None home_is less
          c.index_mut.ensures.value (of_key c.remove.result k c.args.key) (c.remove.ensures.removed k);
    }
