-- Wider tiers have in each part what they had.
use Rattle.std.proofs.Common.{List, ap, ◌∙◌}
use Rattle.key_map.specs.Cells.{kept}
use Rattle.key_map.specs.declared.bucket.Bucket.{Bucket}
use Rattle.key_map.proofs.TierLemmas.{apart-same}
use Rattle.key_map.proofs.tier.TierNumbers.widen.Goals as goal

pub returns-clause-single : goal.returns-clause-single
returns-clause-single g c = (
  apart-same (kept c.args.self.now.buckets.items c.args.self.now.shift) (g.R.Numbers.at c.args.self.now.rest) (kept c.in_ok-wide.wide.items c.args.self.now.shift) (g.R.Numbers.at c.widen.new.self)
      c.requires.single.0 (λ k. c.in_ok-wide.ensures.same k ∙ ap (λ (items : List Bucket). kept items c.args.self.now.shift k) c.as_slice.ensures.value) c.widen.ensures.same,
  c.widen.ensures.single,
)
