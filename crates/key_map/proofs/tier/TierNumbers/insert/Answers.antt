-- Where the key's bucket is full, the number comes below.
use Rattle.std.proofs.lemmas.Result.{on_err_weaker, on_ok_weaker}
use Rattle.key_map.specs.Cells.{kept}
use Rattle.key_map.proofs.TierLemmas.{apart-above, apart-below, apart-same, either-way, put_below, same-both}
use Rattle.key_map.proofs.tier.TierNumbers.insert.Goals as goal

pub returns-then-put-clause-single : goal.returns-then-put-clause-single
returns-then-put-clause-single g c = (
  apart-above (kept c.args.self.now.buckets.items c.args.self.now.shift) (g.R.Numbers.at c.args.self.now.rest) (kept c.put.new.buckets.items c.args.self.now.shift) c.args.key c.args.number
      c.requires.single.0 c.requires.free c.if-put.ensures.put,
  c.requires.single.1,
)

pub returns-clause-ok : goal.returns-clause-ok
returns-clause-ok g c =
    on_ok_weaker c.insert.result (λ e k.
    put_below (kept c.args.self.now.buckets.items c.args.self.now.shift) (g.R.Numbers.at c.args.self.now.rest) c.args.key c.args.number k (kept c.put.new.buckets.items c.args.self.now.shift k) (g.R.Numbers.at c.insert.new.self k)
    c.requires.free (c.if-put.ensures.put k) (e k)) c.insert.ensures.ok

pub returns-clause-err : goal.returns-clause-err
returns-clause-err g c =
    on_err_weaker c.insert.result (λ e k.
    same-both (kept c.args.self.now.buckets.items c.args.self.now.shift k) (g.R.Numbers.at c.args.self.now.rest k) (kept c.put.new.buckets.items c.args.self.now.shift k) (g.R.Numbers.at c.insert.new.self k)
    (c.if-put.ensures.put k) (e k)) c.insert.ensures.err

pub returns-clause-single : goal.returns-clause-single
returns-clause-single g c =
    let above = kept c.args.self.now.buckets.items c.args.self.now.shift in
    let below = g.R.Numbers.at c.args.self.now.rest in
    let above_new = kept c.put.new.buckets.items c.args.self.now.shift in
    let below_new = g.R.Numbers.at c.insert.new.self in (
      either-way c.insert.result c.insert.ensures.ok c.insert.ensures.err
          (λ e. apart-below above below above_new below_new c.args.key c.args.number c.requires.single.0 c.requires.free c.if-put.ensures.put e)
          (λ e. apart-same above below above_new below_new c.requires.single.0 c.if-put.ensures.put e),
      c.insert.ensures.single,
    )
