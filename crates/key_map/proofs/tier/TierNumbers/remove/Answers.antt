-- A key's number goes from the one part that has it.
use Rattle.std.proofs.Common.{◌==◌, ◌&&◌, ◌∙◌}
use Rattle.key_map.specs.Cells.{kept}
use Rattle.key_map.proofs.TierLemmas.{apart-less, apart-removed, below-too, both-removed, had-above, had-below, less-below, removed-below}
use Rattle.key_map.proofs.tier.TierNumbers.remove.Goals as goal

pub returns-then-remove-clause-had : goal.returns-then-remove-clause-had
returns-then-remove-clause-had g c =
    had-above c.args.number (kept c.args.self.now.buckets.items c.args.self.now.shift c.args.key) (g.R.Numbers.at c.args.self.now.rest c.args.key) c.if-remove.ensures.had

pub returns-then-remove-clause-removed : goal.returns-then-remove-clause-removed
returns-then-remove-clause-removed g c k =
    let above = kept c.args.self.now.buckets.items c.args.self.now.shift in
    let below = g.R.Numbers.at c.args.self.now.rest in
    both-removed (above k) (below k) (kept c.remove.new.buckets.items c.args.self.now.shift k) (below k) (k == c.args.key) (c.if-remove.ensures.removed k)
    (below-too above below c.args.key c.args.number c.requires.single.0 c.if-remove.ensures.had k)

pub returns-then-remove-clause-single : goal.returns-then-remove-clause-single
returns-then-remove-clause-single g c =
    let above = kept c.args.self.now.buckets.items c.args.self.now.shift in
    let below = g.R.Numbers.at c.args.self.now.rest in (
      apart-removed above below (kept c.remove.new.buckets.items c.args.self.now.shift) below c.args.key c.requires.single.0 c.if-remove.ensures.removed
          (below-too above below c.args.key c.args.number c.requires.single.0 c.if-remove.ensures.had),
      c.requires.single.1,
    )

pub returns-clause-had : goal.returns-clause-had
returns-clause-had g c =
    c.remove-2.ensures.had
    ∙ had-below (kept c.args.self.now.buckets.items c.args.self.now.shift) (g.R.Numbers.at c.args.self.now.rest) c.args.key c.args.number c.requires.single.0 c.if-remove.ensures.had

pub returns-clause-removed : goal.returns-clause-removed
returns-clause-removed g c =
    removed-below (kept c.args.self.now.buckets.items c.args.self.now.shift) (g.R.Numbers.at c.args.self.now.rest) (kept c.remove.new.buckets.items c.args.self.now.shift) (g.R.Numbers.at c.remove-2.new.self)
    c.args.key c.args.number c.remove-2.result c.requires.single.0 c.remove-2.ensures.had c.if-remove.ensures.removed c.remove-2.ensures.removed

pub returns-clause-single : goal.returns-clause-single
returns-clause-single g c = (
  less-below (kept c.args.self.now.buckets.items c.args.self.now.shift) (g.R.Numbers.at c.args.self.now.rest) (kept c.remove.new.buckets.items c.args.self.now.shift) (g.R.Numbers.at c.remove-2.new.self)
      c.args.key c.remove-2.result c.requires.single.0 c.if-remove.ensures.removed c.remove-2.ensures.removed,
  c.remove-2.ensures.single,
)
