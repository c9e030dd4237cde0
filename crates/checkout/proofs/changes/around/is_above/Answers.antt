-- The colour of the target tells.
use Rattle.std.proofs.Common.{◌≡◌, false, sym, rules, ◌∙◌}
use Rattle.checkout.specs.Around.{links_now}
use Rattle.checkout.proofs.AboveItself.{colour_tells, none_above_leaf}
use Rattle.checkout.proofs.changes.around.is_above.Goals as goal

pub returns-clause-above : goal.returns-clause-above
returns-clause-above c =
    let links = links_now c.args.manifest.now c.args.added.now c.args.gone.now in
    let colour = sym c.get.ensures.colour ∙ c.unwrap.ensures in
    colour_tells links c.args.change.now c.in-Some.file c.requires.target c.in-Some.is c.requires.apart c.climb.new.colours c.in_ok-climb.ensures.right c.unwrap.result colour

pub returns-then-not-has_links-clause-above : goal.returns-then-not-has_links-clause-above
returns-then-not-has_links-clause-above c =
    let links = links_now c.args.manifest.now c.args.added.now c.args.gone.now in
    let none : c.has_links.result ≡ false = search rules in (
      λ yes. absurd (cc),
      λ above. absurd (none_above_leaf links c.args.change.now c.in-Some.file c.requires.target c.in-Some.is
          (λ name. c.requires.counted c.in-Some.file name (sym c.has_links.ensures ∙ none)) above),
    )
