-- The first of what is left and of what was added.
use Rattle.checkout.proofs.FirstFrom.{first-added, first-less, first-not-less, first-old}
use Rattle.checkout.proofs.children.first_from.Goals as goal

pub returns-in_default : goal.returns-in_default
returns-in_default c = record { first = first-added c.args.manifest.now c.args.gone.now c.args.added.now c.args.dir c.args.least.0 c.first_from.result c.in_default.ensures.first c.first_from.ensures }

pub returns-in_default-first_from : goal.returns-in_default-first_from
returns-in_default-first_from c = record { first = first-old c.args.manifest.now c.args.gone.now c.args.added.now c.requires.beside c.args.dir c.args.least.0 c.in-Some.left c.in-Some.ensures.first (λ other a late. absurd (c.in_default-first_from.ensures other a late)) }

pub returns-then-new-left : goal.returns-then-new-left
returns-then-new-left c = record { first = first-less c.args.manifest.now c.args.gone.now c.args.added.now c.args.dir c.args.least.0 c.in-Some-first_from.new c.in-Some.left c.in-Some-first_from.ensures c.in-Some.ensures.first c.if-new-left.true }

pub returns : goal.returns
returns c = record { first = first-not-less c.args.manifest.now c.args.gone.now c.args.added.now c.requires.beside c.args.dir c.args.least.0 c.in-Some-first_from.new c.in-Some.left c.in-Some-first_from.ensures c.in-Some.ensures.first c.if-new-left.false }
