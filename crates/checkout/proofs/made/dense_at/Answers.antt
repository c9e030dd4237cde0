-- The file that stands there is the only one with its id.
use Rattle.std.proofs.Common.{rules, Some, ap, sym, ◌∙◌}
use Rattle.checkout.proofs.MadeSearch.{find_at}
use Rattle.checkout.proofs.made.dense_at.Goals as goal

pub returns-then-made-file : goal.returns-then-made-file
returns-then-made-file c =
    let made = c.index-files-index.result in
    find_at c.args.file.0 c.args.files.now _ made c.requires.rising (search rules) (ap (λ x. x.file.0) (sym c.index-files-index.is) ∙ c.if-made-file.true) ∙ ap (λ x. Some x) (sym c.index-files-index.is)
