-- Where the search ends at an id, its file is the only one; where it ends between two, there is none.
use Rattle.std.proofs.Common.{Some, rules, ap, sym, ◌∙◌}
use Rattle.std.proofs.lemmas.List.Sorted.{answers_always}
use Rattle.checkout.proofs.MadeSearch.{searched-found, searched-missing}
use Rattle.checkout.proofs.made.made_at.Goals as goal

pub returns-in-Ok : goal.returns-in-Ok
returns-in-Ok c =
    let file = c.index-files-index.result in
    let equal = c.in-Ok.ensures.position (λ made. made.file.0) (answers_always _ _ _ (λ f a r g called. search rules)) in
    ap (λ x. Some x) c.index-files-index.is ∙ sym (searched-found c.args.file.0 c.args.files.now c.in-Ok.index file c.requires.rising c.in-Ok.ensures.bound (equal file))

pub returns-in-Err : goal.returns-in-Err
returns-in-Err c =
    let parted = c.in-Err.ensures.position (λ made. made.file.0) (answers_always _ _ _ (λ f a r g called. search rules)) in
    sym (searched-missing c.args.file.0 c.args.files.now c.in-Err.field-0 c.requires.rising parted)
