-- The file is one more at the end, and a later one.
use Rattle.std.proofs.Common.{◌∙◌, ap, subst, sym}
use Rattle.std.specs.FinMap.{empty}
use Rattle.std.specs.List.Sorted.{IsStrictlySortedBy}
use Rattle.std.specs.Ordering.{nat_cmp}
use Rattle.checkout.specs.declared.changes.Made.{Made}
use Rattle.checkout.specs.Changes.{file_ids}
use Rattle.checkout.specs.Laying.{with_made}
use Rattle.checkout.proofs.MadeLemmas.{made-rise, with_made-end}
use Rattle.checkout.proofs.made.MadeFiles.add.Goals as goal

pub invariant_of-self-2 : goal.invariant_of-self-2
invariant_of-self-2 c =
    let made : Made = record { file = c.args.file; kind = c.args.made.kind; perm = c.args.made.perm } in
    subst (λ xs. IsStrictlySortedBy nat_cmp (file_ids xs)) (sym c.in_ok-push.ensures.items)
    (made-rise c.self.inside.files.items made c.self.invariant (rw c.self.view_is c.requires.later))

pub returns-clause-ok : goal.returns-clause-ok
returns-clause-ok c =
    let made : Made = record { file = c.args.file; kind = c.args.made.kind; perm = c.args.made.perm } in
    rw (← c.self.view_is) (ap (with_made empty) c.in_ok-push.ensures.items ∙ with_made-end empty c.self.inside.files.items made)
