use Rattle.std.proofs.Common.{◌≡◌, List, Some, slice_get, refl, sym, subst, ◌∙◌}
use Rattle.fuse_wire.specs.declared.item.Item.{Item}
use Rattle.broker_desk.specs.Desk.{DeskState}
use Rattle.mount_wire.specs.declared.message.KernelMessage.TheVariants.{ForgotMany}
use Rattle.broker_desk.specs.Progress.{HearsItems}
use Rattle.broker_desk.specs.declared.progress.Progress.{Progress}
use Rattle.broker_desk.specs.declared.progress.Progress.TheVariants.{Done, Leaves, NotMounted}
use Rattle.broker_desk.proofs.ItemSteps.{heard_first, heard_so, none_left, over_so, put_off_first, put_off_so}
use Rattle.broker_desk.proofs.progress.hear_items.Goals as goal

pub loop-item-preserved : goal.loop-item-preserved
loop-item-preserved c =
    let items = c.loop-item.items in
    let item = c.in-Some.item in
    let first : slice_get items 0 ≡ Some item = sym c.first.ensures.first ∙ c.in-Some.is in
    let heard = heard_so c.loop-item.desk c.hear_item.new.desk item c.in-Done.ensures.hears in
    λ (progress : Progress). λ (new : DeskState). λ rest.
    c.loop-item.invariant progress new (heard_first items item c.loop-item.desk c.hear_item.new.desk new progress first heard
    (subst (λ (more : List Item). HearsItems more c.hear_item.new.desk progress new) c.skip_first.ensures.left rest))

pub returns-in-Leaves-clause-hears : goal.returns-in-Leaves-clause-hears
returns-in-Leaves-clause-hears c =
    let items = c.loop-item.items in
    let item = c.in-Some.item in
    let first : slice_get items 0 ≡ Some item = sym c.first.ensures.first ∙ c.in-Some.is in
    let off = put_off_so c.loop-item.desk c.hear_item.new.desk item _ (ForgotMany items) c.in-Leaves.ensures.hears in
    c.loop-item.invariant (Leaves (ForgotMany items)) c.hear_item.new.desk (put_off_first items item c.loop-item.desk c.hear_item.new.desk (Leaves (ForgotMany items)) first off.0 off.1)

pub returns-in-NotMounted-clause-hears : goal.returns-in-NotMounted-clause-hears
returns-in-NotMounted-clause-hears c =
    let items = c.loop-item.items in
    let item = c.in-Some.item in
    let first : slice_get items 0 ≡ Some item = sym c.first.ensures.first ∙ c.in-Some.is in
    let off = over_so c.loop-item.desk c.hear_item.new.desk item (ForgotMany items) c.in-NotMounted.ensures.hears in
    c.loop-item.invariant NotMounted c.hear_item.new.desk (put_off_first items item c.loop-item.desk c.hear_item.new.desk NotMounted first off.0 off.1)

pub returns-clause-hears : goal.returns-clause-hears
returns-clause-hears c =
    let none = none_left c.loop-item.items (sym c.first.ensures.first ∙ c.in_default.is) in
    c.loop-item.invariant Done c.loop-item.desk (subst (λ (items : List Item). HearsItems items c.loop-item.desk Done c.loop-item.desk) (sym none) (refl, refl))
