-- Items that are heard, one after the other.
use Rattle.std.proofs.Common.{◌≡◌, List, [], ◌∷◌, drop, slice_get, Some, None, inl, inr, refl, subst}
use Rattle.fuse_wire.specs.declared.item.Item.{Item}
use Rattle.broker_desk.specs.Desk.{DeskState}
use Rattle.mount_wire.specs.declared.message.KernelMessage.{KernelMessage}
use Rattle.mount_wire.specs.declared.message.KernelMessage.TheVariants.{ForgotMany}
use Rattle.broker_desk.specs.Progress.{HearsItem, HearsItems, IsHeard, IsPutOff}
use Rattle.broker_desk.specs.declared.progress.Progress.{Progress}
use Rattle.broker_desk.specs.declared.progress.Progress.TheVariants.{Done, Leaves, NotMounted}

-- the first item was heard, and then the others
pub heard_first : (items : List Item) (item : Item) (old mid new : DeskState) (progress : Progress) → slice_get items 0 ≡ Some item → IsHeard old item mid → HearsItems (drop 1 items) mid progress new → HearsItems items old progress new
heard_first [] item old mid new progress first heard rest = absurd cc
heard_first (other ∷ items) item old mid new progress first heard rest =
    let same : item ≡ other = cc in
    inl (mid, subst (λ (it : Item). IsHeard old it mid) same heard, rest)

-- the first item was put off
pub put_off_first : (items : List Item) (item : Item) (old new : DeskState) (progress : Progress) → slice_get items 0 ≡ Some item → IsPutOff old item (ForgotMany items) progress → new ≡ old → HearsItems items old progress new
put_off_first [] item old new progress first off unchanged = absurd cc
put_off_first (other ∷ items) item old new progress first off unchanged =
    let same : item ≡ other = cc in
    inr (subst (λ (it : Item). IsPutOff old it (ForgotMany (other ∷ items)) progress) same off, unchanged)

pub none_left : (items : List Item) → slice_get items 0 ≡ None → items ≡ []
none_left [] none = refl
none_left (item ∷ items) none = absurd cc

-- an item that is done was heard
pub heard_so : (old new : DeskState) (item : Item) → HearsItem old item Done new → IsHeard old item new
heard_so old new item hears = elim hears [ inl heard ↦ heard.1 | inr off ↦ absurd off.0 ]

-- an item that is left was put off, and all that begins with it is left too
pub put_off_so : (old new : DeskState) (item : Item) (message left : KernelMessage) → HearsItem old item (Leaves message) new → IsPutOff old item left (Leaves left) × (new ≡ old)
put_off_so old new item message left hears = elim hears [ inl heard ↦ absurd cc | inr off ↦ ((refl, off.0.1), off.1) ]

-- an item of a mount that is over was put off
pub over_so : (old new : DeskState) (item : Item) (left : KernelMessage) → HearsItem old item NotMounted new → IsPutOff old item left NotMounted × (new ≡ old)
over_so old new item left hears = elim hears [ inl heard ↦ absurd cc | inr off ↦ off ]
