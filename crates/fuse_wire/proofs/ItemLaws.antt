-- The item of a FORGET is all that it takes back, and an ask has no items.
use Rattle.std.proofs.Common.{◌≡◌, true, [], ◌∷◌, Some, refl, ap}
use Rattle.fuse_wire.specs.Request.{is_ask, item_of, items_of}
use Rattle.fuse_wire.specs.declared.request.Request.{Request}
use Rattle.fuse_wire.specs.declared.request.Request.TheVariants.{Forget, BatchForget}
use Rattle.fuse_wire.specs.declared.item.Item.{Item}

-- the item of a FORGET
pub items-one : (request : Request) (item : Item) → item_of request ≡ Some item → items_of request ≡ item ∷ []
items-one (Forget other) item e = let same : other ≡ item = cc in ap (λ (i : Item). i ∷ []) same
items-one request item e = absurd (let none : ⊥ = cc in none)

-- an ask has none
pub ask-items : (request : Request) → is_ask request ≡ true → items_of request ≡ []
ask-items (Forget item) e = absurd (let none : ⊥ = cc in none)
ask-items (BatchForget items) e = absurd (let none : ⊥ = cc in none)
ask-items request e = refl
