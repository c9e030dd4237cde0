-- Two items are the same if they have the same nodeid and the same nlookup (linux/fuse.h: fuse_forget_one).
use Rattle.std.specs.Prelude.{Bool, List, nat_eq}
use Rattle.std.specs.Cmp.{IsEquivalence}
use Rattle.std.specs.Cmp.Lexicographic.{pointwise, lists_equiv}
use Rattle.std.specs.Cmp.Rules.{comparing}
use Rattle.std.specs.Ordering.{on, eq_of_both}
use Rattle.fuse_wire.specs.declared.item.Item.{Item}

-- two items have the same nodeid and the same nlookup
abbrev pub same_item : Item → Item → Bool
same_item = eq_of_both (on (λ i. i.node.0) nat_eq) (on (λ i. i.k) nat_eq)

-- two lists have the same items in the same order
abbrev pub same_items : List Item → List Item → Bool
same_items = pointwise same_item

pub same_item_equiv : IsEquivalence same_item
same_item_equiv = search comparing

pub same_items_equiv : IsEquivalence same_items
same_items_equiv = lists_equiv same_item_equiv
