-- A map as it is seen: the number at each key, whichever tier has it.
use Rattle.std.specs.Prelude.{⊤, ℕ, List, [], ◌∷◌, ◌++◌, Option, None, Some}
use Rattle.std.specs.BTreeMap.{get, keys}
use Rattle.std.specs.FinMap.{FinMap, empty, insert}
use Rattle.std.specs.Option.{option_or}
use Rattle.std.specs.Ordering.{nat_cmp}
use Rattle.key_map.specs.Cells.{kept, AreApart}
use Rattle.key_map.specs.declared.bucket.Bucket.{Bucket}
use Rattle.key_map.specs.declared.key_map.KeyMap.TheInside.{Inside}

-- numbers by keys, as a finite map
abbrev pub Numbers : Type 0
Numbers = FinMap nat_cmp ℕ

-- the numbers with this one at a key, if there is one
abbrev pub with_some : Numbers → ℕ → Option ℕ → Numbers
with_some numbers key (Some number) = insert numbers key number
with_some numbers key None = numbers

-- the numbers that `at` gives for keys of a list
abbrev pub collected : (ℕ → Option ℕ) → List ℕ → Numbers
collected at [] = empty
collected at (key ∷ keys) = with_some (collected at keys) key (at key)

-- the keys of cells, also of empty ones
abbrev pub keys_of : List Bucket → List ℕ
keys_of [] = []
keys_of (bucket ∷ buckets) =
    bucket.first.key ∷ bucket.second.key ∷ bucket.third.key ∷ bucket.fourth.key ∷ keys_of buckets

-- the number at a key, in the first tier that has one, else in the tree below the tiers
unfoldable pub in_tiers : Inside → ℕ → Option ℕ
in_tiers map key =
    option_or (kept map.tiers.buckets.items map.tiers.shift key)
    (option_or (kept map.tiers.rest.buckets.items map.tiers.rest.shift key)
    (option_or (kept map.tiers.rest.rest.buckets.items map.tiers.rest.rest.shift key)
    (get nat_cmp map.tiers.rest.rest.rest.numbers key)))

-- each key that a tier or the tree has a number for, and maybe others
abbrev pub all_keys : Inside → List ℕ
all_keys map =
    keys_of map.tiers.buckets.items
    ++ (keys_of map.tiers.rest.buckets.items
    ++ (keys_of map.tiers.rest.rest.buckets.items ++ keys map.tiers.rest.rest.rest.numbers))

-- the number at each key
unfoldable pub numbers_of : Inside → Numbers
numbers_of map = collected (in_tiers map) (all_keys map)

-- no key has a number in two tiers, or in a tier and in the tree
abbrev pub IsSingle : Inside → Type 0
IsSingle map =
    AreApart (kept map.tiers.buckets.items map.tiers.shift) (λ key.
    option_or (kept map.tiers.rest.buckets.items map.tiers.rest.shift key)
    (option_or (kept map.tiers.rest.rest.buckets.items map.tiers.rest.rest.shift key)
    (get nat_cmp map.tiers.rest.rest.rest.numbers key)))
    × (AreApart (kept map.tiers.rest.buckets.items map.tiers.rest.shift) (λ key.
    option_or (kept map.tiers.rest.rest.buckets.items map.tiers.rest.rest.shift key)
    (get nat_cmp map.tiers.rest.rest.rest.numbers key))
    × (AreApart (kept map.tiers.rest.rest.buckets.items map.tiers.rest.rest.shift) (get nat_cmp map.tiers.rest.rest.rest.numbers)
    × ⊤))
