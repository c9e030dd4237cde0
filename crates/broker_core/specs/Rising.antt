-- The asks without a reply, in the order of their uniques.
use Rattle.std.specs.Prelude.{ℕ, List}
use Rattle.std.specs.List.Sorted.{IsStrictlySortedBy}
use Rattle.std.specs.Ordering.{nat_cmp}
use Rattle.std.specs.Map.{keys_of}
use Rattle.fuse_wire.specs.declared.form.Form.{Form}

-- each unique in the list is above those before it
abbrev pub IsRising : List (ℕ × Form) → Type 0
IsRising asks = IsStrictlySortedBy nat_cmp (keys_of asks)
