-- The number at each key, after one came to a key or went from it.
use Rattle.std.proofs.Common.{◌≡◌, ℕ, ◌==◌, Bool, None, Some, if◌then◌else◌, ap, sym, ◌∙◌}
use Rattle.std.specs.Cmp.{nat_cmp_total, unsigned_ties}
use Rattle.std.specs.FinMap.{empty, get-empty, get-insert, get-remove, insert, remove}
use Rattle.std.specs.Ordering.{nat_cmp}
use Rattle.directory_index.specs.Names.{at_key, Keys}

pub at_key-empty : (key : ℕ) → at_key empty key ≡ None
at_key-empty key = get-empty nat_cmp key

pub at_key-insert : (keys : Keys) (key number k : ℕ) → at_key (insert keys key number) k ≡ (if k == key then Some number else at_key keys k)
at_key-insert keys key number k = get-insert nat_cmp_total keys key number k ∙ ap (λ (b : Bool). if b then Some number else at_key keys k) (sym (unsigned_ties k key))

pub at_key-remove : (keys : Keys) (key k : ℕ) → at_key (remove keys key) k ≡ (if k == key then None else at_key keys k)
at_key-remove keys key k = get-remove nat_cmp_total keys key k ∙ ap (λ (b : Bool). if b then None else at_key keys k) (sym (unsigned_ties k key))
