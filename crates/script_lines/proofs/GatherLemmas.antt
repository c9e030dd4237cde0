-- Sums over the members of queues.
use Rattle.std.proofs.Common.{◌≡◌, ℕ, ◌+◌, ◌<◌, ◌≤◌, ◌++◌, List, length, take, drop, replicate, sym, get_or, sum_by, slice_index_or, ap, ◌∙◌, arith, take-add, length-take, length-drop}
use Rattle.std.proofs.lemmas.List.Sums.{sum_by-append}
use Rattle.std.proofs.lemmas.Grind.{common_steps}
use Rattle.std.proofs.lemmas.List.{get_or-replicate}

-- the sum over one member more of a list
pub sum_next : {X : Type 0} (f : X → ℕ) (xs : List X) (i : ℕ) (d : X) → i < length xs → sum_by f (take (i + 1) xs) ≡ sum_by f (take i xs) + f (slice_index_or xs i d)
sum_next f xs i d lt = grind (arith, common_steps)

-- before any member is added, each sum is 0
pub no_sum : (i : ℕ) → i < 256 → get_or {A = ℕ} (replicate 256 0) i 0 ≡ 0
no_sum i lt = get_or-replicate {A = ℕ} 256 i 0 0 lt

-- a number's sum with what one member more counts
pub sum_more : {T : Type 0} (count : ℕ → T → ℕ) (members : List T) (was low i index old before after : ℕ) (member : T) → member ≡ slice_index_or members index member → after ≡ before + count (was + i) member → was ≡ low → before ≡ old + sum_by (count (low + i)) (take index members) → index < length members → after ≡ old + sum_by (count (low + i)) (take (index + 1) members)
sum_more count members was low i index old before after member is added same so_far within =
    let more : after ≡ before + count (low + i) member = added ∙ ap (λ (n : ℕ). before + count (n + i) member) same in
    let one : count (low + i) member ≡ count (low + i) (slice_index_or members index member) = ap (count (low + i)) is in
    let next = sum_next (count (low + i)) members index member within in
    omega arith

-- members that stand side by side end within the list
pub ends_within : {X : Type 0} (members run : List X) (at : ℕ) → at ≤ length members → run ≡ take (length run) (drop at members) → at + length run ≤ length members
ends_within members run at within is =
    omega (arith, within, ap length is, length-take (length run) (drop at members), length-drop at members)

-- a number's sum with what the members count that stand side by side from an index on
pub sum_of_run : {T : Type 0} (count : ℕ → T → ℕ) (members run : List T) (was low i at old before after : ℕ) → run ≡ take (length run) (drop at members) → after ≡ before + sum_by (count (was + i)) run → was ≡ low → before ≡ old + sum_by (count (low + i)) (take at members) → after ≡ old + sum_by (count (low + i)) (take (at + length run) members)
sum_of_run count members run was low i at old before after is added same so_far =
    let more : after ≡ before + sum_by (count (low + i)) run = added ∙ ap (λ (n : ℕ). before + sum_by (count (n + i)) run) same in
    let front = take at members in
    let joined : take (at + length run) members ≡ front ++ run = take-add at (length run) members ∙ ap (λ xs. front ++ xs) (sym is) in
    let sum = ap (sum_by (count (low + i))) joined ∙ sum_by-append (count (low + i)) front run in
    omega (arith, more, so_far, sum)
