-- A forget of no more than is owed is applied, and the daemon counts what is owed after it.
use Rattle.std.proofs.Common.{◌≡◌, ℕ, ◌-◌, ◌<◌, ◌≤◌, Bool, true, false, List, refl, sym, ap, ◌∙◌, subst, arith}
use Rattle.std.specs.Prelude.{◌==◌, ◌↔◌, IsSome, nat_lt, if◌then◌else◌}
use Rattle.std.proofs.lemmas.Bool.Decides.{nat_tests}
use Rattle.eden_base.specs.declared.number.FileId.{FileId}
use Rattle.eden_base.proofs.NumberTests.{eq-false, true-eq, false-ne}
use Rattle.manifest.specs.Tree.{Tree, IsTree}
use Rattle.entry_table.specs.Entries.{count_of, is_bad_item}
use Rattle.inode_map.specs.InodeMap.{MapState, forgot, forgotten}
use Rattle.fuse_ops.specs.Gifts.{served_over, Forgets, IsTaken}
use Rattle.world.specs.World.{file_named}
use Rattle.world.specs.Agreement.{Knows}
use Rattle.fuse_ops.proofs.ForgettingLaw.{forgets-well as forgetting}

-- what is owed after `k` lookups of a number were taken back
abbrev pub less_owed : (ℕ → ℕ) → ℕ → ℕ → ℕ → ℕ
less_owed owes n k j = if n == j then owes j - k else owes j

-- what became of a forget, and what the daemon knows after it
pub record Forgotten (tree : Tree) (names : List (ℕ × FileId)) (owes : ℕ → ℕ) (m : MapState) (n k : ℕ) : Type 0 where
  pub taken : IsTaken (forgot m n k)
  pub knows : Knows tree names (less_owed owes n k) (served_over tree (forgotten m n k))

pub forgets-well : (tree : Tree) (names : List (ℕ × FileId)) (owes : ℕ → ℕ) (m : MapState) (n k : ℕ) → IsTree tree → Knows tree names owes (served_over tree m) →
    (n ≡ 1 → ⊥) → 1 ≤ k → k ≤ owes n → Forgotten tree names owes m n k
forgets-well tree names owes m n k is knows other some few = record {
  taken = law.0;
  knows = record {
    tree_is = refl;
    counts = λ j d. count_in j d (n == j) refl;
    files = λ j file at. knows.files j file (left.left_name j file at);
    sound = left.sound;
    numbers = λ j. subst (λ (next : ℕ). IsSome (file_named names j) ↔ ((1 ≤ j) × (j < next))) (sym left.next) (knows.numbers j);
  };
} where
  not_bad : is_bad_item m.entries n k ≡ false
  not_bad =
      let z : (k == 0) ≡ false = eq-false k 0 (λ e. omega arith) in
      let c : count_of m.entries n ≡ owes n = knows.counts n other in
      let l : nat_lt (count_of m.entries n) k ≡ false = grind (arith, nat_tests) in
      rw (z, l) refl

  law : IsTaken (forgot m n k) × Forgets tree m (forgotten m n k) n k
  law = forgetting (served_over tree m) n k is knows.sound other not_bad

  left : Forgets tree m (forgotten m n k) n k
  left = law.1

  count_in : (j : ℕ) → (j ≡ 1 → ⊥) → (b : Bool) → (n == j) ≡ b → count_of (forgotten m n k).entries j ≡ (if b then owes j - k else owes j)
  count_in j d true e =
      let same : n ≡ j = true-eq n j e in
      let one : count_of (forgotten m n k).entries n ≡ owes n - k = left.lowered ∙ ap (λ i. i - k) (knows.counts n other) in
      subst (λ (i : ℕ). count_of (forgotten m n k).entries i ≡ owes i - k) same one
  count_in j d false e = left.others_count j (λ s. false-ne n j e (sym s)) ∙ knows.counts j d
