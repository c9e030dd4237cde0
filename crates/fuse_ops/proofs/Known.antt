-- What soundness says of numbers that are counted or name a file.
use Rattle.std.proofs.Common.{◌≡◌, ℕ, ◌<◌, ◌≤◌, Option, Some, None, refl, sym, subst, inl, inr, ◌⊎◌, arith}
use Rattle.std.specs.Prelude.{IsSome}
use Rattle.std.specs.Option.{option_map, option_map_or}
use Rattle.eden_base.specs.Limits.{greatest_count}
use Rattle.eden_base.proofs.MemberLemmas.{some-IsSome}
use Rattle.eden_base.specs.declared.number.FileId.{FileId}
use Rattle.eden_base.specs.declared.attr.Kind.TheVariants.{Dir}
use Rattle.manifest.specs.Tree.{IsTree, file_of as tree_file, root}
use Rattle.manifest.specs.declared.content.Content.{Content}
use Rattle.entry_table.proofs.EntryLemmas.{numbers-bound, numbers-entry}
use Rattle.entry_table.proofs.FileLemmas.{IsFileOf-same, named-known}
use Rattle.entry_table.specs.Entries.{entry_of, count_of, is_root}
use Rattle.entry_table.specs.declared.kept.Kept.{Kept}
use Rattle.fuse_ops.specs.Served.{ServedState}
use Rattle.fuse_ops.specs.Soundness.{IsSound, Names}
use Rattle.fuse_ops.proofs.Fits.{sound-fits, named-apart}

-- what names a file is the root or was given
pub named-range : (served : ServedState) → IsSound served → (n : ℕ) (file : FileId) → Names served n file → (1 ≤ n) × (n < served.map.next)
named-range served sound n file at = in_ (named-known served.tree served.map.entries n file at) where
  in_ : (n ≡ 1) ⊎ ((k : Kept) × (entry_of served.map.entries n ≡ Some k)) → (1 ≤ n) × (n < served.map.next)
  in_ (inl one) = let low : 2 ≤ served.map.next = numbers-bound served.map.entries 2 served.map.next sound.numbers in (omega arith, omega arith)
  in_ (inr (k, e)) = let r = numbers-entry served.map.entries 2 served.map.next n k sound.numbers e in (omega (arith, r.0), r.1)

-- what a number names is a file of the tree
pub named-file : (served : ServedState) → IsTree served.tree → IsSound served → (n : ℕ) (file : FileId) → Names served n file → IsSome (tree_file served.tree file)
named-file served is sound n file at = in_ (named-known served.tree served.map.entries n file at) where
  in_ : (n ≡ 1) ⊎ ((k : Kept) × (entry_of served.map.entries n ≡ Some k)) → IsSome (tree_file served.tree file)
  in_ (inl one) =
      let same : file ≡ root = IsFileOf-same served.tree served.map.entries n file root at (is_root n root one refl) in
      subst (λ (f : FileId). IsSome (tree_file served.tree f)) (sym same) (root_in (tree_file served.tree root) is.root_is_dir)
    where
      root_in : (o : Option Content) → option_map (λ (f : Content). f.kind) o ≡ Some Dir → IsSome o
      root_in None h = absurd (let none : ⊥ = cc in none)
      root_in (Some f) h = some-IsSome (Some f) f refl
  in_ (inr (k, e)) =
      let named = sound.names_a_file n (some-IsSome (entry_of served.map.entries n) k e) in
      subst (λ (f : FileId). IsSome (tree_file served.tree f)) (IsFileOf-same served.tree served.map.entries n named.0 file named.1 at) named.2

-- numbers that name one file are one number
pub same-number : (served : ServedState) → IsTree served.tree → IsSound served → (m n : ℕ) (file : FileId) → Names served m file → Names served n file → m ≡ n
same-number served is sound m n file a b = named-apart served.tree served.map.next served.map.entries is (sound-fits served sound) m n file a b

-- no count is above the greatest
pub count-fits : (served : ServedState) → IsSound served → (n : ℕ) → count_of served.map.entries n ≤ greatest_count
count-fits served sound n = in_ (entry_of served.map.entries n) refl where
  in_ : (o : Option Kept) → entry_of served.map.entries n ≡ o → option_map_or (λ (kept : Kept). kept.count) o 0 ≤ greatest_count
  in_ None e = omega arith
  in_ (Some kept) e = sound.counts_fit n kept e
