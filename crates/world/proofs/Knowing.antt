-- What a daemon knows of a world: live numbers name files, and what is known after a number was given, or of a new
-- mount.
use Rattle.std.proofs.Common.{◌≡◌, ℕ, ◌+◌, ◌<◌, ◌≤◌, Bool, true, false, List, [], ◌∷◌, Option, Some, None, is_some, refl, sym, ap, ◌∙◌, subst, inl, inr, ◌⊎◌, arith}
use Rattle.std.specs.Prelude.{◌==◌, ◌↔◌, IsSome, if◌then◌else◌}
use Rattle.std.specs.Option.{option_map_or}
use Rattle.eden_base.specs.declared.number.FileId.{FileId}
use Rattle.eden_base.proofs.MemberLemmas.{some-IsSome}
use Rattle.eden_base.proofs.NumberTests.{eq-true, eq-false, true-eq, false-ne, eq-or}
use Rattle.manifest.specs.Manifest.{Manifest}
use Rattle.manifest.specs.Tree.{Tree, IsTree, tree_of, root}
use Rattle.entry_table.specs.Entries.{IsFileOf, is_root, entry_of, count_of}
use Rattle.inode_map.specs.InodeMap.{MapState}
use Rattle.entry_table.specs.declared.kept.Kept.{Kept}
use Rattle.entry_table.proofs.FileLemmas.{IsFileOf-same, named-known}
use Rattle.fuse_ops.specs.Gifts.{served_over, Gave}
use Rattle.fuse_ops.specs.Changes.{KeepsNames}
use Rattle.fuse_ops.specs.Served.{ServedState, PlainState, plain, new_served}
use Rattle.fuse_ops.proofs.GivingLaw.{new-sound}
use Rattle.fuse_ops.proofs.Making.{sound-plainly}
use Rattle.world.specs.World.{World, file_named, owed, IsLive, IsNumberOf}
use Rattle.world.specs.Agreement.{Knows}

-- a daemon knows the same if each number is owed as often
pub knows-along : (tree : Tree) (names : List (ℕ × FileId)) (owes other : ℕ → ℕ) (served : ServedState) → ((n : ℕ) → owes n ≡ other n) → Knows tree names owes served → Knows tree names other served
knows-along tree names owes other served same k = record { tree_is = k.tree_is; counts = λ n d. k.counts n d ∙ same n; files = k.files; sound = k.sound; numbers = k.numbers }

-- what a daemon knows does not depend on what is loaded, remembered or reserved
pub knows-plain : (tree : Tree) (names : List (ℕ × FileId)) (owes : ℕ → ℕ) (a b : ServedState) → plain a ≡ plain b → Knows tree names owes b → Knows tree names owes a
knows-plain tree names owes a b e k = record {
  tree_is = ap (λ (p : PlainState). p.tree) e ∙ k.tree_is;
  counts = λ n d. ap (λ (p : PlainState). count_of p.entries n) e ∙ k.counts n d;
  files = λ n file at. k.files n file (subst (λ (p : PlainState). IsFileOf p.tree p.entries n file) e at);
  sound = sound-plainly b a e k.sound;
  numbers = λ n. subst (λ (p : PlainState). IsSome (file_named names n) ↔ ((1 ≤ n) × (n < p.next))) (sym e) (k.numbers n);
}

-- what numbers name, and how often each is owed, is still known after a file got or lost its name
pub kept-knows : (tree : Tree) (names : List (ℕ × FileId)) (owes : ℕ → ℕ) (old new : ServedState) → KeepsNames old new → Knows tree names owes old → Knows new.tree names owes new
kept-knows tree names owes old new keeps k = record {
  tree_is = refl;
  counts = λ n d. keeps.counts n ∙ k.counts n d;
  files = λ n file at. k.files n file (keeps.names n file at);
  sound = keeps.sound;
  numbers = λ n. subst (λ (next : ℕ). IsSome (file_named names n) ↔ ((1 ≤ n) × (n < next))) (sym keeps.next) (k.numbers n);
}

-- a number that is counted has an entry
counted_entry : (es : List Kept) (n : ℕ) → 0 < count_of es n → IsSome (entry_of es n)
counted_entry es n some = in_ (entry_of es n) refl some where
  in_ : (o : Option Kept) → entry_of es n ≡ o → 0 < option_map_or (λ (k : Kept). k.count) o 0 → IsSome (entry_of es n)
  in_ None e h = absurd (omega arith)
  in_ (Some k) e h = some-IsSome (entry_of es n) k e

-- a live number names a file for the daemon
pub live-named : (w : World) (tree : Tree) (m : MapState) → Knows tree w.names (owed w) (served_over tree m) → (n : ℕ) → IsLive w n → (file : FileId) × IsFileOf tree m.entries n file
live-named w tree m k n (inl one) = (root, is_root n root one refl)
live-named w tree m k n (inr some) = in_ (eq-or n 1) where
  in_ : (n ≡ 1) ⊎ (n ≡ 1 → ⊥) → (file : FileId) × IsFileOf tree m.entries n file
  in_ (inl one) = (root, is_root n root one refl)
  in_ (inr other) = let c : count_of m.entries n ≡ owed w n = k.counts n other in
      let f = (k.sound).names_a_file n (counted_entry m.entries n (omega arith)) in (f.0, f.1)

-- a live number of the file names this file for the daemon
pub number-names : (w : World) (tree : Tree) (m : MapState) → Knows tree w.names (owed w) (served_over tree m) → (n : ℕ) (file : FileId) → IsNumberOf w file n → IsFileOf tree m.entries n file
number-names w tree m k n file is =
    let f = live-named w tree m k n is.live in
    let same : f.0 ≡ file = (let s : Some f.0 ≡ Some file = sym (k.files n f.0 f.1) ∙ is.named in cc) in
    subst (λ (x : FileId). IsFileOf tree m.entries n x) same f.1

-- the names after a number was given out for the file
abbrev pub named : List (ℕ × FileId) → ℕ → FileId → List (ℕ × FileId)
named names n file = if is_some (file_named names n) then names else (n, file) ∷ names

-- after a number was given out for a file, the number names that file, and each other number what it named
record IsNamed (names : List (ℕ × FileId)) (n : ℕ) (file : FileId) : Type 0 where
  here : file_named (named names n file) n ≡ Some file
  others : (m : ℕ) → (m ≡ n → ⊥) → file_named (named names n file) m ≡ file_named names m

is-named : (names : List (ℕ × FileId)) (n : ℕ) (file : FileId) → (file_named names n ≡ None) ⊎ (file_named names n ≡ Some file) → IsNamed names n file
is-named names n file (inr e) = record { here = rw e e; others = λ m d. rw e refl }
is-named names n file (inl e) = record {
  here = rw e (let t : (n == n) ≡ true = eq-true n n refl in rw t refl);
  others = λ m d. rw e (let t : (n == m) ≡ false = eq-false n m (λ s. d (sym s)) in rw t refl);
}

-- what the daemon knows after it gave a number out
pub gave-knows : (w : World) (tree : Tree) (m new : MapState) (n : ℕ) (file : FileId) → Knows tree w.names (owed w) (served_over tree m) → Gave tree m new n file →
    Knows tree (named w.names n file) (λ j. owed w j + (if n == j then 1 else 0)) (served_over tree new)
gave-knows w tree m new n file k g = record {
  tree_is = refl;
  counts = λ j d. count_in j d (n == j) refl;
  files = λ j other at. file_in j other at (eq-or j n);
  sound = g.sound;
  numbers = λ j. number_in j (eq-or j n) g.old_or_next;
} where
  old_named : (file_named w.names n ≡ None) ⊎ (file_named w.names n ≡ Some file)
  old_named = old_in g.old_or_next where
    old_in : (IsFileOf tree m.entries n file × (new.next ≡ m.next)) ⊎ ((n ≡ m.next) × (new.next ≡ m.next + 1)) → (file_named w.names n ≡ None) ⊎ (file_named w.names n ≡ Some file)
    old_in (inl (at, e)) = inr (k.files n file at)
    old_in (inr (is, e)) = inl (none_in (file_named w.names n) refl) where
      none_in : (o : Option FileId) → file_named w.names n ≡ o → o ≡ None
      none_in None e' = refl
      none_in (Some x) e' = absurd (let r = (k.numbers n).0 (ap is_some e') in omega (arith, r.1))

  is : IsNamed w.names n file
  is = is-named w.names n file old_named

  count_in : (j : ℕ) → (j ≡ 1 → ⊥) → (b : Bool) → (n == j) ≡ b → count_of new.entries j ≡ owed w j + (if b then 1 else 0)
  count_in j d true e = let same : n ≡ j = true-eq n j e in
      let one : count_of new.entries n ≡ owed w n + 1 = g.raised ∙ ap (λ i. i + 1) (k.counts n (λ s. d (sym same ∙ s))) in
      subst (λ (i : ℕ). count_of new.entries i ≡ owed w i + 1) same one
  count_in j d false e = let c : count_of new.entries j ≡ owed w j = g.others_count j (λ s. false-ne n j e (sym s)) ∙ k.counts j d in omega arith

  file_in : (j : ℕ) (other : FileId) → IsFileOf tree new.entries j other → (j ≡ n) ⊎ (j ≡ n → ⊥) → file_named (named w.names n file) j ≡ Some other
  file_in j other at (inl same) =
      let there : IsFileOf tree new.entries n other = subst (λ (i : ℕ). IsFileOf tree new.entries i other) same at in
      subst (λ (i : ℕ). file_named (named w.names n file) i ≡ Some other) (sym same) (is.here ∙ ap Some (IsFileOf-same tree new.entries n file other g.names there))
  file_in j other at (inr d) = is.others j d ∙ k.files j other ((g.others_name j other d).0 at)

  next_in : (IsFileOf tree m.entries n file × (new.next ≡ m.next)) ⊎ ((n ≡ m.next) × (new.next ≡ m.next + 1)) → (new.next ≡ m.next) ⊎ ((n ≡ m.next) × (new.next ≡ m.next + 1))
  next_in (inl (at, e)) = inl e
  next_in (inr r) = inr r

  number_in : (j : ℕ) → (j ≡ n) ⊎ (j ≡ n → ⊥) → (IsFileOf tree m.entries n file × (new.next ≡ m.next)) ⊎ ((n ≡ m.next) × (new.next ≡ m.next + 1)) →
      IsSome (file_named (named w.names n file) j) ↔ ((1 ≤ j) × (j < new.next))
  number_in j (inl same) next =
      let low : 2 ≤ n = g.low in let high : n < new.next = g.high in
      (λ s. (omega arith, omega arith), λ r. subst (λ (i : ℕ). IsSome (file_named (named w.names n file) i)) (sym same) (some-IsSome (file_named (named w.names n file) n) file is.here))
  number_in j (inr d) next =
      let e = is.others j d in (
        λ s. let r = (k.numbers j).0 (subst (λ (o : Option FileId). IsSome o) e s) in (r.0, below_in (next_in next) r.1),
        λ r. subst (λ (o : Option FileId). IsSome o) (sym e) ((k.numbers j).1 (r.0, above_in (next_in next) r.1)),
      ) where
        below_in : (new.next ≡ m.next) ⊎ ((n ≡ m.next) × (new.next ≡ m.next + 1)) → j < m.next → j < new.next
        below_in (inl e') l = omega arith
        below_in (inr (is', e')) l = omega arith

        above_in : (new.next ≡ m.next) ⊎ ((n ≡ m.next) × (new.next ≡ m.next + 1)) → j < new.next → j < m.next
        above_in (inl e') l = omega arith
        above_in (inr (is', e')) l = omega (arith, d)

-- a new daemon knows the root alone
pub new-knows : (manifest : Manifest) (limit : ℕ) (owes : ℕ → ℕ) → IsTree (tree_of manifest) → ((n : ℕ) → owes n ≡ 0) → Knows (tree_of manifest) ((1, root) ∷ []) owes (new_served manifest limit)
new-knows manifest limit owes is nothing = record {
  tree_is = refl;
  counts = λ n d. sym (nothing n);
  files = λ n file at. root_in n file at (named-known (tree_of manifest) [] n file at);
  sound = new-sound (tree_of manifest) (Rattle.std.specs.Prelude.max limit 1) is;
  numbers = λ n. number_in n (1 == n) refl;
} where
  root_in : (n : ℕ) (file : FileId) → IsFileOf (tree_of manifest) [] n file → (n ≡ 1) ⊎ ((kept : Kept) × (None ≡ Some kept)) → file_named ((1, root) ∷ []) n ≡ Some file
  root_in n file at (inr (kept, e)) = absurd (let none : ⊥ = cc in none)
  root_in n file at (inl one) = let t : (1 == n) ≡ true = eq-true 1 n (sym one) in rw t (ap Some (IsFileOf-same (tree_of manifest) [] n root file (is_root n root one refl) at))

  number_in : (n : ℕ) (b : Bool) → (1 == n) ≡ b → IsSome (file_named ((1, root) ∷ []) n) ↔ ((1 ≤ n) × (n < 2))
  number_in n true e = let same : 1 ≡ n = true-eq 1 n e in (λ s. (omega arith, omega arith), λ r. rw e refl)
  number_in n false e = let d : 1 ≡ n → ⊥ = false-ne 1 n e in
      (λ s. absurd (let none' : IsSome {T = FileId} None = rw e at s in let x : ⊥ = cc in x), λ r. absurd (d (omega (arith, r.0, r.1))))
