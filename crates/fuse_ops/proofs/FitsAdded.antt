-- What a daemon knows fits together after a place got the next number.
use Rattle.std.proofs.Common.{◌≡◌, ℕ, ◌+◌, ◌<◌, ◌≤◌, true, false, List, [], ◌∷◌, ◌++◌, Some, None, refl, sym, ap, ◌∙◌, subst, inl, inr, ◌⊎◌, arith}
use Rattle.std.specs.Prelude.{◌↔◌, IsSome}
use Rattle.eden_base.proofs.MemberLemmas.{some-IsSome, some-is, some-none, first-none}
use Rattle.eden_base.specs.Limits.{greatest_count, end_of_numbers}
use Rattle.eden_base.specs.declared.number.FileId.{FileId}
use Rattle.eden_base.specs.declared.number.Number.{Number}
use Rattle.eden_base.specs.declared.place.Place.TheVariants.{Linked}
use Rattle.checkout.proofs.LinkLaws.{linked_from_child}
use Rattle.manifest.specs.Tree.{Tree, IsTree, child_of, root, file_of as tree_file}
use Rattle.checkout.specs.ChangedTree.{is_unlinked}
use Rattle.entry_table.proofs.Changing.{new_or_old, append-extends}
use Rattle.entry_table.proofs.EntryLemmas.{append-same, numbers-append, numbers-bound, next-none}
use Rattle.entry_table.proofs.FileLemmas.{IsFileOf-extended, IsFileOf-same, named-known}
use Rattle.entry_table.proofs.Places.{place-stands}
use Rattle.entry_table.specs.Entries.{has_number, stands_at, entry_of, entry_at, new_entry, IsFileOf, is_root, is_child}
use Rattle.entry_table.specs.declared.kept.Kept.{Kept}
use Rattle.fuse_ops.specs.Soundness.{IsUnlinkedPlace}
use Rattle.fuse_ops.proofs.Fits.{Fits, linked_is_not_unlinked, no-place-no_file}

-- a place that the next number may get
pub record IsNewPlace (tree : Tree) (next : ℕ) (es : List Kept) (parent : Number) (name : List ℕ) (dir file : FileId) : Type 0 where
  pub at : IsFileOf tree es parent.0 dir
  pub child : child_of tree dir name ≡ Some file
  pub absent : entry_at es parent.0 name ≡ None
  pub fits : next < end_of_numbers

module _ (tree : Tree) (next : ℕ) (es : List Kept) (parent : Number) (name : List ℕ) (dir file : FileId) (is : IsTree tree) (fits : Fits tree next es) (place : IsNewPlace tree next es parent name dir file) where
  none : entry_of es next ≡ None
  none = next-none es next fits.numbers

  -- what every other number named it still names
  pub old-file : (n : ℕ) (f : FileId) → IsFileOf tree es n f → IsFileOf tree (es ++ new_entry next parent name ∷ []) n f
  old-file n f h = IsFileOf-extended tree es (es ++ new_entry next parent name ∷ []) n f (append-extends es next (new_entry next parent name) refl none) h

  -- what the next number names
  pub new-file : IsFileOf tree (es ++ new_entry next parent name ∷ []) next file
  new-file = is_child next file (new_entry next parent name) parent name dir (λ one. let low : 2 ≤ next = numbers-bound es 2 next fits.numbers in omega arith)
      (append-same es next (new_entry next parent name) refl none) refl (old-file parent.0 dir place.at) place.child

  -- and each other number names what it named
  pub other-file : (n : ℕ) (f : FileId) → (n ≡ next → ⊥) → IsFileOf tree (es ++ new_entry next parent name ∷ []) n f → IsFileOf tree es n f
  other-file n f other h = known_in (named-known tree (es ++ new_entry next parent name ∷ []) n f h) where
    known_in : (n ≡ 1) ⊎ ((k : Kept) × (entry_of (es ++ new_entry next parent name ∷ []) n ≡ Some k)) → IsFileOf tree es n f
    known_in (inl one) = is_root n f one (IsFileOf-same tree (es ++ new_entry next parent name ∷ []) n f root h (is_root n root one refl))
    known_in (inr (k, e)) = old_in (new_or_old es next n (new_entry next parent name) k refl none e) where
      old_in : ((n ≡ next) × (k ≡ new_entry next parent name)) ⊎ (entry_of es n ≡ Some k) → IsFileOf tree es n f
      old_in (inl (same, is')) = absurd (other same)
      old_in (inr was) =
          let g = fits.names_a_file n (some-IsSome (entry_of es n) k was) in
          let same : g.0 ≡ f = IsFileOf-same tree (es ++ new_entry next parent name ∷ []) n g.0 f (old-file n g.0 g.1) h in
          subst (λ (x : FileId). IsFileOf tree es n x) same g.1

  split : (m : ℕ) (now : Kept) → entry_of (es ++ new_entry next parent name ∷ []) m ≡ Some now → ((m ≡ next) × (now ≡ new_entry next parent name)) ⊎ (entry_of es m ≡ Some now)
  split m now e = new_or_old es next m (new_entry next parent name) now refl none e

  -- an older entry has another number
  older : (m : ℕ) (now : Kept) → entry_of es m ≡ Some now → m ≡ next → ⊥
  older m now e same = some-none (entry_of es m) now e (subst (λ (j : ℕ). entry_of es j ≡ None) (sym same) none)

  back : (m : ℕ) (now : Kept) (f : FileId) → entry_of es m ≡ Some now → IsFileOf tree (es ++ new_entry next parent name ∷ []) m f → IsFileOf tree es m f
  back m now f e h = other-file m f (older m now e) h

  here : (m : ℕ) (f : FileId) → m ≡ next → IsFileOf tree (es ++ new_entry next parent name ∷ []) m f → f ≡ file
  here m f same h = IsFileOf-same tree (es ++ new_entry next parent name ∷ []) next f file (subst (λ (j : ℕ). IsFileOf tree (es ++ new_entry next parent name ∷ []) j f) same h) new-file

  -- no older entry stands at the place, and none names the file
  clash : (m : ℕ) (now : Kept) → entry_of es m ≡ Some now → now.place ≡ Linked parent name → ⊥
  clash m now e p = let t = place-stands parent.0 name now p in let f = first-none es (has_number m) (stands_at parent.0 name) now place.absent e in let c : true ≡ false = sym t ∙ f in let gone : ⊥ = cc in gone

  file_clash : (m : ℕ) → IsFileOf tree es m file → ⊥
  file_clash m h = no-place-no_file tree next es is fits parent.0 dir file name place.at place.child place.absent m h

  named : (n : ℕ) (now : Kept) → ((n ≡ next) × (now ≡ new_entry next parent name)) ⊎ (entry_of es n ≡ Some now) → (f : FileId) × IsFileOf tree (es ++ new_entry next parent name ∷ []) n f × IsSome (tree_file tree f)
  named n now (inl (same, e)) = (file, subst (λ (j : ℕ). IsFileOf tree (es ++ new_entry next parent name ∷ []) j file) (sym same) new-file, is.links_give_files dir name file place.child)
  named n now (inr e) = let g = fits.names_a_file n (some-IsSome (entry_of es n) now e) in (g.0, old-file n g.0 g.1, g.2)

  apart_in : (m n : ℕ) (one other : Kept) → ((m ≡ next) × (one ≡ new_entry next parent name)) ⊎ (entry_of es m ≡ Some one) → ((n ≡ next) × (other ≡ new_entry next parent name)) ⊎ (entry_of es n ≡ Some other) →
      one.place ≡ other.place → m ≡ n
  apart_in m n one other (inl (a, e)) (inl (b, f)) same = a ∙ sym b
  apart_in m n one other (inl (a, e)) (inr f) same = absurd (clash n other f (sym same ∙ ap (λ (k : Kept). k.place) e))
  apart_in m n one other (inr e) (inl (b, f)) same = absurd (clash m one e (same ∙ ap (λ (k : Kept). k.place) f))
  apart_in m n one other (inr e) (inr f) same = fits.places_are_apart m n one other e f same

  files_in : (m n : ℕ) (one other : Kept) (f : FileId) → ((m ≡ next) × (one ≡ new_entry next parent name)) ⊎ (entry_of es m ≡ Some one) → ((n ≡ next) × (other ≡ new_entry next parent name)) ⊎ (entry_of es n ≡ Some other) →
      IsFileOf tree (es ++ new_entry next parent name ∷ []) m f → IsFileOf tree (es ++ new_entry next parent name ∷ []) n f → m ≡ n
  files_in m n one other f (inl (a, e)) (inl (b, e')) g h = a ∙ sym b
  files_in m n one other f (inl (a, e)) (inr e') g h = absurd (file_clash n (subst (λ (x : FileId). IsFileOf tree es n x) (here m f a g) (back n other f e' h)))
  files_in m n one other f (inr e) (inl (b, e')) g h = absurd (file_clash m (subst (λ (x : FileId). IsFileOf tree es m x) (here n f b h) (back m one f e g)))
  files_in m n one other f (inr e) (inr e') g h = fits.files_are_apart m n f (some-IsSome (entry_of es m) one e) (some-IsSome (entry_of es n) other e') (back m one f e g) (back n other f e' h)

  unlinked_in : (n : ℕ) (now : Kept) (f : FileId) → ((n ≡ next) × (now ≡ new_entry next parent name)) ⊎ (entry_of es n ≡ Some now) → IsFileOf tree (es ++ new_entry next parent name ∷ []) n f →
      IsUnlinkedPlace now.place ↔ (is_unlinked tree f ≡ true)
  unlinked_in n now f (inl (a, e)) g = (
    λ p. absurd (let q : ⊥ = subst (λ (k : Kept). IsUnlinkedPlace k.place) e p in q),
    λ u. absurd (linked_is_not_unlinked tree file (linked_from_child tree dir name file place.child) (subst (λ (k : FileId). is_unlinked tree k ≡ true) (here n f a g) u)),
  )
  unlinked_in n now f (inr e) g = fits.unlinked_alike n now f e (back n now f e g)

  count_in : (n : ℕ) (now : Kept) → ((n ≡ next) × (now ≡ new_entry next parent name)) ⊎ (entry_of es n ≡ Some now) → now.count ≤ greatest_count
  count_in n now (inl (a, e)) = let c : now.count ≡ 1 = ap (λ (k : Kept). k.count) e in omega arith
  count_in n now (inr e) = fits.counts_fit n now e

  pub fits-added : Fits tree (next + 1) (es ++ new_entry next parent name ∷ [])
  fits-added = record {
    numbers = numbers-append es 2 next (new_entry next parent name) fits.numbers refl;
    numbers_fit = let low : next < end_of_numbers = place.fits in omega arith;
    names_a_file = λ n some. let now = some-is (entry_of (es ++ new_entry next parent name ∷ []) n) some in named n now.0 (split n now.0 now.1);
    places_are_apart = λ m n one other e f same. apart_in m n one other (split m one e) (split n other f) same;
    files_are_apart = λ m n f s t g h. let one = some-is (entry_of (es ++ new_entry next parent name ∷ []) m) s in let other = some-is (entry_of (es ++ new_entry next parent name ∷ []) n) t in
        files_in m n one.0 other.0 f (split m one.0 one.1) (split n other.0 other.1) g h;
    unlinked_alike = λ n now f e g. unlinked_in n now f (split n now e) g;
    counts_fit = λ n now e. count_in n now (split n now e);
  }
