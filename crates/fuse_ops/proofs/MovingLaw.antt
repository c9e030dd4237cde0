-- A file moves to another name, and each number names the file that it named: the law, by which files have numbers.
use Rattle.std.proofs.Common.{◌≡◌, ℕ, List, Option, Some, None, refl, sym, ap, ◌∙◌, subst, inl, inr, ◌⊎◌}
use Rattle.std.specs.Option.{option_map, option_map_or}
use Rattle.eden_base.proofs.MemberLemmas.{some-same, first-passes}
use Rattle.eden_base.proofs.NumberTests.{eq-or}
use Rattle.eden_base.specs.First.{changed_where}
use Rattle.eden_base.specs.declared.number.FileId.{FileId}
use Rattle.eden_base.specs.declared.number.Number.{Number}
use Rattle.eden_base.specs.declared.place.Place.TheVariants.{Linked, Unlinked}
use Rattle.manifest.specs.Tree.{Tree, child_of}
use Rattle.checkout.specs.RenamedTree.{renamed}
use Rattle.entry_table.proofs.EntryLemmas.{changed-same, changed-other, entry_of-first, numbers-changed}
use Rattle.entry_table.proofs.FileLemmas.{IsFileOf-same}
use Rattle.entry_table.proofs.Places.{stands-place}
use Rattle.entry_table.specs.EntryPlaces.{AreOfUseBut}
use Rattle.entry_table.specs.Entries.{has_number, stands_at, entry_of, entry_at, marked, moved_to, AreNumbers, IsFileOf}
use Rattle.entry_table.specs.declared.kept.Kept.{Kept}
use Rattle.inode_map.proofs.Moving.{displaced-none, displaced-some, displaced-others, moved-others}
use Rattle.inode_map.proofs.Pruning.{marked-others}
use Rattle.inode_map.specs.InodeMap.{displaced, relinked, unlinked}
use Rattle.fuse_ops.specs.Changes.{KeepsNames, MayMove, MovingLaw}
use Rattle.fuse_ops.specs.Served.{ServedState, name_taken}
use Rattle.fuse_ops.proofs.Fits.{Fits, sound-fits, sound-of_use, fits-sound, named-apart, place-file, no-place-no_file}
use Rattle.fuse_ops.proofs.MovedNumbers.{WasMoved, AreMoved, moved-fits, moved-names, moved-counts, moved-left}

-- An entry and what it was, once a name was taken from a file: it is this file's and has its mark, or stands where it
-- stood.
pub record WasDisplaced (tree : Tree) (es : List Kept) (to_dir : FileId) (to_name : List ℕ) (m : ℕ) (now : Kept) : Type 0 where
  pub kept : Kept
  pub was : entry_of es m ≡ Some kept
  pub count : now.count ≡ kept.count
  pub how : ((u : FileId) × (child_of tree to_dir to_name ≡ Some u) × IsFileOf tree es m u × (now.place ≡ Unlinked u))
      ⊎ (((u : FileId) → child_of tree to_dir to_name ≡ Some u → IsFileOf tree es m u → ⊥) × (now.place ≡ kept.place))

-- the entries after a name was taken from its file, if it had one
pub record AreDisplaced (tree : Tree) (next : ℕ) (es left : List Kept) (to_dir : FileId) (to_name : List ℕ) : Type 0 where
  pub numbers : AreNumbers 2 next left
  pub there : (m : ℕ) (kept : Kept) → entry_of es m ≡ Some kept → (now : Kept) × (entry_of left m ≡ Some now)
  pub was : (m : ℕ) (now : Kept) → entry_of left m ≡ Some now → WasDisplaced tree es to_dir to_name m now

module _ (served : ServedState) (number : Number) (dir : FileId) (name : List ℕ) (to : Number) (to_dir : FileId) (to_name : List ℕ) (file : FileId)
    (may : MayMove served number dir name to to_dir to_name file) where
  abbrev tree : Tree
  tree = served.tree

  abbrev later : Tree
  later = renamed served.tree dir name to_dir to_name

  abbrev es : List Kept
  es = served.map.entries

  abbrev next : ℕ
  next = served.map.next

  abbrev useful : AreOfUseBut None served.map.entries
  useful = sound-of_use served may.sound

  fits : Fits served.tree served.map.next served.map.entries
  fits = sound-fits served may.sound

  -- ---- the name is taken from what stood there

  -- no number is that of the file
  none-displaced : ((m : ℕ) (u : FileId) → child_of served.tree to_dir to_name ≡ Some u → IsFileOf served.tree served.map.entries m u → ⊥) → AreDisplaced served.tree served.map.next served.map.entries served.map.entries to_dir to_name
  none-displaced nobody = record {
    numbers = fits.numbers;
    there = λ m kept e. (kept, e);
    was = λ m now e. record { kept = now; was = e; count = refl; how = inr (λ u stood at. nobody m u stood at, refl) };
  }

  -- one is
  module _ (u : FileId) (kept : Kept) (stood : child_of served.tree to_dir to_name ≡ Some u) (there : entry_at served.map.entries to.0 to_name ≡ Some kept) where
    abbrev k : ℕ
    k = kept.number.0

    abbrev left : List Kept
    left = changed_where (has_number kept.number.0) (marked u) served.map.entries

    entry : entry_of es k ≡ Some kept
    entry = entry_of-first es 2 next (stands_at to.0 to_name) kept fits.numbers there

    names : IsFileOf tree es k u
    names = place-file tree next es fits to.0 kept to_dir u to_name may.to_at stood there

    now_marked : entry_of left k ≡ Some (marked u kept)
    now_marked = changed-same es k (marked u) (λ x. refl) ∙ ap (option_map (marked u)) entry

    same-other : (m : ℕ) → (m ≡ k → ⊥) → entry_of left m ≡ entry_of es m
    same-other m other = changed-other es k m (marked u) (λ x. refl) other

    there_in : (m : ℕ) (x : Kept) → entry_of es m ≡ Some x → (m ≡ k) ⊎ (m ≡ k → ⊥) → (now : Kept) × (entry_of left m ≡ Some now)
    there_in m x e (inl same) = (marked u kept, ap (entry_of left) same ∙ now_marked)
    there_in m x e (inr other) = (x, same-other m other ∙ e)

    was_in : (m : ℕ) (now : Kept) → entry_of left m ≡ Some now → (m ≡ k) ⊎ (m ≡ k → ⊥) → WasDisplaced tree es to_dir to_name m now
    was_in m now e (inl same) =
        let is : now ≡ marked u kept = some-same (entry_of left k) now (marked u kept) (subst (λ (j : ℕ). entry_of left j ≡ Some now) same e) now_marked in
        record {
          kept = kept;
          was = ap (entry_of es) same ∙ entry;
          count = ap (λ (x : Kept). x.count) is;
          how = inl (u, stood, subst (λ (j : ℕ). IsFileOf tree es j u) (sym same) names, ap (λ (x : Kept). x.place) is);
        }
    was_in m now e (inr other) = record {
      kept = now;
      was = sym (same-other m other) ∙ e;
      count = refl;
      how = inr (
        λ v stood' at.
            let is : v ≡ u = some-same (child_of tree to_dir to_name) v u stood' stood in
            other (named-apart tree next es may.is_tree fits m k u (subst (λ (x : FileId). IsFileOf tree es m x) is at) names),
        refl,
      );
    }

    one-displaced : AreDisplaced served.tree served.map.next served.map.entries (changed_where (has_number kept.number.0) (marked u) served.map.entries) to_dir to_name
    one-displaced = record {
      numbers = numbers-changed es 2 next (has_number k) (marked u) (λ x. refl) fits.numbers;
      there = λ m x e. there_in m x e (eq-or m k);
      was = λ m now e. was_in m now e (eq-or m k);
    }

    one-others : AreOfUseBut (Some to.0) (changed_where (has_number kept.number.0) (marked u) served.map.entries)
    one-others = marked-others es k u kept to to_name entry (stands-place to.0 to_name kept (first-passes es (stands_at to.0 to_name) kept there)) useful

  -- whichever file stood there
  nobody_in : (u : FileId) → child_of tree to_dir to_name ≡ Some u → entry_at es to.0 to_name ≡ None → (m : ℕ) (v : FileId) → child_of tree to_dir to_name ≡ Some v → IsFileOf tree es m v → ⊥
  nobody_in u stood none m v stood' at = no-place-no_file tree next es may.is_tree fits to.0 to_dir v to_name may.to_at stood' none m at

  all-displaced : (r : Option FileId) → child_of served.tree to_dir to_name ≡ r → AreDisplaced served.tree served.map.next served.map.entries (displaced served.map.entries to.0 to_name r) to_dir to_name
  all-displaced None free = none-displaced (λ m u stood at. let none : ⊥ = cc in none)
  all-displaced (Some u) stood = in_ (entry_at es to.0 to_name) refl where
    in_ : (o : Option Kept) → entry_at es to.0 to_name ≡ o → AreDisplaced tree next es (displaced es to.0 to_name (Some u)) to_dir to_name
    in_ None none = subst (λ (left : List Kept). AreDisplaced tree next es left to_dir to_name) (sym (displaced-none es to.0 to_name (Some u) none)) (none-displaced (nobody_in u stood none))
    in_ (Some kept) there =
        subst (λ (left : List Kept). AreDisplaced tree next es left to_dir to_name) (sym (displaced-some es 2 next to.0 to_name u kept fits.numbers there)) (one-displaced u kept stood there)

  -- ---- the file that moves has no number

  module _ (absent : entry_at served.map.entries number.0 name ≡ None) where
    nobody : (m : ℕ) → IsFileOf tree es m file → ⊥
    nobody m at = no-place-no_file tree next es may.is_tree fits number.0 dir file name may.at may.child absent m at

    was-moved : (m : ℕ) (now : Kept) → WasDisplaced tree es to_dir to_name m now → WasMoved tree es to to_dir to_name file m now
    was-moved m now w = record { kept = w.kept; was = w.was; count = w.count; how = how_in w.how } where
      how_in : ((u : FileId) × (child_of tree to_dir to_name ≡ Some u) × IsFileOf tree es m u × (now.place ≡ Unlinked u))
          ⊎ (((u : FileId) → child_of tree to_dir to_name ≡ Some u → IsFileOf tree es m u → ⊥) × (now.place ≡ w.kept.place)) →
          (IsFileOf tree es m file × (now.place ≡ Linked to to_name))
          ⊎ (((u : FileId) × (child_of tree to_dir to_name ≡ Some u) × IsFileOf tree es m u × (now.place ≡ Unlinked u))
          ⊎ ((IsFileOf tree es m file → ⊥) × ((u : FileId) → child_of tree to_dir to_name ≡ Some u → IsFileOf tree es m u → ⊥) × (now.place ≡ w.kept.place)))
      how_in (inl lost) = inr (inl lost)
      how_in (inr (others, place)) = inr (inr (nobody m, others, place))

    unnumbered : (after : List Kept) → AreDisplaced served.tree served.map.next served.map.entries after to_dir to_name → AreMoved served.tree served.map.next served.map.entries after to to_dir to_name file
    unnumbered after d = record { numbers = d.numbers; there = d.there; was = λ m now e. was-moved m now (d.was m now e) }

    -- no number loses its name
    same-keeps : ((m : ℕ) (u : FileId) → child_of served.tree to_dir to_name ≡ Some u → IsFileOf served.tree served.map.entries m u → ⊥) → KeepsNames served (record served { tree = renamed served.tree dir name to_dir to_name })
    same-keeps nobody_there =
        let are = unnumbered es (none-displaced nobody_there) in
        record {
          sound = fits-sound (record served { tree = later }) (moved-fits served number dir name to to_dir to_name file may es are) useful;
          counts = λ n. refl;
          names = moved-names served number dir name to to_dir to_name file may es are;
          next = refl;
        }

    taken-keeps : (u : FileId) (kept : Kept) → child_of served.tree to_dir to_name ≡ Some u → entry_at served.map.entries to.0 to_name ≡ Some kept →
        KeepsNames served (record { map = unlinked served.map kept.number.0 u; tree = renamed served.tree dir name to_dir to_name })
    taken-keeps u kept stood there =
        let are = unnumbered (changed_where (has_number kept.number.0) (marked u) es) (one-displaced u kept stood there) in
        let left = moved-left served number dir name to to_dir to_name file may (changed_where (has_number kept.number.0) (marked u) es) are (Some to.0) (one-others u kept stood there) in
        record {
          sound = fits-sound (record { map = unlinked served.map kept.number.0 u; tree = later }) left.kept.fits left.of_use;
          counts = λ n. left.kept.counts n ∙ moved-counts served number dir name to to_dir to_name file may (changed_where (has_number kept.number.0) (marked u) es) are n;
          names = λ n f at. moved-names served number dir name to to_dir to_name file may (changed_where (has_number kept.number.0) (marked u) es) are n f (left.kept.names n f at);
          next = refl;
        }

    unnumbered-keeps : (r : Option FileId) → child_of served.tree to_dir to_name ≡ r → KeepsNames served (record { map = option_map_or (name_taken served.map to to_name) r served.map; tree = renamed served.tree dir name to_dir to_name })
    unnumbered-keeps None free = same-keeps (λ m u stood at. let none : ⊥ = cc in none)
    unnumbered-keeps (Some u) stood = in_ (entry_at es to.0 to_name) refl where
      in_ : (o : Option Kept) → entry_at es to.0 to_name ≡ o → KeepsNames served (record { map = option_map_or (λ (kept : Kept). unlinked served.map kept.number.0 u) o served.map; tree = later })
      in_ None none = same-keeps (nobody_in u stood none)
      in_ (Some kept) there = taken-keeps u kept stood there

  -- ---- the file that moves has a number

  module _ (kept : Kept) (at : entry_at served.map.entries number.0 name ≡ Some kept) (r : Option FileId) (stood : child_of served.tree to_dir to_name ≡ r) where
    abbrev own : ℕ
    own = kept.number.0

    abbrev rest : List Kept
    rest = displaced served.map.entries to.0 to_name r

    abbrev new : List Kept
    new = changed_where (has_number kept.number.0) (moved_to to to_name) (displaced served.map.entries to.0 to_name r)

    d : AreDisplaced tree next es rest to_dir to_name
    d = all-displaced r stood

    own-entry : entry_of es own ≡ Some kept
    own-entry = entry_of-first es 2 next (stands_at number.0 name) kept fits.numbers at

    own-names : IsFileOf tree es own file
    own-names = place-file tree next es fits number.0 kept dir file name may.at may.child at

    -- its entry, which stands where it stood
    here : (x : Kept) × (entry_of rest own ≡ Some x)
    here = d.there own kept own-entry

    here-place : here.0.place ≡ Linked number name
    here-place = how_in w.how where
      w : WasDisplaced tree es to_dir to_name own here.0
      w = d.was own here.0 here.1

      how_in : ((u : FileId) × (child_of tree to_dir to_name ≡ Some u) × IsFileOf tree es own u × (here.0.place ≡ Unlinked u))
          ⊎ (((u : FileId) → child_of tree to_dir to_name ≡ Some u → IsFileOf tree es own u → ⊥) × (here.0.place ≡ w.kept.place)) → here.0.place ≡ Linked number name
      how_in (inl (u, there, names, place)) = absurd (may.other (there ∙ ap (λ (x : FileId). Some x) (IsFileOf-same tree es own u file names own-names)))
      how_in (inr (others, place)) =
          place ∙ ap (λ (x : Kept). x.place) (some-same (entry_of es own) w.kept kept w.was own-entry)
          ∙ stands-place number.0 name kept (first-passes es (stands_at number.0 name) kept at)

    now-there : entry_of new own ≡ Some (moved_to to to_name here.0)
    now-there = changed-same rest own (moved_to to to_name) (λ x. refl) ∙ ap (option_map (moved_to to to_name)) here.1

    still-other : (m : ℕ) → (m ≡ own → ⊥) → entry_of new m ≡ entry_of rest m
    still-other m other = changed-other rest own m (moved_to to to_name) (λ x. refl) other

    own-there : (m : ℕ) (x : Kept) → entry_of es m ≡ Some x → (m ≡ own) ⊎ (m ≡ own → ⊥) → (now : Kept) × (entry_of new m ≡ Some now)
    own-there m x e (inl same) = (moved_to to to_name here.0, ap (entry_of new) same ∙ now-there)
    own-there m x e (inr other) = let y = d.there m x e in (y.0, still-other m other ∙ y.1)

    own-was : (m : ℕ) (now : Kept) → entry_of new m ≡ Some now → (m ≡ own) ⊎ (m ≡ own → ⊥) → WasMoved tree es to to_dir to_name file m now
    own-was m now e (inl same) =
        let is : now ≡ moved_to to to_name here.0 = some-same (entry_of new own) now (moved_to to to_name here.0) (subst (λ (j : ℕ). entry_of new j ≡ Some now) same e) now-there in
        let w = d.was own here.0 here.1 in
        record {
          kept = w.kept;
          was = ap (entry_of es) same ∙ w.was;
          count = ap (λ (x : Kept). x.count) is ∙ w.count;
          how = inl (subst (λ (j : ℕ). IsFileOf tree es j file) (sym same) own-names, ap (λ (x : Kept). x.place) is);
        }
    own-was m now e (inr other) = record { kept = w.kept; was = w.was; count = w.count; how = how_in w.how } where
      w : WasDisplaced tree es to_dir to_name m now
      w = d.was m now (sym (still-other m other) ∙ e)

      how_in : ((u : FileId) × (child_of tree to_dir to_name ≡ Some u) × IsFileOf tree es m u × (now.place ≡ Unlinked u))
          ⊎ (((u : FileId) → child_of tree to_dir to_name ≡ Some u → IsFileOf tree es m u → ⊥) × (now.place ≡ w.kept.place)) →
          (IsFileOf tree es m file × (now.place ≡ Linked to to_name))
          ⊎ (((u : FileId) × (child_of tree to_dir to_name ≡ Some u) × IsFileOf tree es m u × (now.place ≡ Unlinked u))
          ⊎ ((IsFileOf tree es m file → ⊥) × ((u : FileId) → child_of tree to_dir to_name ≡ Some u → IsFileOf tree es m u → ⊥) × (now.place ≡ w.kept.place)))
      how_in (inl lost) = inr (inl lost)
      how_in (inr (others, place)) = inr (inr (λ named. other (named-apart tree next es may.is_tree fits m own file named own-names), others, place))

    numbered : AreMoved served.tree served.map.next served.map.entries new to to_dir to_name file
    numbered = record {
      numbers = numbers-changed rest 2 next (has_number own) (moved_to to to_name) (λ x. refl) d.numbers;
      there = λ m x e. own-there m x e (eq-or m own);
      was = λ m now e. own-was m now e (eq-or m own);
    }

    -- the old directory alone may be of no use
    others : AreOfUseBut (Some number.0) new
    others = moved-others rest own to to_name here.0 number name here.1 here-place (displaced-others es 2 next to to_name r fits.numbers useful)

    numbered-keeps : KeepsNames served (record { map = relinked served.map kept.number.0 to to_name r; tree = renamed served.tree dir name to_dir to_name })
    numbered-keeps =
        let left = moved-left served number dir name to to_dir to_name file may new numbered (Some number.0) others in
        record {
          sound = fits-sound (record { map = relinked served.map own to to_name r; tree = later }) left.kept.fits left.of_use;
          counts = λ n. left.kept.counts n ∙ moved-counts served number dir name to to_dir to_name file may new numbered n;
          names = λ n f at. moved-names served number dir name to to_dir to_name file may new numbered n f (left.kept.names n f at);
          next = refl;
        }

-- Moving a file leaves what every number names, and how often it is counted.
pub moving-keeps : MovingLaw
moving-keeps served number dir name to to_dir to_name file may = in_ (entry_at served.map.entries number.0 name) refl where
  r : Option FileId
  r = child_of served.tree to_dir to_name

  in_ : (o : Option Kept) → entry_at served.map.entries number.0 name ≡ o →
      KeepsNames served (record {
        map = option_map_or (λ (kept : Kept). relinked served.map kept.number.0 to to_name (child_of served.tree to_dir to_name)) o (option_map_or (name_taken served.map to to_name) (child_of served.tree to_dir to_name) served.map);
        tree = renamed served.tree dir name to_dir to_name;
      })
  in_ None absent = unnumbered-keeps served number dir name to to_dir to_name file may absent (child_of served.tree to_dir to_name) refl
  in_ (Some kept) at = numbered-keeps served number dir name to to_dir to_name file may kept at (child_of served.tree to_dir to_name) refl
