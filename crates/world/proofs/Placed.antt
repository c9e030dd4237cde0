-- Which number the file of an entry has, for a lookup that found the file and for one that is made.
use Rattle.std.proofs.Common.{◌≡◌, ℕ, ◌<◌, ◌≤◌, List, Option, Some, None, is_some, Ok, refl, sym, ap, inl, inr, ◌⊎◌, arith}
use Rattle.std.specs.Option.{option_map_or}
use Rattle.eden_base.specs.Limits.{end_of_numbers}
use Rattle.eden_base.specs.declared.attr.MadeKind.{MadeKind}
use Rattle.eden_base.specs.declared.attr.Perm.{Perm}
use Rattle.eden_base.specs.declared.number.FileId.{FileId}
use Rattle.eden_base.specs.declared.number.Number.{Number}
use Rattle.checkout.proofs.CreateLaws.{child_of-created}
use Rattle.manifest.specs.Tree.{Tree, IsTree, child_of, root}
use Rattle.checkout.specs.ChangedTree.{next_file, created}
use Rattle.fuse_wire.specs.declared.request.Request.{Request}
use Rattle.entry_table.specs.Entries.{IsFileOf, is_root, entry_at, number_of_kept}
use Rattle.inode_map.specs.InodeMap.{MapState, give_fault_at, given, number_given}
use Rattle.entry_table.specs.declared.kept.Kept.{Kept}
use Rattle.entry_table.proofs.EntryLemmas.{numbers-bound}
use Rattle.entry_table.proofs.FileLemmas.{IsFileOf-same}
use Rattle.fuse_ops.specs.Gifts.{served_over, IsPlaced}
use Rattle.fuse_ops.proofs.Fits.{sound-fits}
use Rattle.fuse_ops.proofs.GivingLaw.{gives-well}
use Rattle.fuse_ops.proofs.Known.{same-number, named-range, count-fits}
use Rattle.fuse_ops.proofs.Making.{IsFreePlace, free-absent}
use Rattle.fuse_ops.proofs.MakingLaw.{stays, new-named, making-keeps}
use Rattle.fuse_ops.proofs.PlaceNumbers.{given-number, fault-held, next-number, fault-free, named-or-free}
use Rattle.fuse_ops.proofs.Shapes.{entered, TellsEntry}
use Rattle.world.specs.World.{World, file_named, owed, effect_in}
use Rattle.world.specs.Agreement.{Knows}
use Rattle.world.proofs.Entering.{Enters, Numbered, Unnumbered}
use Rattle.world.proofs.Knowing.{number-names, gave-knows, kept-knows}

-- the next number names nothing
not-named : (w : World) (tree : Tree) (m : MapState) → Knows tree w.names (owed w) (served_over tree m) → file_named w.names m.next ≡ None
not-named w tree m k = in_ (file_named w.names m.next) refl where
  in_ : (o : Option FileId) → file_named w.names m.next ≡ o → o ≡ None
  in_ None e = refl
  in_ (Some x) e = absurd (let r = (k.numbers m.next).0 (ap is_some e) in omega (arith, r.1))

-- ---- a file that a lookup found

module _ (w : World) (m : MapState) (dir : Number) (name : List ℕ) (above file : FileId) (is : IsTree w.tree) (of_manifest : w.tree.manifest ≡ w.manifest) (k : Knows w.tree w.names (owed w) (served_over w.tree m)) (at : IsFileOf w.tree m.entries dir.0 above) (child : child_of w.tree above name ≡ Some file) where
  place : IsPlaced (served_over w.tree m) dir.0 name above file
  place = record { is_tree = is; sound = k.sound; at = at; child = child }

  found_numbered : (n : ℕ) → IsFileOf w.tree m.entries n file → Numbered w m dir name file
  found_numbered n names = record {
    number = n;
    is_given = given-number _ _ _ _ _ place n names;
    fault = fault-held _ _ _ _ _ place n names;
    same = λ j j_is. same-number (served_over w.tree m) is k.sound j n file (number-names w w.tree m k j file j_is) names;
    named = k.files n file names;
    counted = sym (k.counts n not_root);
    fits = count-fits (served_over w.tree m) k.sound n;
    low = let low : 1 ≤ n = range.0 in omega (arith, not_root);
    high = let fit : m.next ≤ end_of_numbers = (k.sound).numbers_fit in let below : n < m.next = range.1 in omega arith;
  } where
    range : (1 ≤ n) × (n < m.next)
    range = named-range (served_over w.tree m) k.sound n file names

    not_root : n ≡ 1 → ⊥
    not_root one =
        let there : root ≡ file = IsFileOf-same w.tree m.entries n root file (is_root n root one refl) names in
        let same : root.0 ≡ file.0 = ap (λ (x : FileId). x.0) there in
        let low : 1 < file.0 = is.root_has_no_link above name file child in omega arith

  found_unnumbered : ((n : ℕ) → IsFileOf w.tree m.entries n file → ⊥) → Unnumbered w m dir name file
  found_unnumbered nobody = record {
    is_given = next-number _ _ _ _ _ place nobody;
    fault = fault-free _ _ _ _ _ place nobody;
    nobody = λ j j_is. nobody j (number-names w w.tree m k j file j_is);
    not_named = not-named w w.tree m k;
    all_named = λ n low high. (k.numbers n).1 (omega arith, high);
    low = numbers-bound m.entries 2 m.next (k.sound).numbers;
  }

  pub found-number : Numbered w m dir name file ⊎ Unnumbered w m dir name file
  found-number = in_ (named-or-free _ _ _ _ _ place) where
    in_ : ((n : ℕ) × IsFileOf w.tree m.entries n file) ⊎ ((n : ℕ) → IsFileOf w.tree m.entries n file → ⊥) → Numbered w m dir name file ⊎ Unnumbered w m dir name file
    in_ (inl (n, names)) = inl (found_numbered n names)
    in_ (inr nobody) = inr (found_unnumbered nobody)

  pub found-enters : (request : Request) → TellsEntry request dir name → effect_in w request ≡ Ok (entered w.tree file) → Enters w m request dir name w.tree file
  found-enters request tells came = record {
    is_tree = is;
    of_manifest = of_manifest;
    knows = k;
    tells = tells;
    comes = came;
    gives = λ is' clear. gave-knows w w.tree m (given m dir name) (number_given m dir.0 name).0 file k (gives-well (served_over w.tree m) dir name above file place clear);
  }

-- ---- a file that is made

module _ (w : World) (m : MapState) (dir : Number) (name : List ℕ) (above : FileId) (kind : MadeKind) (perm : Perm) (is : IsTree w.tree) (of_manifest : w.tree.manifest ≡ w.manifest) (k : Knows w.tree w.names (owed w) (served_over w.tree m)) (at : IsFileOf w.tree m.entries dir.0 above) (free : IsFreePlace w.tree above name) where
  abbrev tree : Tree
  tree = created w.tree above name kind perm

  absent : entry_at m.entries dir.0 name ≡ None
  absent = free-absent (served_over w.tree m) dir.0 above name k.sound at free.free

  -- the number of a file that is made is the next one, which names nothing
  pub made-number : Unnumbered w m dir name (next_file w.tree)
  made-number = record {
    is_given = ap (λ (o : Option Kept). (option_map_or number_of_kept o (record { 0 = m.next })).0) absent;
    fault = ap (λ (o : Option Kept). give_fault_at m o) absent;
    nobody = λ j j_is. new-named w.tree m.next m.entries above name kind perm is (sound-fits (served_over w.tree m) k.sound) free.free j (number-names w w.tree m k j (next_file w.tree) j_is);
    not_named = not-named w w.tree m k;
    all_named = λ n low high. (k.numbers n).1 (omega arith, high);
    low = numbers-bound m.entries 2 m.next (k.sound).numbers;
  }

  -- what the daemon knows over the tree with the made file
  known : Knows tree w.names (owed w) (served_over tree m)
  known = kept-knows w.tree w.names (owed w) (served_over w.tree m) (served_over tree m) (making-keeps (served_over w.tree m) above name kind perm is k.sound free.free) k

  pub made-enters : (request : Request) → TellsEntry request dir name → effect_in w request ≡ Ok (entered (created w.tree above name kind perm) (next_file w.tree)) →
      Enters w m request dir name (created w.tree above name kind perm) (next_file w.tree)
  made-enters request tells came = record {
    is_tree = is;
    of_manifest = of_manifest;
    knows = k;
    tells = tells;
    comes = came;
    gives = λ is_tree clear. gave-knows w tree m (given m dir name) (number_given m dir.0 name).0 (next_file w.tree) known
        (gives-well (served_over tree m) dir name above (next_file w.tree) (record {
          is_tree = is_tree;
          sound = known.sound;
          at = stays w.tree m.next m.entries above name kind perm is (sound-fits (served_over w.tree m) k.sound) free.free dir.0 above at;
          child = child_of-created w.tree above name kind perm;
        }) clear);
  }
