-- The entries of a directory from a position on: what may stand there, and one more behind those that were listed.
use Rattle.std.proofs.Common.{◌≡◌, ℕ, ◌+◌, ◌-◌, ◌<◌, ◌≤◌, Bool, true, false, List, [], ◌∷◌, ◌++◌, length, Some, None, refl, sym, ap, ◌∙◌, subst, inl, inr, ◌⊎◌, append_assoc, length-append, arith}
use Rattle.std.specs.Prelude.{nat_le}
use Rattle.std.proofs.lemmas.Bool.Decides.{nat_tests}
use Rattle.std.proofs.lemmas.List.{append-nil}
use Rattle.eden_base.specs.declared.number.FileId.{FileId}
use Rattle.eden_base.specs.declared.attr.Kind.{Kind}
use Rattle.eden_base.specs.declared.attr.Kind.TheVariants.{Dir}
use Rattle.manifest.specs.Tree.{Tree, IsTree, IsFirstFrom, child_of, kind_of, root}
use Rattle.checkout.specs.ChangedTree.{is_unlinked}
use Rattle.fuse_wire.specs.DirectoryEntries.{Dirent, Listed, entry_text, entries_text}
use Rattle.fuse_ops.specs.Listing.{StandsAt, is_itself, is_above, is_above_root, is_child, IsEnd, IsFirstEntry, Lists, dot, dot_dot}
use Rattle.fuse_ops.specs.Served.{ServedState, IsInode}
use Rattle.fuse_ops.specs.Work.{IsAbove, IsFilled}
use Rattle.fuse_ops.proofs.Finding.{child-found, found-linked}

-- ---- which entries there are

-- behind the first two positions, and in a directory that no name leads to, only children stand
pub only-children : (tree : Tree) (dir : FileId) (from position : ℕ) (name : List ℕ) (file : FileId) → IsTree tree → (is_unlinked tree dir ≡ true) ⊎ (2 ≤ from) → from ≤ position → StandsAt tree dir position name file →
    (position ≡ file.0) × (child_of tree dir name ≡ Some file)
only-children tree dir from position name file is behind ge (is_child _ _ _ at child) = (at, child)
only-children tree dir from position name file is (inr two) ge (is_itself _ _ _ zero dots reached same) = absurd (omega arith)
only-children tree dir from position name file is (inl gone) ge (is_itself _ _ _ zero dots reached same) = absurd (let none : ⊥ = cc in none)
only-children tree dir from position name file is (inr two) ge (is_above _ _ _ one dots stands) = absurd (omega arith)
only-children tree dir from position name file is (inl gone) ge (is_above _ _ _ one dots stands) =
    absurd (let reached = found-linked tree file dir stands.0 (child-found tree file dir stands.0 is stands.1) in let none : ⊥ = cc in none)
only-children tree dir from position name file is (inr two) ge (is_above_root _ _ _ one dots top same) = absurd (omega arith)
only-children tree dir from position name file is (inl gone) ge (is_above_root _ _ _ one dots top same) =
    absurd (let reached : is_unlinked tree root ≡ true = ap (is_unlinked tree) (sym top) ∙ gone in let none : ⊥ = cc in none)

module _ (served : ServedState) (dir : FileId) (from : ℕ) (is : IsTree served.tree) (behind : (is_unlinked served.tree dir ≡ true) ⊎ (2 ≤ from)) where
  -- no child is left
  pub none-left : IsFirstFrom served.tree.links dir from None → IsEnd served.tree dir from
  none-left none position name file stands ge =
      let child = only-children served.tree dir from position name file is behind ge stands in
      none file (name, child.1) (omega (arith, child.0))

  -- the first child that is left
  pub child-first : (file : FileId) (name : List ℕ) (kind : Kind) (number : ℕ) → IsFirstFrom served.tree.links dir from (Some file) → child_of served.tree dir name ≡ Some file → kind_of served.tree file ≡ Some kind → IsInode served file number →
      IsFirstEntry (IsInode served) served.tree dir from (record { number = number; next = file.0 + 1; kind = kind; name = name })
  child-first file name kind number first child is_kind inode = record {
    is = record { position = file.0; file = file; stands = is_child file.0 name file refl child; next = refl; kind = is_kind; number = inode };
    behind = (let low = first.1 in omega arith);
    first = λ position other_name other stands ge.
        let at = only-children served.tree dir from position other_name other is behind ge stands in
        let low = first.2 other (other_name, at.1) (omega (arith, at.0)) in
        omega (arith, at.0);
  }

-- a directory that a name leads to has itself first
pub itself-first : (served : ServedState) (dir : FileId) (number : ℕ) → is_unlinked served.tree dir ≡ false → kind_of served.tree dir ≡ Some Dir → IsInode served dir number →
    IsFirstEntry (IsInode served) served.tree dir 0 (record { number = number; next = 1; kind = Dir; name = dot })
itself-first served dir number reached is_dir inode = record {
  is = record { position = 0; file = dir; stands = is_itself 0 dot dir refl refl reached refl; next = refl; kind = is_dir; number = inode };
  behind = omega arith;
  first = λ position name file stands ge. omega arith;
}

-- then the directory above it
pub above-first : (served : ServedState) (dir above : FileId) (number : ℕ) → IsTree served.tree → IsAbove served.tree dir above → IsInode served above number →
    IsFirstEntry (IsInode served) served.tree dir 1 (record { number = number; next = 2; kind = Dir; name = dot_dot })
above-first served dir above number is at inode = record {
  is = record { position = 1; file = above; stands = stands at; next = refl; kind = is_dir at; number = inode };
  behind = omega arith;
  first = λ position name file stood ge. omega arith;
} where
  stands : IsAbove served.tree dir above → StandsAt served.tree dir 1 dot_dot above
  stands (inl in_) = is_above 1 dot_dot above refl refl in_
  stands (inr (top, same)) = is_above_root 1 dot_dot above refl refl top same

  is_dir : IsAbove served.tree dir above → kind_of served.tree above ≡ Some Dir
  is_dir (inl (name, child)) = is.links_stand_in_dirs above name dir child
  is_dir (inr (top, same)) = ap (kind_of served.tree) same ∙ is.root_is_dir

-- ---- what is listed so far

-- these bytes are those of the first entries from a position on, and of a room what follows them follows from the next
-- position on
pub record Filling (served : ServedState) (dir : FileId) (offset room from : ℕ) (listing : Listed) : Type 0 where
  pub entries : List Dirent
  pub bytes : listing.bytes ≡ entries_text entries
  pub same_room : listing.room ≡ room
  pub within : length listing.bytes ≤ room
  pub goes_on : (rest : List Dirent) → Lists (IsInode served) served.tree dir from (room - length listing.bytes) rest → Lists (IsInode served) served.tree dir offset room (entries ++ rest)

pub filling-start : (served : ServedState) (dir : FileId) (offset : ℕ) (listing : Listed) → listing.bytes ≡ [] → Filling served dir offset listing.room offset listing
filling-start served dir offset listing empty =
    let none : length listing.bytes ≡ 0 = ap length empty in record {
      entries = [];
      bytes = empty;
      same_room = refl;
      within = omega arith;
      goes_on = λ rest lists. subst (λ (n : ℕ). Lists (IsInode served) served.tree dir offset n rest) (omega arith) lists;
    }

-- one entry more
pub filling-more : (served : ServedState) (dir : FileId) (offset room from : ℕ) (old new : Listed) (entry : Dirent) → Filling served dir offset room from old → IsFirstEntry (IsInode served) served.tree dir from entry →
    length old.bytes + length (entry_text entry) ≤ old.room → new.bytes ≡ old.bytes ++ entry_text entry → new.room ≡ old.room → ((entries : List Dirent) → old.bytes ≡ entries_text entries → new.bytes ≡ entries_text (entries ++ entry ∷ [])) →
    Filling served dir offset room entry.next new
filling-more served dir offset room from old new entry f first fits pushed same text =
    let len : length new.bytes ≡ length old.bytes + length (entry_text entry) = ap length pushed ∙ length-append old.bytes (entry_text entry) in record {
      entries = f.entries ++ entry ∷ [];
      bytes = text f.entries f.bytes;
      same_room = same ∙ f.same_room;
      within = omega (arith, f.same_room);
      goes_on = λ rest lists. subst (Lists (IsInode served) served.tree dir offset room) (sym (append_assoc f.entries (entry ∷ []) rest))
          (f.goes_on (entry ∷ rest) (first, omega (arith, f.same_room), subst (λ (n : ℕ). Lists (IsInode served) served.tree dir entry.next n rest) (omega arith) lists));
    }

-- no entry is left
pub filling-end : (served : ServedState) (dir : FileId) (offset room from : ℕ) (listing : Listed) → Filling served dir offset room from listing → IsEnd served.tree dir from → IsFilled served dir offset listing
filling-end served dir offset room from listing f end = record {
  entries = f.entries;
  lists = subst (λ (n : ℕ). Lists (IsInode served) served.tree dir offset n f.entries) (sym f.same_room) (subst (Lists (IsInode served) served.tree dir offset room) (append-nil f.entries) (f.goes_on [] (inl end)));
  bytes = f.bytes;
}

-- the next entry has no room
pub filling-full : (served : ServedState) (dir : FileId) (offset room from : ℕ) (old new : Listed) (entry : Dirent) → Filling served dir offset room from old → IsFirstEntry (IsInode served) served.tree dir from entry →
    (length old.bytes + length (entry_text entry) ≤ old.room → ⊥) → new.bytes ≡ old.bytes → new.room ≡ old.room → IsFilled served dir offset new
filling-full served dir offset room from old new entry f first full same same_room = record {
  entries = f.entries;
  lists = subst (λ (n : ℕ). Lists (IsInode served) served.tree dir offset n f.entries) (sym (same_room ∙ f.same_room))
      (subst (Lists (IsInode served) served.tree dir offset room) (append-nil f.entries) (f.goes_on [] (inr (record { entry = entry; first = first; longer = longer }))));
  bytes = same ∙ f.bytes;
} where
  longer : room - length old.bytes < length (entry_text entry)
  longer = in_ (nat_le (length old.bytes + length (entry_text entry)) room) refl where
    in_ : (b : Bool) → nat_le (length old.bytes + length (entry_text entry)) room ≡ b → room - length old.bytes < length (entry_text entry)
    in_ true t = absurd (full (let le : length old.bytes + length (entry_text entry) ≤ room = grind (arith, nat_tests) in omega (arith, f.same_room)))
    in_ false t = let lt : room < length old.bytes + length (entry_text entry) = grind (arith, nat_tests) in omega (arith, f.within)
