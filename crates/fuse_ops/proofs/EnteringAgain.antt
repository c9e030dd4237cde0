-- A name that has a number is entered once more: what it gives is there, and its count can be taken back.
use Rattle.std.proofs.Common.{◌≡◌, ℕ, ◌≤◌, Bool, true, false, List, Option, None, Some, Result, Ok, refl, sym, ap, ◌∙◌, subst, inl, inr, arith}
use Rattle.std.specs.Option.{option_map, option_map_or}
use Rattle.std.specs.Prelude.{IsSome, nat_le, if◌then◌else◌}
use Rattle.eden_base.proofs.MemberLemmas.{first-passes, some-IsSome, some-same}
use Rattle.eden_base.specs.Limits.{greatest_count, end_of_numbers}
use Rattle.eden_base.specs.declared.attr.Attr.{Attr}
use Rattle.eden_base.specs.declared.errno.Errno.{Errno}
use Rattle.eden_base.specs.declared.errno.Errno.TheVariants.{EIO}
use Rattle.eden_base.specs.declared.number.FileId.{FileId}
use Rattle.eden_base.specs.declared.number.Number.{Number}
use Rattle.eden_base.specs.declared.place.Place.TheVariants.{Linked}
use Rattle.manifest.specs.Tree.{IsTree, child_of, file_of as tree_file}
use Rattle.checkout.specs.ChangedTree.{attr_of as file_attr, is_unlinked}
use Rattle.fuse_wire.specs.declared.reply.Answer.{Answer}
use Rattle.fuse_wire.specs.declared.reply.Answer.TheVariants.{Entry, Error}
use Rattle.entry_table.proofs.EntryLemmas.{entry_of-first}
use Rattle.entry_table.proofs.FileLemmas.{linked-marked, linked-dir, linked-name}
use Rattle.entry_table.proofs.Places.{stands-place}
use Rattle.entry_table.specs.Entries.{entry_of, entry_at, stands_at, number_of_kept, IsFileOf, is_root, is_child, is_marked}
use Rattle.inode_map.specs.InodeMap.{MapState, attr_of, number_given, give_fault, give_fault_at, given, IsGiveRefusal}
use Rattle.inode_map.specs.declared.inode_map.GiveFault.{GiveFault}
use Rattle.inode_map.specs.declared.inode_map.GiveFault.TheVariants.{NoNumber, TooMany, NoMemory}
use Rattle.entry_table.specs.declared.kept.Kept.{Kept}
use Rattle.inode_map.specs.declared.loaded.LoadedAttr.{LoadedAttr}
use Rattle.fuse_ops.specs.Answers.{IsBacked, found_in}
use Rattle.fuse_ops.specs.Gifts.{served_over, Gave}
use Rattle.fuse_ops.specs.Loading.{FindsUnloaded, loaded_told}
use Rattle.fuse_ops.specs.Served.{ServedState, IsLocated, IsUnloaded, plain}
use Rattle.fuse_ops.specs.Soundness.{IsSound, Names}
use Rattle.fuse_ops.specs.Work.{errno_of, Finds, GivesEntry, GivesFound, IsAsKnown, LooksUp}
use Rattle.fuse_ops.specs.declared.served.Found.{Found}
use Rattle.fuse_ops.proofs.Asking.{finds-one, told-known, unasked-known}
use Rattle.fuse_ops.proofs.Entering.{Knows, MayEnter}
use Rattle.fuse_ops.proofs.Finding.{child-found, found-linked}
use Rattle.fuse_ops.proofs.Fits.{not-one, place-file, sound-fits}
use Rattle.fuse_ops.proofs.Keeping.{found-child, found-gave}
use Rattle.fuse_ops.proofs.Known.{same-number}
use Rattle.fuse_ops.proofs.Loaded.{given-loaded}
use Rattle.fuse_ops.proofs.Remembering.{gave-keeps}

-- the file of an entry under a name is found there
entry-found : (served : ServedState) (dir : Number) (name : List ℕ) (n : ℕ) (kept : Kept) (file : FileId) → IsTree served.tree → IsSound served → entry_of served.map.entries n ≡ Some kept → kept.place ≡ Linked dir name →
    IsSome (tree_file served.tree file) → Names served n file → (found : Found) × Finds served dir.0 name (Ok found)
entry-found served dir name n kept file is sound e place there (is_root _ _ one same) = absurd (not-one served.map.entries served.map.next n kept sound.numbers e one)
entry-found served dir name n kept file is sound e place there (is_marked _ _ kept' not e' l) =
    absurd (linked-marked kept.place dir name file place (ap (λ (k : Kept). k.place) (some-same (entry_of served.map.entries n) kept kept' e e') ∙ l))
entry-found served dir name n kept file is sound e place there (is_child _ _ kept' above named above_file not e' l up c) =
    let other = ap (λ (k : Kept). k.place) (some-same (entry_of served.map.entries n) kept kept' e e') ∙ l in
    let d : dir.0 ≡ above.0 = linked-dir kept.place dir above name named place other in
    let same : name ≡ named = linked-name kept.place dir above name named place other in
    let child : child_of served.tree above_file name ≡ Some file = ap (child_of served.tree above_file) same ∙ c in (
      record { dir = above_file; file = file },
      record {
        dir_file = Some above_file;
        located = subst (λ (m : ℕ). IsFileOf served.tree served.map.entries m above_file) (sym d) up;
        found = (refl, child-found served.tree above_file file name is child, there);
      },
    )

-- a name that has a number gives a file
pub has-found : (served : ServedState) (dir : Number) (name : List ℕ) (number : Number) → IsTree served.tree → IsSound served → Some number ≡ option_map number_of_kept (entry_at served.map.entries dir.0 name) → (found : Found) × Finds served dir.0 name (Ok found)
has-found served dir name number is sound has = in_ (entry_at served.map.entries dir.0 name) refl has where
  in_ : (o : Option Kept) → entry_at served.map.entries dir.0 name ≡ o → Some number ≡ option_map number_of_kept o → (found : Found) × Finds served dir.0 name (Ok found)
  in_ None e h = absurd (let none : ⊥ = cc in none)
  in_ (Some kept) e h =
      let entry : entry_of served.map.entries kept.number.0 ≡ Some kept = entry_of-first served.map.entries 2 served.map.next (stands_at dir.0 name) kept sound.numbers e in
      let place = stands-place dir.0 name kept (first-passes served.map.entries (stands_at dir.0 name) kept e) in
      let named = sound.names_a_file kept.number.0 (some-IsSome (entry_of served.map.entries kept.number.0) kept entry) in
      entry-found served dir name kept.number.0 kept named.0 is sound entry place named.2 named.1

-- and may be entered where nothing stands against its number: as the code meets it
pub again-may : (served now : ServedState) (dir : Number) (name : List ℕ) (number : Number) → served ≡ now → Knows served → Some number ≡ option_map number_of_kept (entry_at now.map.entries dir.0 name) → give_fault served.map dir.0 name ≡ None →
    (found : Found) × MayEnter served dir name found
again-may served now dir name number same knows has clear =
    let found = has-found served dir name number knows.0 knows.1 (subst (λ (s : ServedState). Some number ≡ option_map number_of_kept (entry_at s.map.entries dir.0 name)) (sym same) has) in
    (found.0, record { is_tree = knows.0; sound = knows.1; right = knows.2; loaded = knows.3; finds = found.1; clear = clear })

-- the entry of a file that was found answers the lookup
pub found-looks_up : (old : ServedState) (dir : Number) (name : List ℕ) (found : Found) (answer : Answer) (new : ServedState) → Finds old dir.0 name (Ok found) → GivesEntry old dir name found.file answer new → LooksUp old dir name answer new
found-looks_up old dir name found answer new finds gives = record {
  dir_file = finds.dir_file;
  located = finds.located;
  gives = subst (λ (r : Result FileId Errno). GivesFound old dir name r answer new) (sym finds.found.1) gives;
}

-- what stands against a number is never that memory ran out
pub fault-refusal : (map : MapState) (dir : ℕ) (name : List ℕ) (fault : GiveFault) → give_fault map dir name ≡ Some fault → IsGiveRefusal map dir name fault
fault-refusal map dir name NoNumber e = e
fault-refusal map dir name TooMany e = e
fault-refusal map dir name NoMemory e = absurd (in_ (entry_at map.entries dir name) e) where
  full : (b : Bool) → (if b then Some TooMany else None) ≡ Some NoMemory → ⊥
  full b h = elim b as (λ v. (if v then Some TooMany else None) ≡ Some NoMemory → ⊥) [ true ↦ (λ k. let none : ⊥ = cc in none) | false ↦ (λ k. let none : ⊥ = cc in none) ] h

  last : (b : Bool) → (if b then Some NoNumber else None) ≡ Some NoMemory → ⊥
  last b h = elim b as (λ v. (if v then Some NoNumber else None) ≡ Some NoMemory → ⊥) [ true ↦ (λ k. let none : ⊥ = cc in none) | false ↦ (λ k. let none : ⊥ = cc in none) ] h

  in_ : (o : Option Kept) → give_fault_at map o ≡ Some NoMemory → ⊥
  in_ (Some kept) h = full (nat_le greatest_count kept.count) h
  in_ None h = last (nat_le end_of_numbers map.next) h

module _ (old : ServedState) (dir : Number) (name : List ℕ) (found : Found) (may : MayEnter old dir name found) (map : MapState) (number : Number) (is : number ≡ number_given old.map dir.0 name) (made : map ≡ given old.map dir name) where
  gave : Gave old.tree old.map map number.0 found.file
  gave = subst (λ (m : MapState). Gave old.tree old.map m number.0 found.file) (sym made)
      (subst (λ (n : Number). Gave old.tree old.map (given old.map dir name) n.0 found.file) (sym is) (found-gave old dir name found may.is_tree may.sound may.finds may.clear))

  -- the number is not the root's, and names the file, which is linked
  pub entered-other : number.0 ≡ 1 → ⊥
  entered-other one = let low : 2 ≤ number.0 = gave.low in omega arith

  pub entered-names : IsFileOf old.tree map.entries number.0 found.file
  entered-names = gave.names

  pub entered-linked : is_unlinked old.tree found.file ≡ false
  entered-linked = found-linked old.tree found.dir found.file name (ap (λ (o : Option FileId). found_in old.tree o name) (sym may.finds.found.0) ∙ may.finds.found.1)

  -- its attributes are told
  pub told-looks_up : (attr : Attr) (new : ServedState) → file_attr old.tree found.file ≡ Some attr → new ≡ served_over old.tree (record map { loaded = loaded_told map number attr }) → LooksUp old dir name (Entry number attr) new
  told-looks_up attr new is_attr after = found-looks_up old dir name found (Entry number attr) new may.finds (
    may.clear,
    is,
    is_attr,
    record {
      plainly = ap plain after ∙ ap (λ (m : MapState). plain (served_over old.tree m)) made;
      bad_items = ap (λ (s : ServedState). s.map.bad_items) after ∙ ap (λ (m : MapState). m.bad_items) made;
    },
  )

  loaded-same : map.loaded ≡ old.map.loaded
  loaded-same = ap (λ (m : MapState). m.loaded) made ∙ (given-loaded old.map dir name).0

  -- the file is not loaded where its number is not
  entered-unloaded : attr_of map.loaded number.0 ≡ None → IsBacked old.tree found.file → IsUnloaded old found.file
  entered-unloaded none backed = (
    backed,
    λ n names.
        let same : n ≡ number.0 = same-number (served_over old.tree map) may.is_tree gave.sound n number.0 found.file (gave-keeps old.tree old.map map number.0 found.file may.sound gave n found.file names) gave.names in
        subst (λ (m : ℕ). attr_of old.map.loaded m ≡ None) (sym same) (ap (λ (xs : List LoadedAttr). attr_of xs number.0) (sym loaded-same) ∙ none),
  )

  -- or the backing failed, and the count was taken back
  pub failed-looks_up : (new : ServedState) → new ≡ old → attr_of map.loaded number.0 ≡ None → IsBacked old.tree found.file → LooksUp old dir name (Error EIO) new
  failed-looks_up new same none backed = found-looks_up old dir name found (Error EIO) new may.finds (inr (refl, may.clear, entered-unloaded none backed), same)

  -- a number whose place has an entry named the file before
  named-before : (was : Number) → Some was ≡ option_map number_of_kept (entry_at old.map.entries dir.0 name) → Names old number.0 found.file
  named-before was has = in_ (entry_at old.map.entries dir.0 name) refl has where
    at : IsFileOf old.tree old.map.entries dir.0 found.dir
    at = subst (IsLocated old dir.0) (may.finds).found.0 (may.finds).located

    child : child_of old.tree found.dir name ≡ Some found.file
    child = found-child old.tree found.dir found.file name (ap (λ (o : Option FileId). found_in old.tree o name) (sym (may.finds).found.0) ∙ (may.finds).found.1)

    in_ : (o : Option Kept) → entry_at old.map.entries dir.0 name ≡ o → Some was ≡ option_map number_of_kept o → Names old number.0 found.file
    in_ None e h = absurd (let none : ⊥ = cc in none)
    in_ (Some kept) e h =
        let same : number.0 ≡ kept.number.0 = ap (λ (n : Number). n.0) is ∙ ap (λ (o : Option Kept). (option_map_or number_of_kept o (record { 0 = old.map.next })).0) e in
        subst (λ (n : ℕ). Names old n found.file) (sym same) (place-file old.tree old.map.next old.map.entries (sound-fits old may.sound) dir.0 kept found.dir found.file name at child e)

  -- for a number that is loaded the backing is not asked
  pub loaded-known : (was : Number) (attr : Attr) (will : Option Bool) → Some was ≡ option_map number_of_kept (entry_at old.map.entries dir.0 name) → IsSome (attr_of map.loaded number.0) → IsAsKnown (FindsUnloaded old dir name) (Entry number attr) will
  loaded-known was attr will has loaded = unasked-known (FindsUnloaded old dir name) (Entry number attr) will
      (λ f.
      let none = (f.unloaded).1 number.0 (subst (λ (x : FileId). Names old number.0 x) (sym (finds-one old dir name found may.finds f)) (named-before was has)) in
      let some : IsSome {T = Attr} None = subst (λ (o : Option Attr). IsSome o) (ap (λ (xs : List LoadedAttr). attr_of xs number.0) loaded-same ∙ none) loaded in
      let no : ⊥ = cc in no)
      (λ e. let none : ⊥ = cc in none)

  -- and for one that isn't it is
  pub asked-known : (file : FileId) (attr : Attr) (will : Option Bool) → file ≡ found.file → (will ≡ Some false → IsBacked old.tree file → ⊥) → IsAsKnown (FindsUnloaded old dir name) (Entry number attr) will
  asked-known file attr will same told = told-known old dir name found (Entry number attr) will may.finds (λ k b. told k (subst (λ (x : FileId). IsBacked old.tree x) (sym same) b)) (λ e. let none : ⊥ = cc in none)

-- the number may not be held more often
pub fault-looks_up : (old : ServedState) (dir : Number) (name : List ℕ) (number : Number) (fault : GiveFault) (new : ServedState) → Knows old → Some number ≡ option_map number_of_kept (entry_at old.map.entries dir.0 name) →
    give_fault old.map dir.0 name ≡ Some fault → new ≡ old → LooksUp old dir name (Error (errno_of fault)) new
fault-looks_up old dir name number fault new knows has e same =
    let found = has-found old dir name number knows.0 knows.1 has in
    found-looks_up old dir name found.0 (Error (errno_of fault)) new found.1 (inl (fault, fault-refusal old.map dir.0 name fault e, refl), same)
