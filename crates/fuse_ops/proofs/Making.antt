-- What making a file comes to: why a place is free, and what stands against its number.
use Rattle.std.proofs.Common.{◌≡◌, ℕ, ◌<◌, ◌≤◌, Bool, true, false, List, Option, Some, None, is_some, Result, Ok, Err, refl, sym, ap, ◌∙◌, subst, inl, inr, arith}
use Rattle.std.specs.Prelude.{nat_le, if◌then◌else◌}
use Rattle.std.proofs.lemmas.Bool.Decides.{nat_tests}
use Rattle.eden_base.proofs.MemberLemmas.{some-IsSome, first-passes}
use Rattle.eden_base.specs.Limits.{end_of_files, end_of_numbers}
use Rattle.eden_base.specs.declared.attr.Attr.{Attr}
use Rattle.eden_base.specs.declared.attr.Kind.{Kind}
use Rattle.eden_base.specs.declared.attr.Kind.TheVariants.{Dir, File, Link}
use Rattle.eden_base.specs.declared.attr.MadeKind.{MadeKind}
use Rattle.eden_base.specs.declared.attr.Perm.{Perm}
use Rattle.eden_base.specs.declared.errno.Errno.{Errno}
use Rattle.eden_base.specs.declared.errno.Errno.TheVariants.{ENOENT, EEXIST, ENOSPC}
use Rattle.eden_base.specs.declared.number.FileId.{FileId}
use Rattle.eden_base.specs.declared.number.Number.{Number}
use Rattle.checkout.proofs.CreateLaws.{child_of-created}
use Rattle.manifest.specs.Tree.{Tree, IsTree, child_of, kind_of}
use Rattle.checkout.specs.ChangedTree.{is_unlinked, next_file, created}
use Rattle.entry_table.proofs.EntryLemmas.{entry_of-first}
use Rattle.entry_table.proofs.FileLemmas.{IsFileOf-same, linked-child}
use Rattle.entry_table.proofs.Places.{stands-place}
use Rattle.entry_table.specs.Entries.{stands_at, entry_of, entry_at, IsFileOf}
use Rattle.inode_map.specs.InodeMap.{MapState, give_fault, give_fault_at, given, number_given}
use Rattle.inode_map.specs.declared.inode_map.GiveFault.TheVariants.{NoNumber, NoMemory}
use Rattle.entry_table.specs.declared.kept.Kept.{Kept}
use Rattle.fuse_ops.specs.Answers.{free_in, free_in_dir}
use Rattle.fuse_ops.specs.Changes.{KeepsNames}
use Rattle.fuse_ops.specs.Gifts.{Gave}
use Rattle.fuse_ops.specs.Served.{ServedState, PlainState, plain, IsLocated}
use Rattle.fuse_ops.specs.Soundness.{IsSound}
use Rattle.fuse_ops.specs.Work.{IsFree, IsNextRefusal, IsSamePlainly, MakesIn, Makes}
use Rattle.fuse_ops.proofs.Fits.{Fits, sound-fits, sound-of_use, fits-sound, not-one}
use Rattle.fuse_ops.proofs.GivingLaw.{gives-well}
use Rattle.fuse_ops.proofs.MakingLaw.{carried-made, making-keeps}
use Rattle.entry_table.specs.EntryPlaces.{AreOfUseBut}

-- what is loaded, remembered or made ready is no matter to soundness
pub sound-plainly : (old new : ServedState) → plain new ≡ plain old → IsSound old → IsSound new
sound-plainly old new e sound =
    fits-sound new (subst (λ (p : PlainState). Fits p.tree p.next p.entries) (sym e) (sound-fits old sound))
    (subst (λ (p : PlainState). AreOfUseBut None p.entries) (sym e) (sound-of_use old sound))

-- a directory of the tree where a name is free, with an id left for its file
pub record IsFreePlace (tree : Tree) (above : FileId) (name : List ℕ) : Type 0 where
  pub is_dir : kind_of tree above ≡ Some Dir
  pub reached : is_unlinked tree above ≡ false
  pub free : child_of tree above name ≡ None
  pub fits : tree.next_file < end_of_files

none_of : (o : Option FileId) → is_some o ≡ false → o ≡ None
none_of None e = refl
none_of (Some x) e = absurd (let none : ⊥ = cc in none)

-- what `free_in` looked for
pub free-place : (tree : Tree) (o : Option FileId) (name : List ℕ) (above : FileId) → free_in tree o name ≡ Ok above → (o ≡ Some above) × IsFreePlace tree above name
free-place tree None name above e = absurd (let none : ⊥ = cc in none)
free-place tree (Some dir) name above e = by_kind (kind_of tree dir) refl e where
  by_tests : kind_of tree dir ≡ Some Dir → (a b c : Bool) → is_unlinked tree dir ≡ a → is_some (child_of tree dir name) ≡ b → nat_le end_of_files tree.next_file ≡ c →
      (if a then Err ENOENT else if b then Err EEXIST else if c then Err ENOSPC else Ok dir) ≡ Ok above → (Some dir ≡ Some above) × IsFreePlace tree above name
  by_tests is true b c ea eb ec h = absurd (let none : ⊥ = cc in none)
  by_tests is false true c ea eb ec h = absurd (let none : ⊥ = cc in none)
  by_tests is false false true ea eb ec h = absurd (let none : ⊥ = cc in none)
  by_tests is false false false ea eb ec h =
      let same : dir ≡ above = cc in
      (ap Some same, subst (λ (x : FileId). IsFreePlace tree x name) same (record { is_dir = is; reached = ea; free = none_of (child_of tree dir name) eb; fits = grind (arith, nat_tests) }))

  by_kind : (kind : Option Kind) → kind_of tree dir ≡ kind → free_in_dir tree dir name kind ≡ Ok above → (Some dir ≡ Some above) × IsFreePlace tree above name
  by_kind None k h = absurd (let none : ⊥ = cc in none)
  by_kind (Some File) k h = absurd (let none : ⊥ = cc in none)
  by_kind (Some Link) k h = absurd (let none : ⊥ = cc in none)
  by_kind (Some Dir) k h = by_tests k (is_unlinked tree dir) (is_some (child_of tree dir name)) (nat_le end_of_files tree.next_file) refl refl refl h

-- no number has a place at which nothing stands in the tree
pub free-absent : (served : ServedState) (dir : ℕ) (above : FileId) (name : List ℕ) → IsSound served → IsFileOf served.tree served.map.entries dir above → child_of served.tree above name ≡ None → entry_at served.map.entries dir name ≡ None
free-absent served dir above name sound at free = in_ (entry_at served.map.entries dir name) refl where
  in_ : (o : Option Kept) → entry_at served.map.entries dir name ≡ o → o ≡ None
  in_ None e = refl
  in_ (Some kept) e =
      let entry : entry_of served.map.entries kept.number.0 ≡ Some kept = entry_of-first served.map.entries 2 served.map.next (stands_at dir name) kept sound.numbers e in
      let linked = stands-place dir name kept (first-passes served.map.entries (stands_at dir name) kept e) in
      let g = sound.names_a_file kept.number.0 (some-IsSome (entry_of served.map.entries kept.number.0) kept entry) in
      let c = linked-child served.tree served.map.entries kept.number.0 kept (record { 0 = dir }) name g.0 (not-one served.map.entries served.map.next kept.number.0 kept sound.numbers entry) entry linked g.1 in
      let same : c.dir_file ≡ above = IsFileOf-same served.tree served.map.entries dir c.dir_file above c.at at in
      let there : child_of served.tree above name ≡ Some g.0 = ap (λ (x : FileId). child_of served.tree x name) (sym same) ∙ c.child in
      absurd (let none : ⊥ = cc in none)

-- a name without a number is given the next number, unless none is left
pub clear_next : (map : MapState) (dir : ℕ) (name : List ℕ) → entry_at map.entries dir name ≡ None → map.next < end_of_numbers → give_fault map dir name ≡ None
clear_next map dir name absent few =
    let t : nat_le end_of_numbers map.next ≡ false = grind (arith, nat_tests) in
    ap (give_fault_at map) absent ∙ ap (λ (b : Bool). if b then Some NoNumber else None) t

pub full_next : (map : MapState) (dir : ℕ) (name : List ℕ) → entry_at map.entries dir name ≡ None → end_of_numbers ≤ map.next → give_fault map dir name ≡ Some NoNumber
full_next map dir name absent many =
    let t : nat_le end_of_numbers map.next ≡ true = grind (arith, nat_tests) in
    ap (give_fault_at map) absent ∙ ap (λ (b : Bool). if b then Some NoNumber else None) t

-- a file may be made at a number's name
pub record MayMake (served : ServedState) (dir : Number) (name : List ℕ) (above : FileId) : Type 0 where
  pub is_tree : IsTree served.tree
  pub sound : IsSound served
  pub free : IsFree served dir.0 name (Ok above)

-- as the code meets it: what the fields say, and what was found of the whole
pub may-make : (served now : ServedState) (dir : Number) (name : List ℕ) (above : FileId) → served ≡ now → IsTree served.tree → IsSound served → IsFree now dir.0 name (Ok above) → MayMake served dir name above
may-make served now dir name above same is sound free = record { is_tree = is; sound = sound; free = subst (λ (s : ServedState). IsFree s dir.0 name (Ok above)) (sym same) free }

module _ (served : ServedState) (dir : Number) (name : List ℕ) (above : FileId) (may : MayMake served dir name above) where
  place : ((may.free).dir_file ≡ Some above) × IsFreePlace served.tree above name
  place = free-place served.tree (may.free).dir_file name above (may.free).free

  at : IsFileOf served.tree served.map.entries dir.0 above
  at = subst (IsLocated served dir.0) place.0 (may.free).located

  pub absent : entry_at served.map.entries dir.0 name ≡ None
  absent = free-absent served dir.0 above name may.sound at (place.1).free

  makes_so : (kind : MadeKind) (perm : Perm) (told : Result (Number × Attr) Errno) (new : ServedState) → MakesIn served dir name kind perm (Ok above) told new → Makes served dir name kind perm told new
  makes_so kind perm told new m = record {
    dir_file = (may.free).dir_file;
    located = (may.free).located;
    makes = subst (λ (r : Result FileId Errno). MakesIn served dir name kind perm r told new) (sym (may.free).free) m;
  }

  -- nothing was made
  pub next-refused : (kind : MadeKind) (perm : Perm) (errno : Errno) (new : ServedState) → IsNextRefusal served.map.next errno → IsSamePlainly served new → Makes served dir name kind perm (Err errno) new
  next-refused kind perm errno new (inl (e, many)) same = makes_so kind perm (Err errno) new ((NoNumber, full_next served.map dir.0 name absent many, e), same)
  next-refused kind perm errno new (inr (e, few)) same = makes_so kind perm (Err errno) new ((NoMemory, (absent, clear_next served.map dir.0 name absent few), e), same)

  -- what every number names stays as it was
  pub made-keeps : (kind : MadeKind) (perm : Perm) → KeepsNames served (record served { tree = created served.tree above name kind perm })
  made-keeps kind perm = making-keeps served above name kind perm may.is_tree may.sound (place.1).free

  -- what the daemon knows then fits together
  pub made-gave : (kind : MadeKind) (perm : Perm) → served.map.next < end_of_numbers → IsTree (created served.tree above name kind perm) →
      Gave (created served.tree above name kind perm) served.map (given served.map dir name) (number_given served.map dir.0 name).0 (next_file served.tree)
  made-gave kind perm few is =
      gives-well (record served { tree = created served.tree above name kind perm }) dir name above (next_file served.tree) (record {
        is_tree = is;
        sound = (made-keeps kind perm).sound;
        at = (carried-made served.tree served.map.next served.map.entries above name kind perm may.is_tree (sound-fits served may.sound) (place.1).free).forward dir.0 above at;
        child = child_of-created served.tree above name kind perm;
      }) (clear_next served.map dir.0 name absent few)
