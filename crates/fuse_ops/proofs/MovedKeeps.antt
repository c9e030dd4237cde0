-- A file moves to another name: what that asks of the tree and of the numbers, and what is remembered and loaded then.
use Rattle.std.proofs.Common.{◌≡◌, ℕ, Bool, true, false, ◌&&◌, not, List, Option, Some, None, Result, Ok, Err, refl, sym, ap, ◌∙◌, subst, inl, inr, ◌⊎◌}
use Rattle.std.specs.Prelude.{IfSome, if◌then◌else◌, ◌↔◌}
use Rattle.std.specs.List.{filter, list_any}
use Rattle.std.specs.Option.{option_map, option_map_or}
use Rattle.eden_base.proofs.MemberLemmas.{some-IsSome, first-passes}
use Rattle.eden_base.specs.declared.attr.Kind.{Kind}
use Rattle.eden_base.specs.declared.attr.Kind.TheVariants.{Dir}
use Rattle.eden_base.specs.declared.errno.Errno.{Errno}
use Rattle.eden_base.specs.declared.errno.Errno.TheVariants.{EISDIR, ENOTDIR, ENOTEMPTY}
use Rattle.eden_base.specs.declared.number.FileId.{FileId}
use Rattle.eden_base.specs.declared.number.Number.{Number}
use Rattle.manifest.specs.Tree.{Tree, IsTree, child_of, is_dir, kind_of}
use Rattle.checkout.specs.ChangedTree.{has_links, is_empty_dir}
use Rattle.checkout.specs.RenamedTree.{can_replace, renamed, IsAtOrAbove}
use Rattle.entry_table.proofs.EntryLemmas.{entry_of-first}
use Rattle.entry_table.proofs.FileLemmas.{IsFileOf-same, linked-child}
use Rattle.entry_table.proofs.Places.{stands-place}
use Rattle.entry_table.specs.Entries.{entry_at, entry_of, file_remembered, is_kept, number_of_kept, stands_at, IsFileOf, IsLinked}
use Rattle.entry_table.specs.declared.kept.Kept.{Kept}
use Rattle.fuse_wire.specs.declared.reply.Answer.{Answer}
use Rattle.fuse_wire.specs.declared.reply.Answer.TheVariants.{Done, Error}
use Rattle.inode_map.proofs.Moving.{free-way}
use Rattle.inode_map.specs.InodeMap.{MapState, MayGiveWay, loaded_number, left_of_use, relinked}
use Rattle.inode_map.specs.declared.loaded.LoadedAttr.{LoadedAttr}
use Rattle.fuse_ops.specs.Above.{is_at_or_above}
use Rattle.fuse_ops.specs.Answers.{Effect, against_replacing, against_rmdir, against_unlink, is_there, movable, moves, moves_between, moves_to}
use Rattle.fuse_ops.specs.Changes.{KeepsNames, MayLose, MayMove}
use Rattle.fuse_ops.specs.Served.{ServedState, name_moved, name_taken, plain}
use Rattle.fuse_ops.specs.Soundness.{IsSound, AreLoaded, AreRemembered}
use Rattle.fuse_ops.specs.Work.{FindsMovable, IsSamePlainly, MayTakeName, Moves, MovesName, at_once}
use Rattle.fuse_ops.specs.declared.served.moves.Movable.{Movable}
use Rattle.fuse_ops.proofs.Fits.{sound-fits, not-one, place-file}
use Rattle.fuse_ops.proofs.GoingUp.{above-tells}
use Rattle.fuse_ops.proofs.Loaded.{left_with-loaded, plainly-loaded, stays-loaded}
use Rattle.fuse_ops.proofs.Making.{sound-plainly}
use Rattle.fuse_ops.proofs.Movable.{Goes, left, may-move, movable-found, replaced-not_full, not_there}
use Rattle.fuse_ops.proofs.MovingLaw.{moving-keeps}
use Rattle.fuse_ops.proofs.Remembering.{left_with-remembers, plainly-remembers, stays-remembers}
use Rattle.fuse_ops.proofs.Taking.{taken-no_kids}

-- ---- nothing is answered at once

-- the file is not there already, and may take the name
pub record Waits (tree : Tree) (found : Movable) (to_name : List ℕ) : Type 0 where
  pub other : is_there (child_of tree found.to_dir to_name) found.file ≡ false
  pub fits : against_replacing tree found.file (child_of tree found.to_dir to_name) ≡ None

pub waits-found : (tree : Tree) (found : Movable) (to_name : List ℕ) → at_once tree found to_name ≡ None → Waits tree found to_name
waits-found tree found to_name e = in_ (is_there (child_of tree found.to_dir to_name) found.file) (against_replacing tree found.file (child_of tree found.to_dir to_name)) refl refl e where
  in_ : (b : Bool) (o : Option Errno) → is_there (child_of tree found.to_dir to_name) found.file ≡ b → against_replacing tree found.file (child_of tree found.to_dir to_name) ≡ o →
      (if b then Some Done else option_map (λ (errno : Errno). Error errno) o) ≡ None → Waits tree found to_name
  in_ true o t a h = absurd (let none : ⊥ = cc in none)
  in_ false (Some errno) t a h = absurd (let none : ⊥ = cc in none)
  in_ false None t a h = record { other = t; fits = a }

-- the move, by its two directories
pub goes-found : (tree : Tree) (found : Movable) (name to_name : List ℕ) → movable tree found.dir name found.to_dir ≡ Ok found.file → Waits tree found to_name → Goes tree (Some found.dir) name (Some found.to_dir) to_name found.dir found.to_dir
goes-found tree found name to_name m w = record {
  from_is = refl;
  to_is = refl;
  file = found.file;
  movable = movable-found tree found.dir name found.to_dir found.file m;
  other = not_there (child_of tree found.to_dir to_name) found.file w.other;
  not_full = λ replaced c. replaced-not_full tree found.file replaced (ap (against_replacing tree found.file) (sym c) ∙ w.fits);
}

-- ---- what the tree is asked

replaces_dir : (a b : Bool) → (if a then (if b then Some ENOTEMPTY else None) else Some ENOTDIR) ≡ None → (a && not b) ≡ true
replaces_dir true true h = absurd (let none : ⊥ = cc in none)
replaces_dir true false h = refl
replaces_dir false b h = absurd (let none : ⊥ = cc in none)

replaces_file : (a : Bool) → (if a then Some EISDIR else None) ≡ None → not a ≡ true
replaces_file true h = absurd (let none : ⊥ = cc in none)
replaces_file false h = refl

-- what nothing stands against may be replaced
pub may_replace : (tree : Tree) (file other : FileId) → against_replacing tree file (Some other) ≡ None → can_replace tree file other ≡ true
may_replace tree file other e = in_ (is_dir (kind_of tree file)) e where
  in_ : (b : Bool) → (if b then against_rmdir tree other else against_unlink tree other) ≡ None → (if b then is_empty_dir tree other else not (is_dir (kind_of tree other))) ≡ true
  in_ true h = replaces_dir (is_dir (kind_of tree other)) (has_links tree other) h
  in_ false h = replaces_file (is_dir (kind_of tree other)) h

-- whichever file stands there
pub may_replace_any : (tree : Tree) (file : FileId) (o : Option FileId) → against_replacing tree file o ≡ None → IfSome o (λ other. can_replace tree file other ≡ true)
may_replace_any tree file None e = tt
may_replace_any tree file (Some other) e = may_replace tree file other e

-- ---- what the map becomes

-- entries, what is loaded and what is remembered stay, or what left with its entry leaves them
pub StaysOrLeaves : MapState → MapState → Type 0
StaysOrLeaves old new =
    ((new.entries ≡ old.entries) × (new.loaded ≡ old.loaded) × (new.remembered ≡ old.remembered))
    ⊎ ((new.loaded ≡ filter (λ (l : LoadedAttr). is_kept new.entries (loaded_number l)) old.loaded)
    × (new.remembered ≡ filter (λ (x : ℕ × FileId). is_kept new.entries x.0) old.remembered))

taken-stays : (map : MapState) (to : Number) (to_name : List ℕ) (file : FileId) → StaysOrLeaves map (name_taken map to to_name file)
unfolding StaysOrLeaves
taken-stays map to to_name file = in_ (entry_at map.entries to.0 to_name) where
  in_ : (o : Option Kept) → StaysOrLeaves map (option_map_or (λ (kept : Kept). Rattle.inode_map.specs.InodeMap.unlinked map kept.number.0 file) o map)
  in_ None = inl (refl, refl, refl)
  in_ (Some kept) = inr (refl, refl)

pub moved-stays : (map : MapState) (dir : Number) (name : List ℕ) (to : Number) (to_name : List ℕ) (file : Option FileId) → StaysOrLeaves map (name_moved map dir name to to_name file)
unfolding StaysOrLeaves
moved-stays map dir name to to_name file = in_ (entry_at map.entries dir.0 name) file where
  in_ : (o : Option Kept) (r : Option FileId) → StaysOrLeaves map (option_map_or (λ (kept : Kept). relinked map kept.number.0 to to_name file) o (option_map_or (name_taken map to to_name) r map))
  in_ (Some kept) r = inr (refl, refl)
  in_ None None = inl (refl, refl, refl)
  in_ None (Some other) = taken-stays map to to_name other

-- ---- what is known then fits together

pub record KnowsWell (served : ServedState) : Type 0 where
  pub sound : IsSound served
  pub remembered : AreRemembered served
  pub loaded : AreLoaded served

moved_in : (served new : ServedState) → KeepsNames served new → ((file : FileId) → new.tree.files ≡ served.tree.files) → StaysOrLeaves served.map new.map → AreRemembered served → AreLoaded served → KnowsWell new
unfolding StaysOrLeaves
moved_in served new keeps files (inl (e, l, r)) remembered loaded = record {
  sound = keeps.sound;
  remembered = stays-remembers served new e r keeps.sound keeps.names remembered;
  loaded = stays-loaded served new (λ g c h. ap (λ fs. Rattle.std.specs.FinMap.get fs g.0) (files g) ∙ h) e l keeps.sound keeps.names loaded;
}
moved_in served new keeps files (inr (l, r)) remembered loaded = record {
  sound = keeps.sound;
  remembered = left_with-remembers served new new.map.entries refl r keeps.sound keeps.names remembered;
  loaded = left_with-loaded served new new.map.entries (λ g c h. ap (λ fs. Rattle.std.specs.FinMap.get fs g.0) (files g) ∙ h) refl l keeps.sound keeps.names loaded;
}

pub moved-knows : (served : ServedState) (number : Number) (dir : FileId) (name : List ℕ) (to : Number) (to_dir : FileId) (to_name : List ℕ) (file : FileId) (map : MapState) (tree : Tree) →
    MayMove served number dir name to to_dir to_name file → map ≡ name_moved served.map number name to to_name (child_of served.tree to_dir to_name) → tree ≡ renamed served.tree dir name to_dir to_name →
    AreRemembered served → AreLoaded served → KnowsWell (record { map = map; tree = tree })
moved-knows served number dir name to to_dir to_name file map tree may m t remembered loaded =
    subst KnowsWell (λ i. record { map = sym m i; tree = sym t i })
    (moved_in served _ (moving-keeps served number dir name to to_dir to_name file may) (λ g. refl) (moved-stays served.map number name to to_name (child_of served.tree to_dir to_name)) remembered loaded)

-- ---- what the numbers are asked

module _ (served : ServedState) (number : Number) (dir : FileId) (name : List ℕ) (to : Number) (to_dir : FileId) (to_name : List ℕ) (file : FileId) (may : MayMove served number dir name to to_dir to_name file) where
  abbrev es : List Kept
  es = served.map.entries

  -- the new name's file may lose it
  pub loses : (replaced : FileId) → child_of served.tree to_dir to_name ≡ Some replaced → MayLose served to to_dir to_name replaced
  loses replaced stood = record { is_tree = may.is_tree; sound = may.sound; at = may.to_at; child = stood; not_full = may.not_full replaced stood }

  -- a file stands where an entry does
  stood-child : (other : Kept) → entry_at served.map.entries to.0 to_name ≡ Some other → child_of served.tree to_dir to_name ≡ None → ⊥
  stood-child other at none =
      let entry : entry_of es other.number.0 ≡ Some other = entry_of-first es 2 served.map.next (stands_at to.0 to_name) other (may.sound).numbers at in
      let g = (may.sound).names_a_file other.number.0 (some-IsSome (entry_of es other.number.0) other entry) in
      let c = linked-child served.tree es other.number.0 other to to_name g.0 (not-one es served.map.next other.number.0 other (may.sound).numbers entry) entry (stands-place to.0 to_name other (first-passes es (stands_at to.0 to_name) other at)) g.1 in
      let same : c.dir_file ≡ to_dir = IsFileOf-same served.tree es to.0 c.dir_file to_dir c.at may.to_at in
      let some : child_of served.tree to_dir to_name ≡ Some g.0 = ap (λ (y : FileId). child_of served.tree y to_name) (sym same) ∙ c.child in
      let x : ⊥ = cc in x

  module _ (kept : Kept) (there : entry_at served.map.entries number.0 name ≡ Some kept) where
    entry : entry_of es kept.number.0 ≡ Some kept
    entry = entry_of-first es 2 served.map.next (stands_at number.0 name) kept (may.sound).numbers there

    pub moved-linked : IsLinked served.map.entries kept.number.0
    moved-linked = (kept, number, name, entry, stands-place number.0 name kept (first-passes es (stands_at number.0 name) kept there))

    own : IsFileOf served.tree es kept.number.0 file
    own = place-file served.tree served.map.next es (sound-fits served may.sound) number.0 kept dir file name may.at may.child there

    -- what stands at the new name gives way
    pub moved-gives_way : (r : Option FileId) → child_of served.tree to_dir to_name ≡ r → MayGiveWay served.map.entries kept.number.0 r (entry_at served.map.entries to.0 to_name)
    moved-gives_way r stood = in_ (entry_at es to.0 to_name) refl r stood where
      in_ : (o : Option Kept) → entry_at es to.0 to_name ≡ o → (q : Option FileId) → child_of served.tree to_dir to_name ≡ q → MayGiveWay es kept.number.0 q o
      in_ None at q c = free-way es kept.number.0 q None refl
      in_ (Some other) at (Some replaced) c = (
        λ same.
            let names = place-file served.tree served.map.next es (sound-fits served may.sound) to.0 other to_dir replaced to_name may.to_at c at in
            let is : replaced ≡ file = IsFileOf-same served.tree es kept.number.0 replaced file (subst (λ (n : ℕ). IsFileOf served.tree es n replaced) same names) own in
            may.other (c ∙ ap (λ (f : FileId). Some f) is),
        taken-no_kids served to to_dir to_name replaced (loses replaced c) other at,
      )
      in_ (Some other) at None c = absurd (stood-child other at c)

-- ---- as the code meets it

-- what the fields say, and what was asked of the whole
pub may-take : (served now : ServedState) (dir : Number) (found : Movable) (name : List ℕ) (to : Number) (to_name : List ℕ) → served ≡ now → IsTree served.tree → IsSound served → MayTakeName now dir found name to to_name →
    MayMove served dir found.dir name to found.to_dir to_name found.file
unfolding goes-found
may-take served now dir found name to to_name same is sound asked =
    let m : MayTakeName served dir found name to to_name = subst (λ (s : ServedState). MayTakeName s dir found name to to_name) (sym same) asked in
    may-move served dir found.dir name to found.to_dir to_name (Some found.dir) (Some found.to_dir) is sound m.at m.to_at
    (goes-found served.tree found name to_name m.movable (waits-found served.tree found to_name m.waits))

pub fits-take : (served now : ServedState) (dir : Number) (found : Movable) (name : List ℕ) (to : Number) (to_name : List ℕ) → served ≡ now → MayTakeName now dir found name to to_name →
    against_replacing served.tree found.file (child_of served.tree found.to_dir to_name) ≡ None
fits-take served now dir found name to to_name same asked =
    let m : MayTakeName served dir found name to to_name = subst (λ (s : ServedState). MayTakeName s dir found name to to_name) (sym same) asked in
    (waits-found served.tree found to_name m.waits).fits

-- the number that was found is an entry's
pub numbered : (es : List Kept) (dir : ℕ) (name : List ℕ) (n : Number) → Some n ≡ option_map number_of_kept (entry_at es dir name) → (kept : Kept) × (entry_at es dir name ≡ Some kept) × (kept.number ≡ n)
numbered es dir name n e = in_ (entry_at es dir name) refl e where
  in_ : (o : Option Kept) → entry_at es dir name ≡ o → Some n ≡ option_map number_of_kept o → (kept : Kept) × (entry_at es dir name ≡ Some kept) × (kept.number ≡ n)
  in_ None at h = absurd (let none : ⊥ = cc in none)
  in_ (Some kept) at h = (kept, at, let same : kept.number ≡ n = (let s : Some n ≡ Some kept.number = h in let r : n ≡ kept.number = cc in sym r) in same)

-- the file that is remembered for a name's number stands under the name
pub recalled-child : (served now : ServedState) (from : Number) (dir : FileId) (name : List ℕ) (n : Number) (file : FileId) → served ≡ now → IsSound served → AreRemembered served → IsFileOf now.tree now.map.entries from.0 dir →
    Some n ≡ option_map number_of_kept (entry_at now.map.entries from.0 name) → file_remembered served.map.remembered n.0 ≡ Some file → child_of now.tree dir name ≡ Some file
recalled-child served now from dir name n file same sound remembered above is told =
    let es = served.map.entries in
    let at : IsFileOf served.tree es from.0 dir = subst (λ (s : ServedState). IsFileOf s.tree s.map.entries from.0 dir) (sym same) above in
    let k = numbered es from.0 name n (is ∙ ap (λ (s : ServedState). option_map number_of_kept (entry_at s.map.entries from.0 name)) (sym same)) in
    let kept = k.0 in
    let entry : entry_of es kept.number.0 ≡ Some kept = entry_of-first es 2 served.map.next (stands_at from.0 name) kept sound.numbers k.1 in
    let names = remembered kept.number.0 file (ap (λ (x : Number). file_remembered served.map.remembered x.0) k.2 ∙ told) in
    let c = linked-child served.tree es kept.number.0 kept from name file (not-one es served.map.next kept.number.0 kept sound.numbers entry) entry (stands-place from.0 name kept (first-passes es (stands_at from.0 name) kept k.1)) names in
    let is_dir : c.dir_file ≡ dir = IsFileOf-same served.tree es from.0 c.dir_file dir c.at at in
    sym (ap (λ (s : ServedState). child_of s.tree dir name) same) ∙ ap (λ (y : FileId). child_of served.tree y name) (sym is_dir) ∙ c.child

-- a file without a number moved
pub moved-none : (map : MapState) (dir : Number) (name : List ℕ) (to : Number) (to_name : List ℕ) (r q : Option FileId) → entry_at map.entries dir.0 name ≡ None → r ≡ q → option_map_or (name_taken map to to_name) q map ≡ name_moved map dir name to to_name r
moved-none map dir name to to_name r q none same =
    sym (ap (λ (o : Option Kept). option_map_or (λ (kept : Kept). relinked map kept.number.0 to to_name r) o (option_map_or (name_taken map to to_name) r map)) none ∙ ap (λ (x : Option FileId). option_map_or (name_taken map to to_name) x map) same)

-- a number moved, in a map with room
pub moved-some : (map ready now : MapState) (dir : Number) (name : List ℕ) (to : Number) (to_name own : List ℕ) (n : Number) (r q : Option FileId) → ready ≡ record map { spare = 1 } →
    Some n ≡ option_map number_of_kept (entry_at map.entries dir.0 name) → own ≡ to_name → q ≡ r → now ≡ relinked ready n.0 to own q → now ≡ name_moved map dir name to to_name r
moved-some map ready now dir name to to_name own n r q room at is same made =
    let k = numbered map.entries dir.0 name n at in
    made
    ∙ ap (λ (m : MapState). relinked m n.0 to own q) room
    ∙ ap (λ (b : List ℕ). relinked map n.0 to b q) is
    ∙ ap (relinked map n.0 to to_name) same
    ∙ ap (λ (x : Number). relinked map x.0 to to_name r) (sym k.2)
    ∙ sym (ap (λ (o : Option Kept). option_map_or (λ (kept : Kept). relinked map kept.number.0 to to_name r) o (option_map_or (name_taken map to to_name) r map)) k.1)

-- what is known stays where room was made
pub spared-knows : (served : ServedState) (map : MapState) (tree : Tree) → map ≡ record served.map { spare = 1 } → tree ≡ served.tree → IsSound served → AreRemembered served → AreLoaded served → KnowsWell (record { map = map; tree = tree })
spared-knows served map tree room same sound remembered loaded =
    let e : plain (record { map = map; tree = tree }) ≡ plain served = (λ i. plain (record { map = room i; tree = same i })) in
    record {
      sound = sound-plainly served (record { map = map; tree = tree }) e sound;
      remembered = plainly-remembers served (record { map = map; tree = tree }) e (ap (λ (m : MapState). m.remembered) room) remembered;
      loaded = plainly-loaded served (record { map = map; tree = tree }) e (ap (λ (m : MapState). m.loaded) room) loaded;
    }

-- ---- what the move comes to

-- what is answered at once changes nothing
pub once-moves : (served : ServedState) (dir : Number) (found : Movable) (name : List ℕ) (to : Number) (to_name : List ℕ) (answer : Answer) → IsTree served.tree → FindsMovable served dir.0 name to.0 (Ok found) →
    at_once served.tree found to_name ≡ Some answer → Moves served dir name to to_name answer served
once-moves served dir found name to to_name answer is finds e = record {
  dir_file = finds.dir_file;
  to_file = finds.to_file;
  located = finds.located;
  to_located = finds.to_located;
  moves = in_ (is_there (child_of served.tree found.to_dir to_name) found.file) (against_replacing served.tree found.file (child_of served.tree found.to_dir to_name)) refl refl e;
} where
  comes : moves_between served.tree finds.dir_file name finds.to_file to_name ≡ moves_to served.tree found.dir name found.to_dir to_name (Ok found.file)
  comes =
      ap (λ (o : Option FileId). moves_between served.tree o name finds.to_file to_name) (finds.found).0
      ∙ ap (λ (o : Option FileId). moves_between served.tree (Some found.dir) name o to_name) (finds.found).1
      ∙ ap (moves_to served.tree found.dir name found.to_dir to_name) (finds.found).2

  same : IsSamePlainly served served
  same = record { plainly = refl; bad_items = refl }

  in_ : (b : Bool) (o : Option Errno) → is_there (child_of served.tree found.to_dir to_name) found.file ≡ b → against_replacing served.tree found.file (child_of served.tree found.to_dir to_name) ≡ o →
      (if b then Some Done else option_map (λ (errno : Errno). Error errno) o) ≡ Some answer → MovesName served dir name to to_name (moves_between served.tree finds.dir_file name finds.to_file to_name) answer served
  in_ true o t a h =
      let r : moves_between served.tree finds.dir_file name finds.to_file to_name ≡ Ok (left served.tree) = comes ∙ ap (λ (b : Bool). if b then Ok (left served.tree) else moves served.tree found.dir name found.to_dir to_name (against_replacing served.tree found.file (child_of served.tree found.to_dir to_name))) t in
      let is_done : answer ≡ Done = cc in
      subst (λ (x : Result Effect Errno). MovesName served dir name to to_name x answer served) (sym r) (inl (is_done, is, same))
  in_ false (Some errno) t a h =
      let r : moves_between served.tree finds.dir_file name finds.to_file to_name ≡ Err errno =
      comes ∙ ap (λ (b : Bool). if b then Ok (left served.tree) else moves served.tree found.dir name found.to_dir to_name (against_replacing served.tree found.file (child_of served.tree found.to_dir to_name))) t
      ∙ ap (moves served.tree found.dir name found.to_dir to_name) a in
      let is_error : answer ≡ Error errno = cc in
      subst (λ (x : Result Effect Errno). MovesName served dir name to to_name x answer served) (sym r) (is_error, same)
  in_ false None t a h = absurd (let none : ⊥ = cc in none)

-- ---- above

same_test : (X : Type 0) (a b : Bool) → (a ≡ true ↔ X) → (b ≡ true ↔ X) → a ≡ b
same_test X true b one other = sym (other.1 (one.0 refl))
same_test X false true one other = one.1 (other.0 refl)
same_test X false false one other = refl

-- a directory is another or above it, as the table says
pub holds-is : (tree : Tree) → IsTree tree → (file dir : FileId) (told : Bool) → (told ≡ true ↔ IsAtOrAbove tree file dir) → kind_of tree file ≡ Some Dir → told ≡ (is_dir (kind_of tree file) && is_at_or_above tree file dir)
holds-is tree is file dir told above kind =
    same_test (IsAtOrAbove tree file dir) told (is_at_or_above tree file dir) above (above-tells tree is file dir)
    ∙ sym (ap (λ (k : Option Kind). is_dir k && is_at_or_above tree file dir) kind)
