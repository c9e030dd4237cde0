-- When the backing is asked, and that what is known of it beforehand shows in the answer.
use Rattle.std.proofs.Common.{◌≡◌, ℕ, ◌<◌, Bool, true, false, List, [], Option, Some, None, Result, Ok, Err, refl, sym, ap, ◌∙◌, subst, inl, inr, arith}
use Rattle.std.proofs.lemmas.Bool.Decides.{nat_tests}
use Rattle.std.specs.Option.{option_map_or}
use Rattle.std.specs.Prelude.{◌≤◌, nat_le, OnErr, if◌then◌else◌}
use Rattle.eden_base.specs.Limits.{end_of_numbers}
use Rattle.eden_base.specs.declared.attr.Kind.{Kind}
use Rattle.eden_base.specs.declared.attr.Kind.TheVariants.{Dir, File, Link}
use Rattle.eden_base.specs.declared.errno.Errno.{Errno}
use Rattle.eden_base.specs.declared.errno.Errno.TheVariants.{EIO, ENOENT, ENOSPC}
use Rattle.eden_base.specs.declared.number.FileId.{FileId}
use Rattle.eden_base.specs.declared.number.Number.{Number}
use Rattle.manifest.specs.Tree.{Tree, kind_of, child_of}
use Rattle.fuse_wire.specs.Request.{is_ask}
use Rattle.fuse_wire.specs.declared.request.Request.{Request}
use Rattle.fuse_wire.specs.declared.request.Request.TheVariants.{Lookup, Getattr}
use Rattle.fuse_wire.specs.declared.reply.Answer.{Answer}
use Rattle.fuse_wire.specs.declared.reply.Answer.TheVariants.{Error}
use Rattle.entry_table.proofs.FileLemmas.{IsFileOf-same}
use Rattle.entry_table.specs.Entries.{entry_at, IsFileOf}
use Rattle.entry_table.specs.declared.kept.Kept.{Kept}
use Rattle.inode_map.specs.InodeMap.{give_fault, give_fault_at}
use Rattle.inode_map.specs.declared.inode_map.GiveFault.{GiveFault}
use Rattle.inode_map.specs.declared.inode_map.GiveFault.TheVariants.{NoNumber, TooMany, NoMemory}
use Rattle.fuse_ops.specs.Answers.{IsBacked, Deed, find_name, show_file, deed_of, looked_at, found_in, found_in_dir}
use Rattle.fuse_ops.specs.Loading.{FindsUnloaded, ShowsUnloaded, AsksFor, AsksBacking, AsksAs}
use Rattle.fuse_ops.specs.Served.{ServedState, IsLocated, IsUnloaded}
use Rattle.fuse_ops.specs.Work.{errno_of, Finds, GivesEntry, GivesFound, IsAsKnown, LooksUp, Shows, ShowsFile}
use Rattle.fuse_ops.specs.declared.served.Found.{Found}
use Rattle.fuse_ops.proofs.Looking.{looks-ask}

-- no answer is both
pub not-both : false ≡ true → ⊥
not-both e = let none : ⊥ = cc in none

-- ---- EIO is the backing's alone

pub found-not_eio : (tree : Tree) (dir : Option FileId) (name : List ℕ) → found_in tree dir name ≡ Err EIO → ⊥
found-not_eio tree None name e = let none : ⊥ = cc in none
found-not_eio tree (Some dir) name e = by_kind (kind_of tree dir) e where
  by_child : (child : Option FileId) → option_map_or (λ (f : FileId). Ok f) child (Err ENOENT) ≡ Err EIO → ⊥
  by_child None h = let none : ⊥ = cc in none
  by_child (Some f) h = let none : ⊥ = cc in none

  by_kind : (kind : Option Kind) → found_in_dir tree dir name kind ≡ Err EIO → ⊥
  by_kind (Some Dir) h = by_child (child_of tree dir name) h
  by_kind (Some File) h = let none : ⊥ = cc in none
  by_kind (Some Link) h = let none : ⊥ = cc in none
  by_kind None h = let none : ⊥ = cc in none

pub fault-not_eio : (fault : GiveFault) → errno_of fault ≡ EIO → ⊥
fault-not_eio NoNumber e = let none : ⊥ = cc in none
fault-not_eio TooMany e = let none : ⊥ = cc in none
fault-not_eio NoMemory e = let none : ⊥ = cc in none

-- a lookup that is answered EIO asked the backing
pub eio-finds : (old : ServedState) (dir : Number) (name : List ℕ) (answer : Answer) (new : ServedState) → LooksUp old dir name answer new → answer ≡ Error EIO → FindsUnloaded old dir name
eio-finds old dir name answer new l e =
    by_found l.dir_file l.located (found_in old.tree l.dir_file name) refl (subst (λ (a : Answer). GivesFound old dir name (found_in old.tree l.dir_file name) a new) e l.gives) where
      by_entry : (above file : FileId) → IsFileOf old.tree old.map.entries dir.0 above → found_in old.tree (Some above) name ≡ Ok file → GivesEntry old dir name file (Error EIO) new → FindsUnloaded old dir name
      by_entry above file at found (inl (fault, refusal, h), same) = absurd (fault-not_eio fault (sym h))
      by_entry above file at found (inr (h, clear, unloaded), same) = record { above = above; file = file; located = at; found = found; clear = clear; unloaded = unloaded }

      by_found : (o : Option FileId) → IsLocated old dir.0 o → (r : Result FileId Errno) → found_in old.tree o name ≡ r → GivesFound old dir name r (Error EIO) new → FindsUnloaded old dir name
      by_found o at (Err errno) found (h, same) = absurd (let s : EIO ≡ errno = cc in found-not_eio old.tree o name (found ∙ ap Err (sym s)))
      by_found None at (Ok file) found g = absurd (let none : ⊥ = cc in none)
      by_found (Some above) at (Ok file) found g = by_entry above file at found g

-- EIO for a file that is shown means that the file is not loaded
pub eio-shows : (old : ServedState) (node : Number) (answer : Answer) → Shows old node answer → answer ≡ Error EIO → ShowsUnloaded old node
eio-shows old node answer s e = by_file s.file s.located (subst (λ (a : Answer). ShowsFile old node s.file a) e s.shows) where
  by_file : (o : Option FileId) → IsLocated old node.0 o → ShowsFile old node o (Error EIO) → ShowsUnloaded old node
  by_file None at h = absurd (let none : ⊥ = cc in none)
  by_file (Some file) at (inl (attr, is, h)) = absurd (let none : ⊥ = cc in none)
  by_file (Some file) at (inr (h, unloaded)) = record { file = file; located = at; unloaded = unloaded }

-- ---- what is found and what is asked for are one file

abbrev good : FileId → Result FileId Errno
good file = Ok file

pub finds-one : (served : ServedState) (dir : Number) (name : List ℕ) (found : Found) → Finds served dir.0 name (Ok found) → (f : FindsUnloaded served dir name) → f.file ≡ found.file
finds-one served dir name found finds f =
    let at = subst (IsLocated served dir.0) finds.found.0 finds.located in
    let same : f.above ≡ found.dir = IsFileOf-same served.tree served.map.entries dir.0 f.above found.dir f.located at in
    let one : good f.file ≡ good found.file = sym f.found ∙ ap (λ (a : FileId). found_in served.tree (Some a) name) same ∙ ap (λ (o : Option FileId). found_in served.tree o name) (sym finds.found.0) ∙ finds.found.1 in
    let is : f.file ≡ found.file = cc in is

-- ---- what is known of the backing, by what is answered

-- for no file is it asked
pub unasked-known : (Asks : Type 0) (answer : Answer) (will : Option Bool) → (Asks → ⊥) → (answer ≡ Error EIO → ⊥) → IsAsKnown Asks answer will
unasked-known Asks answer will nothing other = record { failing = λ k asks. absurd (nothing asks); answering = λ k e. other e }

-- a backing that failed was not known to answer
pub failed-known : (Asks : Type 0) (will : Option Bool) → (will ≡ Some true → ⊥) → IsAsKnown Asks (Error EIO) will
failed-known Asks will not = record { failing = λ k asks. refl; answering = λ k e. not k }

-- a backing that told the file was not known to fail
pub told-known : (served : ServedState) (dir : Number) (name : List ℕ) (found : Found) (answer : Answer) (will : Option Bool) → Finds served dir.0 name (Ok found) →
    (will ≡ Some false → IsBacked served.tree found.file → ⊥) → (answer ≡ Error EIO → ⊥) → IsAsKnown (FindsUnloaded served dir name) answer will
told-known served dir name found answer will finds told other = record {
  failing = λ k f. absurd (told k (subst (λ (x : FileId). IsBacked served.tree x) (finds-one served dir name found finds f) (f.unloaded).0));
  answering = λ k e. other e;
}

-- no name was found
pub unfound-known : (served : ServedState) (dir : Number) (name : List ℕ) (errno : Errno) (will : Option Bool) → Finds served dir.0 name (Err errno) → IsAsKnown (FindsUnloaded served dir name) (Error errno) will
unfound-known served dir name errno will finds = unasked-known (FindsUnloaded served dir name) (Error errno) will (λ f. nothing finds.dir_file finds.located finds.found f)
    (λ e. let s : errno ≡ EIO = cc in found-not_eio served.tree finds.dir_file name (finds.found ∙ ap Err s)) where
      nothing : (o : Option FileId) → IsLocated served dir.0 o → found_in served.tree o name ≡ Err errno → FindsUnloaded served dir name → ⊥
      nothing None nobody found f = nobody f.above f.located
      nothing (Some above) at found f =
          let same : f.above ≡ above = IsFileOf-same served.tree served.map.entries dir.0 f.above above f.located at in
          let one : good f.file ≡ Err errno = sym f.found ∙ ap (λ (a : FileId). found_in served.tree (Some a) name) same ∙ found in
          let none : ⊥ = cc in none

-- something stands against the number
pub fault-known : (served : ServedState) (dir : Number) (name : List ℕ) (fault : GiveFault) (will : Option Bool) → give_fault served.map dir.0 name ≡ Some fault → IsAsKnown (FindsUnloaded served dir name) (Error (errno_of fault)) will
fault-known served dir name fault will e = unasked-known (FindsUnloaded served dir name) (Error (errno_of fault)) will
    (λ f. let clear : give_fault served.map dir.0 name ≡ None = f.clear in let none : ⊥ = cc in none)
    (λ h. fault-not_eio fault (let s : errno_of fault ≡ EIO = cc in s))

-- a number of no file
pub unshown-known : (served : ServedState) (node : Number) (answer : Answer) (will : Option Bool) → ((file : FileId) → IsFileOf served.tree served.map.entries node.0 file → ⊥) → (answer ≡ Error EIO → ⊥) → IsAsKnown (ShowsUnloaded served node) answer will
unshown-known served node answer will nobody other = unasked-known (ShowsUnloaded served node) answer will (λ f. nobody f.file f.located) other

-- a file that was told, so that the backing was not known to fail
pub shown-known : (served : ServedState) (node : Number) (file : FileId) (answer : Answer) (will : Option Bool) → IsFileOf served.tree served.map.entries node.0 file → (will ≡ Some false → IsUnloaded served file → ⊥) → (answer ≡ Error EIO → ⊥) →
    IsAsKnown (ShowsUnloaded served node) answer will
shown-known served node file answer will at told other = record {
  failing = λ k f. absurd (told k (subst (λ (x : FileId). IsUnloaded served x) (IsFileOf-same served.tree served.map.entries node.0 f.file file f.located at) f.unloaded));
  answering = λ k e. other e;
}

-- no number is left
pub full-known : (served : ServedState) (dir : Number) (name : List ℕ) (will : Option Bool) → entry_at served.map.entries dir.0 name ≡ None → end_of_numbers ≤ served.map.next → IsAsKnown (FindsUnloaded served dir name) (Error ENOSPC) will
full-known served dir name will free full = unasked-known (FindsUnloaded served dir name) (Error ENOSPC) will (λ f. nothing f.clear) (λ e. let none : ⊥ = cc in none) where
  by : (b : Bool) → nat_le end_of_numbers served.map.next ≡ b → (if b then Some NoNumber else None) ≡ None → ⊥
  by true t h = let none : ⊥ = cc in none
  by false t h = let low : served.map.next < end_of_numbers = grind (arith, nat_tests) in let none : ⊥ = omega arith in none

  nothing : give_fault served.map dir.0 name ≡ None → ⊥
  nothing e = by (nat_le end_of_numbers served.map.next) refl (sym (ap (λ (o : Option Kept). give_fault_at served.map o) free) ∙ e)

-- what holds of a fault
pub on-err : {A E : Type 0} (r : Result A E) (P Q : Type 0) → (P → Q) → OnErr r P → OnErr r Q
on-err (Ok a) P Q f h = tt
on-err (Err e) P Q f h = f h

-- ---- all of it, of a request

pub finds-asks : (old : ServedState) (dir : Number) (name : List ℕ) (answer : Answer) (new : ServedState) (will : Option Bool) → LooksUp old dir name answer new → IsAsKnown (FindsUnloaded old dir name) answer will →
    AsksAs old (Lookup dir name) (Some answer) will
finds-asks old dir name answer new will l known = record {
  eio = λ e. eio-finds old dir name answer new l (let s : answer ≡ Error EIO = cc in s);
  failing = λ k asks. ap (λ (a : Answer). Some a) (known.failing k asks);
  answering = λ k e. known.answering k (let s : answer ≡ Error EIO = cc in s);
}

pub shows-asks : (old : ServedState) (node : Number) (answer : Answer) (will : Option Bool) → Shows old node answer → IsAsKnown (ShowsUnloaded old node) answer will → AsksAs old (Getattr node) (Some answer) will
shows-asks old node answer will s known = record {
  eio = λ e. eio-shows old node answer s (let s : answer ≡ Error EIO = cc in s);
  failing = λ k asks. ap (λ (a : Answer). Some a) (known.failing k asks);
  answering = λ k e. known.answering k (let s : answer ≡ Error EIO = cc in s);
}

-- The backing is asked for what is answered, and for no forget.
pub asks-ask : (served : ServedState) (request : Request) → AsksBacking served request → is_ask request ≡ true
asks-ask served request asks = by_deed (deed_of request) refl asks where
  by_deed : (deed : Deed) → deed_of request ≡ deed → AsksFor served deed → is_ask request ≡ true
  by_deed (find_name dir name) is a = looks-ask request dir [] (ap looked_at is)
  by_deed (show_file node) is a = looks-ask request node [] (ap looked_at is)
  by_deed deed is a = absurd a
