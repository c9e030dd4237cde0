-- A legal answer is one that the broker takes: it belongs to its request, and gives out neither number 0 nor the root.
use Rattle.std.proofs.Common.{◌≡◌, ℕ, ◌≤◌, Bool, true, false, ◌&&◌, List, Option, Some, None, Result, Ok, Err, refl, sym, ap, ◌∙◌, subst, inl, inr, ◌⊎◌, arith}
use Rattle.std.specs.Option.{option_map_or}
use Rattle.std.specs.Prelude.{nat_lt}
use Rattle.std.proofs.lemmas.Bool.Decides.{nat_tests}
use Rattle.eden_base.specs.declared.attr.Attr.{Attr}
use Rattle.eden_base.specs.declared.attr.Kind.{Kind}
use Rattle.eden_base.specs.declared.attr.Kind.TheVariants.{Dir, File, Link}
use Rattle.eden_base.specs.declared.attr.MadeKind.{MadeKind}
use Rattle.eden_base.specs.declared.attr.Perm.{Perm}
use Rattle.eden_base.specs.declared.errno.Errno.{Errno}
use Rattle.eden_base.specs.declared.errno.Errno.TheVariants.{ESTALE, ENOTDIR, EISDIR, EINVAL, EIO, ENOMEM, ENOSYS}
use Rattle.eden_base.specs.declared.number.FileId.{FileId}
use Rattle.eden_base.specs.declared.number.Number.{Number}
use Rattle.manifest.specs.Tree.{Tree, file_of, kind_of}
use Rattle.manifest.specs.declared.content.Content.{Content}
use Rattle.fuse_wire.specs.Request.{form_of}
use Rattle.fuse_wire.specs.Form.{belongs}
use Rattle.fuse_wire.specs.Given.{given_out}
use Rattle.fuse_wire.specs.declared.form.Form.{Form}
use Rattle.fuse_wire.specs.declared.form.Form.TheVariants.{AnEntry, AnOpenEntry, Attributes, NoValue, ABuffer, FileBytes}
use Rattle.fuse_wire.specs.declared.request.Request.{Request}
use Rattle.fuse_wire.specs.declared.reply.Answer.{Answer}
use Rattle.fuse_wire.specs.declared.reply.Extent.{Extent as FilePart}
use Rattle.fuse_wire.specs.declared.reply.Answer.TheVariants.{Done, Error}
use Rattle.broker_core.specs.Traffic.{may_be_given}
use Rattle.entry_table.specs.Entries.{entry_at, stands_at, number_of_kept}
use Rattle.entry_table.specs.declared.kept.Kept.{Kept}
use Rattle.entry_table.proofs.EntryLemmas.{numbers-bound, numbers-entry, entry_of-first}
use Rattle.inode_map.specs.InodeMap.{number_given}
use Rattle.fuse_ops.specs.Answers.{NumberFault, number_errno, Effect, enters, shows, lists_dir, lists_from, reads_unless, reads_file, reads_from, makes, takes, takes_from, moves_between, found_in, free_in, unless, against_taking, told_as, AnswersCounted, Answers, Deed, find_name, make_file, take_name, move_name, show_file, list_dir, read_file, unserved, deed_of, done_to}
use Rattle.fuse_ops.specs.Extents.{Reading, extent_read, against_reading}
use Rattle.fuse_ops.specs.Served.{ServedState, numbers_at, place_told, IsLegal}
use Rattle.fuse_ops.specs.Soundness.{IsSound}
use Rattle.fuse_ops.proofs.Movable.{by-move}
use Rattle.fuse_ops.proofs.Shapes.{TellsEntry, find-tells, make-tells, show-form, list-form, read-form, take-form, move-form}

-- the broker takes this answer to an ask of this form
abbrev pub IsTakenAs : Form → Answer → Type 0
IsTakenAs form answer = (belongs form answer && may_be_given answer) ≡ true

-- ---- by the form

error-taken : (form : Form) (answer : Answer) (errno : Errno) → answer ≡ Error errno → IsTakenAs form answer
error-taken form answer errno is = subst (IsTakenAs form) (sym is) (in_ form) where
  in_ : (f : Form) → IsTakenAs f (Error errno)
  in_ AnEntry = refl
  in_ f = refl

-- an answer that gives out a number above the root's is taken
entry-taken : (form : Form) (number : Number) (attr : Attr) → given_out (told_as form number attr) ≡ Some number → 2 ≤ number.0 → IsTakenAs form (told_as form number attr)
entry-taken AnEntry number attr e two = grind (arith, nat_tests)
entry-taken AnOpenEntry number attr e two = grind (arith, nat_tests)
entry-taken form number attr e two = absurd (let none : ⊥ = cc in none)

-- ---- the number

-- the number that a place has or gets is above the root's
given-above : (served : ServedState) (dir : ℕ) (name : List ℕ) → IsSound served → 2 ≤ (number_given served.map dir name).0
given-above served dir name sound = in_ (entry_at served.map.entries dir name) refl where
  in_ : (o : Option Kept) → entry_at served.map.entries dir name ≡ o → 2 ≤ (option_map_or number_of_kept o (record { 0 = served.map.next })).0
  in_ None e = numbers-bound served.map.entries 2 served.map.next sound.numbers
  in_ (Some kept) e = (numbers-entry served.map.entries 2 served.map.next kept.number.0 kept sound.numbers (entry_of-first served.map.entries 2 served.map.next (stands_at dir name) kept sound.numbers e)).0

-- ---- by the deed

module _ (served : ServedState) (request : Request) (answer : Answer) (sound : IsSound served) where
  abbrev Taken : Type 0
  Taken = IsTakenAs (form_of request) answer

  abbrev Legal : Result Effect Errno → Type 0
  Legal result = Answers (numbers_at served (place_told request)) request result answer

  -- the answer that tells an entry is taken, by what stands against the entry's number
  counted_in : (dir : Number) (name : List ℕ) (tree : Tree) (file : FileId) → TellsEntry request dir name → (fault : Option NumberFault) → AnswersCounted (numbers_at served (place_told request)) request tree file fault answer → Taken
  counted_in dir name tree file tells (Some fault) a = error-taken (form_of request) answer (number_errno fault) a
  counted_in dir name tree file tells None (inl t) = subst (IsTakenAs (form_of request)) (sym t.is)
      (entry-taken (form_of request) t.number t.attr (tells.gives t.number t.attr) (subst (λ (n : ℕ). 2 ≤ n) (sym number) (given-above served dir.0 name sound))) where
        number : t.number.0 ≡ (number_given served.map dir.0 name).0
        number = subst (λ (place : Option (Number × List ℕ)). (numbers_at served place).IsNumber file t.number.0) tells.told t.is_number
  counted_in dir name tree file tells None (inr (inl (is, may))) = error-taken (form_of request) answer EIO is
  counted_in dir name tree file tells None (inr (inr (is, may))) = error-taken (form_of request) answer ENOMEM is

  find_in : (dir : Number) (name : List ℕ) (tree : Tree) (found : Result FileId Errno) → TellsEntry request dir name → Legal (enters tree found) → Taken
  find_in dir name tree (Ok file) tells (fault, against, a) = counted_in dir name tree file tells fault a
  find_in dir name tree (Err errno) tells a = error-taken (form_of request) answer errno a

  make_in : (dir : Number) (name : List ℕ) (tree : Tree) (kind : MadeKind) (perm : Perm) (free : Result FileId Errno) → TellsEntry request dir name → Legal (makes tree name kind perm free) → Taken
  make_in dir name tree kind perm (Ok above) tells (fault, against, a) = counted_in dir name _ _ tells fault a
  make_in dir name tree kind perm (Err errno) tells a = error-taken (form_of request) answer errno a

  -- the answer that takes a name away is taken
  take_in : (tree : Tree) (dir : FileId) (name : List ℕ) (found : Result FileId Errno) → form_of request ≡ NoValue → Legal (takes tree dir name found) → Taken
  take_in tree dir name (Ok file) form a = subst (λ (f : Form). IsTakenAs f answer) (sym form) (subst (λ (x : Answer). IsTakenAs NoValue x) (sym a) refl)
  take_in tree dir name (Err errno) form a = error-taken (form_of request) answer errno a

  take_from : (tree : Tree) (against : FileId → Option Errno) (above : Option FileId) (name : List ℕ) → form_of request ≡ NoValue → Legal (takes_from tree against above name) → Taken
  take_from tree against (Some dir) name form a = take_in tree dir name (unless against (found_in tree (Some dir) name)) form a
  take_from tree against None name form a = error-taken (form_of request) answer ESTALE a

  -- the answer to a move is taken
  move_in : (tree : Tree) (from : Option FileId) (name : List ℕ) (to : Option FileId) (to_name : List ℕ) → form_of request ≡ NoValue → Legal (moves_between tree from name to to_name) → Taken
  move_in tree from name to to_name form a = in_ (moves_between tree from name to to_name) refl a where
    done_in : answer ≡ Done → Taken
    done_in e = subst (λ (f : Form). IsTakenAs f answer) (sym form) (subst (λ (x : Answer). IsTakenAs NoValue x) (sym e) refl)

    gone_in : (answer ≡ Done) ⊎ (answer ≡ Error ENOMEM) → Taken
    gone_in (inl e) = done_in e
    gone_in (inr e) = error-taken (form_of request) answer ENOMEM e

    in_ : (r : Result Effect Errno) → moves_between tree from name to to_name ≡ r → Legal r → Taken
    in_ (Err errno) is l = error-taken (form_of request) answer errno l
    in_ (Ok effect) is l = by-move tree from name to to_name effect is (λ (e : Effect). Legal (Ok e) → Taken) done_in (λ dir to_dir m. gone_in) l

  -- the answer that shows attributes is taken
  show_in : (tree : Tree) (above : Option FileId) → form_of request ≡ Attributes → Legal (shows tree above) → Taken
  show_in tree (Some file) form (inl t) = subst (λ (f : Form). IsTakenAs f answer) (sym form) (subst (IsTakenAs Attributes) (sym (t.is ∙ ap (λ (f : Form). told_as f t.number t.attr) form)) refl)
  show_in tree (Some file) form (inr (is, may)) = error-taken (form_of request) answer EIO is
  show_in tree None form a = error-taken (form_of request) answer ESTALE a

  -- the answer that lists part of a directory is taken
  list_dir_in : (tree : Tree) (dir : FileId) (offset size : ℕ) (kind : Option Kind) → form_of request ≡ ABuffer → Legal (lists_dir tree dir offset size kind) → Taken
  list_dir_in tree dir offset size (Some Dir) form (inl (entries, lists, e)) = subst (λ (f : Form). IsTakenAs f answer) (sym form) (subst (IsTakenAs ABuffer) (sym e) refl)
  list_dir_in tree dir offset size (Some Dir) form (inr e) = error-taken (form_of request) answer ENOMEM e
  list_dir_in tree dir offset size (Some File) form a = error-taken (form_of request) answer ENOTDIR a
  list_dir_in tree dir offset size (Some Link) form a = error-taken (form_of request) answer ENOTDIR a
  list_dir_in tree dir offset size None form a = error-taken (form_of request) answer ENOTDIR a

  list_in : (tree : Tree) (above : Option FileId) (offset size : ℕ) → form_of request ≡ ABuffer → Legal (lists_from tree above offset size) → Taken
  list_in tree (Some dir) offset size form a = list_dir_in tree dir offset size (kind_of tree dir) form a
  list_in tree None offset size form a = error-taken (form_of request) answer ESTALE a

  -- the answer that reads part of a file is taken
  unless_in : (tree : Tree) (extent : FilePart) (against : Option Errno) → form_of request ≡ FileBytes → Legal (reads_unless tree extent against) → Taken
  unless_in tree extent (Some errno) form a = error-taken (form_of request) answer errno a
  unless_in tree extent None form e = subst (λ (f : Form). IsTakenAs f answer) (sym form) (subst (IsTakenAs FileBytes) (sym e) refl)

  file_in : (tree : Tree) (file : FileId) (reading : Reading) (content : Option Content) → form_of request ≡ FileBytes → Legal (reads_file tree file reading content) → Taken
  file_in tree file reading (Some content) form a = unless_in tree (extent_read file content.size reading) (against_reading reading content.kind content.size) form a
  file_in tree file reading None form a = error-taken (form_of request) answer ESTALE a

  read_in : (tree : Tree) (named : Option FileId) (reading : Reading) → form_of request ≡ FileBytes → Legal (reads_from tree named reading) → Taken
  read_in tree (Some file) reading form a = file_in tree file reading (file_of tree file) form a
  read_in tree None reading form a = error-taken (form_of request) answer ESTALE a

  -- A legal answer is taken, by what the request does.
  pub legal-taken : (later : ServedState) → IsLegal served request answer later → IsTakenAs (form_of request) answer
  legal-taken later l = by_deed (deed_of request) refl l.answers where
    by_deed : (deed : Deed) → deed_of request ≡ deed → Legal (done_to served.tree l.files deed) → Taken
    by_deed (find_name dir name) is a = find_in dir name served.tree (found_in served.tree (l.files dir.0) name) (find-tells request dir name is) a
    by_deed (make_file dir name kind perm) is a = make_in dir name served.tree kind perm (free_in served.tree (l.files dir.0) name) (make-tells request dir name kind perm is) a
    by_deed (take_name dir name kind) is a = take_from served.tree (against_taking kind served.tree) (l.files dir.0) name (take-form request dir name kind is) a
    by_deed (move_name dir name to_dir to_name) is a = move_in served.tree (l.files dir.0) name (l.files to_dir.0) to_name (move-form request dir name to_dir to_name is) a
    by_deed (show_file node) is a = show_in served.tree (l.files node.0) (show-form request node is) a
    by_deed (list_dir dir offset size) is a = list_in served.tree (l.files dir.0) offset size (list-form request dir offset size is) a
    by_deed (read_file node reading) is a = read_in served.tree (l.files node.0) reading (read-form request node reading is) a
    by_deed unserved is a = error-taken (form_of request) answer ENOSYS a
