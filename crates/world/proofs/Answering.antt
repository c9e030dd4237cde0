-- A daemon's legal answer is one that the world may give, and what the daemon knows after it is what the world has
-- then.
use Rattle.std.proofs.Common.{◌≡◌, ℕ, ◌+◌, Bool, true, false, List, [], ◌∷◌, Option, Some, None, Result, Ok, Err, refl, sym, ap, ◌∙◌, subst, inl, inr, ◌⊎◌, arith}
use Rattle.std.specs.List.{AllByRecursion}
use Rattle.eden_base.specs.declared.attr.Kind.{Kind}
use Rattle.eden_base.specs.declared.attr.Kind.TheVariants.{Dir, File, Link}
use Rattle.eden_base.specs.declared.attr.MadeKind.{MadeKind}
use Rattle.eden_base.specs.declared.attr.Perm.{Perm}
use Rattle.eden_base.specs.declared.errno.Errno.{Errno}
use Rattle.eden_base.specs.declared.errno.Errno.TheVariants.{ESTALE, EIO, ENOMEM}
use Rattle.eden_base.specs.declared.number.FileId.{FileId}
use Rattle.eden_base.specs.declared.number.Number.{Number}
use Rattle.std.specs.Prelude.{nat_lt}
use Rattle.manifest.specs.Tree.{Tree, IsTree, child_of, file_of, kind_of}
use Rattle.manifest.specs.declared.content.Content.{Content}
use Rattle.checkout.specs.ChangedTree.{is_full_dir, next_file, created, removed}
use Rattle.fuse_wire.specs.DirectoryEntries.{entries_text}
use Rattle.fuse_wire.specs.declared.request.Request.{Request}
use Rattle.fuse_wire.specs.declared.form.Form.{Form}
use Rattle.fuse_wire.specs.declared.reply.Answer.{Answer}
use Rattle.fuse_wire.specs.declared.reply.Answer.TheVariants.{Attrs, Done, Buffer, Extent, Error}
use Rattle.fuse_wire.specs.declared.reply.Extent.{Extent as FilePart}
use Rattle.entry_table.specs.Entries.{IsFileOf}
use Rattle.inode_map.specs.InodeMap.{MapState}
use Rattle.fuse_ops.specs.Answers.{one_lost, Effect, found_in, free_in, enters, makes, takes, takes_from, moves_between, unless, against_taking, Deed, find_name, make_file, take_name, move_name, show_file, list_dir, read_file, unserved, deed_of, looked_at, looks_at, done_to, comes_to, shows, lists_dir, lists_from, reads_unless, reads_file, reads_from, lists_range, told_as, telling, Answers, AnswersListed, AnswersShown}
use Rattle.fuse_ops.specs.Changes.{MayLose, MayMove}
use Rattle.fuse_ops.specs.Extents.{Reading, extent_read, against_reading}
use Rattle.fuse_ops.specs.Gifts.{served_over}
use Rattle.fuse_ops.specs.Listing.{Range, range_of}
use Rattle.fuse_ops.specs.Served.{ServedState, PlainState, plain, place_entered, place_told, name_taken, name_moved, names_changed, numbers_at, served_after, IsLegal}
use Rattle.world.specs.World.{World, IsInode, file_named, owed, numbers_of, effect_in, MayAnswer}
use Rattle.world.specs.Agreement.{Knows}
use Rattle.world.proofs.Entering.{Answered, backed, enters-worked}
use Rattle.world.proofs.Inodes.{inode-known}
use Rattle.world.proofs.Knowing.{live-named, knows-along, knows-plain, kept-knows}
use Rattle.world.proofs.Placed.{found-number, found-enters, made-number, made-enters}
use Rattle.world.proofs.Worked.{Worked, worked-from, error-worked}
use Rattle.fuse_ops.proofs.Keeping.{found-child}
use Rattle.fuse_ops.proofs.Making.{free-place}
use Rattle.fuse_ops.proofs.Listings.{lists-wider}
use Rattle.fuse_ops.proofs.ListReplay.{inode-same}
use Rattle.fuse_ops.proofs.Looking.{done-same, done-stale, IsNamed, IsUnnamed, all-named}
use Rattle.fuse_ops.proofs.Movable.{left, gone, by-move, may-move}
use Rattle.fuse_ops.proofs.MovingLaw.{moving-keeps}
use Rattle.fuse_ops.proofs.Shapes.{TellsEntry, TakesPlace, MovesPlace, move-moves, moved-after, entered, shown, listed, listed-after, read_of, read-after, show-form, find-tells, make-tells, take-takes, take-frees, unless-found, shown-after, done-after}
use Rattle.fuse_ops.proofs.UnnamingLaw.{unnaming-keeps}

-- what a daemon that answers knows of a world
record Serves (w : World) (m : MapState) : Type 0 where
  is_tree : IsTree w.tree
  of_manifest : w.tree.manifest ≡ w.manifest
  knows : Knows w.tree w.names (owed w) (served_over w.tree m)

-- an answer is legal for a request that comes to this result
record Legal (w : World) (m : MapState) (request : Request) (result : Result Effect Errno) (answer : Answer) (later : ServedState) : Type 0 where
  answers : Answers (numbers_at (served_over w.tree m) (place_told request)) request result answer
  answered : Answered w m request result answer later

-- ---- errors

-- if a request comes to an error, the error is an answer of the world, or the request's number is stale
error_in : (w : World) (m : MapState) (request : Request) (errno : Errno) (answer : Answer) (later : ServedState) → Serves w m → Legal w m request (Err errno) answer later → MayAnswer w request (Error errno) → Worked w request answer later
error_in w m request errno answer later s l may = subst (λ (a : Answer). Worked w request a later) (sym l.answers)
    (error-worked w m request (Err errno) errno later s.is_tree s.knows ((l.answered).makes ∙ ap (λ (a : Answer). plain (served_after (served_over w.tree m) request (Err errno) a)) l.answers) may)

-- if one of the numbers that a request looks at names no file for the daemon, that number is not live
stale_in : (w : World) (m : MapState) (request : Request) (files : ℕ → Option FileId) → Serves w m → IsUnnamed (served_over w.tree m) files (looks_at request) → MayAnswer w request (Error ESTALE)
stale_in w m request files s u =
    inl (refl, record { node = u.node; looked_at = u.among; not_live = λ live. let f = live-named w w.tree m s.knows (u.node).0 live in u.nobody f.0 f.1 })

-- ---- successes

-- if a request comes to an effect over the file that its number names, a legal answer is one of the world's
abbrev Succeeds : World → MapState → Request → Number → (Tree → Option FileId → Result Effect Errno) → Answer → ServedState → Type 0
Succeeds w m request dir effect answer later =
    (above : FileId) → IsFileOf w.tree m.entries dir.0 above → (e : Effect) → effect w.tree (Some above) ≡ Ok e → effect_in w request ≡ Ok e → Legal w m request (Ok e) answer later → Worked w request answer later

-- a request for the entry of a file that was found is answered so
find_in : (w : World) (m : MapState) (request : Request) (dir : Number) (name : List ℕ) (answer : Answer) (later : ServedState) → Serves w m → TellsEntry request dir name → Succeeds w m request dir (λ tree above. enters tree (found_in tree above name)) answer later
find_in w m request dir name answer later s tells above at e is came l = in_ (found_in w.tree (Some above) name) refl is where
  in_ : (r : Result FileId Errno) → found_in w.tree (Some above) name ≡ r → enters w.tree r ≡ Ok e → Worked w request answer later
  in_ (Err errno) found h = absurd (let none : ⊥ = cc in none)
  in_ (Ok file) found h =
      let same : entered w.tree file ≡ e = cc in
      let child = found-child w.tree above file name found in
      let legal = subst (λ (x : Effect). Legal w m request (Ok x) answer later) (sym same) l in
      enters-worked w m request dir name w.tree file
      (found-enters w m dir name above file s.is_tree s.of_manifest s.knows at child request tells (came ∙ ap (λ (x : Effect). Ok x) (sym same))) answer later legal.answered
      (found-number w m dir name above file s.is_tree s.of_manifest s.knows at child) legal.answers

-- a request for the entry of a file that is made is answered so
make_in : (w : World) (m : MapState) (request : Request) (dir : Number) (name : List ℕ) (kind : MadeKind) (perm : Perm) (answer : Answer) (later : ServedState) → Serves w m → TellsEntry request dir name →
    Succeeds w m request dir (λ tree above. makes tree name kind perm (free_in tree above name)) answer later
make_in w m request dir name kind perm answer later s tells above at e is came l = in_ (free_in w.tree (Some above) name) refl is where
  in_ : (r : Result FileId Errno) → free_in w.tree (Some above) name ≡ r → makes w.tree name kind perm r ≡ Ok e → Worked w request answer later
  in_ (Err errno) free h = absurd (let none : ⊥ = cc in none)
  in_ (Ok dir_file) free h =
      let place = free-place w.tree (Some above) name dir_file free in
      let here : above ≡ dir_file = (let p : Some above ≡ Some dir_file = place.0 in cc) in
      let at' = subst (IsFileOf w.tree m.entries dir.0) here at in
      let same : entered (created w.tree dir_file name kind perm) (next_file w.tree) ≡ e = cc in
      let legal = subst (λ (x : Effect). Legal w m request (Ok x) answer later) (sym same) l in
      enters-worked w m request dir name _ _
      (made-enters w m dir name dir_file kind perm s.is_tree s.of_manifest s.knows at' place.1 request tells (came ∙ ap (λ (x : Effect). Ok x) (sym same))) answer later legal.answered
      (inr (made-number w m dir name dir_file kind perm s.is_tree s.of_manifest s.knows at' place.1)) legal.answers

-- a success that is answered Done is the world's, if the daemon knows then what the world has
done_in : (w : World) (request : Request) (effect : Effect) (map : MapState) (later : ServedState) → effect_in w request ≡ Ok effect → Answers (numbers_of w) request (Ok effect) Done → IsTree later.tree →
    plain later ≡ plain (served_over effect.tree map) → Knows effect.tree w.names (owed w) (served_over effect.tree map) → Worked w request Done later
done_in w request effect map later came may is so k =
    worked-from w request Done later (Ok effect) None came refl (inr (subst (λ (r : Result Effect Errno). Answers (numbers_of w) request r Done) (sym came) may))
    (subst IsTree (ap (λ (p : PlainState). p.tree) so) is)
    (knows-plain effect.tree w.names (λ n. owed w n + 0) later (served_over effect.tree map) so
    (knows-along effect.tree w.names (owed w) (λ n. owed w n + 0) (served_over effect.tree map) (λ n. omega arith) k))

-- the effect of taking a name away
abbrev taken : Tree → FileId → List ℕ → FileId → Effect
taken tree above name file = record { tree = removed tree above name; file = None; counts = false; names = one_lost file; contents = None }

take_in : (w : World) (m : MapState) (request : Request) (dir : Number) (name : List ℕ) (against : Tree → FileId → Option Errno) (answer : Answer) (later : ServedState) → Serves w m → TakesPlace request dir name →
    ((tree : Tree) (file : FileId) → against tree file ≡ None → is_full_dir tree file ≡ false) → Succeeds w m request dir (λ tree above. takes_from tree (against tree) above name) answer later
take_in w m request dir name against answer later s place frees above at e is came l = in_ (unless (against w.tree) (found_in w.tree (Some above) name)) refl is where
  in_ : (r : Result FileId Errno) → unless (against w.tree) (found_in w.tree (Some above) name) ≡ r → takes w.tree above name r ≡ Ok e → Worked w request answer later
  in_ (Err errno) found h = absurd (let none : ⊥ = cc in none)
  in_ (Ok file) found h = worked (subst (λ (x : Effect). Legal w m request (Ok x) answer later) (sym same) l) where
    same : taken w.tree above name file ≡ e
    same = cc

    found_so : (found_in w.tree (Some above) name ≡ Ok file) × (against w.tree file ≡ None)
    found_so = unless-found (against w.tree) (found_in w.tree (Some above) name) file found

    may : MayLose (served_over w.tree m) dir above name file
    may = record { is_tree = s.is_tree; sound = (s.knows).sound; at = at; child = found-child w.tree above file name found_so.0; not_full = frees w.tree file found_so.1 }

    worked : Legal w m request (Ok (taken w.tree above name file)) answer later → Worked w request answer later
    worked legal = subst (λ (a : Answer). Worked w request a later) (sym legal.answers)
        (done_in w request (taken w.tree above name file) (name_taken m dir name file) later (came ∙ ap (λ (x : Effect). Ok x) (sym same)) refl ((legal.answered).keeps_tree s.is_tree) so
        (kept-knows w.tree w.names (owed w) (served_over w.tree m) (served_over (removed w.tree above name) (name_taken m dir name file)) (unnaming-keeps (served_over w.tree m) dir above name file may) s.knows)) where
          so : plain later ≡ plain (served_over (removed w.tree above name) (name_taken m dir name file))
          so = (legal.answered).makes ∙ ap (λ (a : Answer). plain (served_after (served_over w.tree m) request (Ok (taken w.tree above name file)) a)) legal.answers
              ∙ ap plain (done-after (served_over w.tree m) request dir name (taken w.tree above name file) file place refl)

-- a request that moves a name is answered so
module _ (w : World) (m : MapState) (request : Request) (dir : Number) (name : List ℕ) (to : Number) (to_name : List ℕ) (answer : Answer) (later : ServedState) (s : Serves w m) (place : MovesPlace request dir name to to_name) where
  -- what is known after an effect
  so_in : (effect : Effect) → Answered w m request (Ok effect) answer later → answer ≡ Done → plain later ≡ plain (served_over effect.tree (names_changed m (move_name dir name to to_name) effect.names))
  so_in effect made e = made.makes ∙ ap (λ (a : Answer). plain (served_after (served_over w.tree m) request (Ok effect) a)) e
      ∙ ap plain (moved-after (served_over w.tree m) request dir name to to_name effect place)

  -- the file is there already
  left_in : effect_in w request ≡ Ok (left w.tree) → Legal w m request (Ok (left w.tree)) answer later → Worked w request answer later
  left_in came l = subst (λ (a : Answer). Worked w request a later) (sym l.answers)
      (done_in w request (left w.tree) m later came refl ((l.answered).keeps_tree s.is_tree) (so_in (left w.tree) l.answered l.answers) s.knows)

  -- the file moves, or memory is refused
  gone_in : (from to_dir file : FileId) → MayMove (served_over w.tree m) dir from name to to_dir to_name file → effect_in w request ≡ Ok (gone w.tree from name to_dir to_name) →
      Legal w m request (Ok (gone w.tree from name to_dir to_name)) answer later → Worked w request answer later
  gone_in from to_dir file may came l = by_answer l.answers where
    by_answer : (answer ≡ Done) ⊎ (answer ≡ Error ENOMEM) → Worked w request answer later
    by_answer (inl e) = subst (λ (a : Answer). Worked w request a later) (sym e)
        (done_in w request (gone w.tree from name to_dir to_name) (name_moved m dir name to to_name (child_of w.tree to_dir to_name)) later came (inl refl) ((l.answered).keeps_tree s.is_tree)
        (so_in (gone w.tree from name to_dir to_name) l.answered e)
        (kept-knows w.tree w.names (owed w) (served_over w.tree m) _ (moving-keeps (served_over w.tree m) dir from name to to_dir to_name file may) s.knows))
    by_answer (inr e) = subst (λ (a : Answer). Worked w request a later) (sym e)
        (error-worked w m request (Ok (gone w.tree from name to_dir to_name)) ENOMEM later s.is_tree s.knows
        ((l.answered).makes ∙ ap (λ (a : Answer). plain (served_after (served_over w.tree m) request (Ok (gone w.tree from name to_dir to_name)) a)) e)
        (inr (subst (λ (r : Result Effect Errno). Answers (numbers_of w) request r (Error ENOMEM)) (sym came) (inr refl))))

  move_in : (files : ℕ → Option FileId) → IsNamed (served_over w.tree m) files dir → IsNamed (served_over w.tree m) files to →
      (e : Effect) → moves_between w.tree (files dir.0) name (files to.0) to_name ≡ Ok e → effect_in w request ≡ Ok e → Legal w m request (Ok e) answer later → Worked w request answer later
  move_in files n t e is came l = by-move w.tree (files dir.0) name (files to.0) to_name e is
      (λ (x : Effect). effect_in w request ≡ Ok x → Legal w m request (Ok x) answer later → Worked w request answer later) left_in
      (λ from to_dir g. gone_in from to_dir g.file (may-move (served_over w.tree m) dir from name to to_dir to_name (files dir.0) (files to.0) s.is_tree (s.knows).sound (at dir from n g.from_is) (at to to_dir t g.to_is) g)) came l where
        at : (number : Number) (file : FileId) → IsNamed (served_over w.tree m) files number → files number.0 ≡ Some file → IsFileOf w.tree m.entries number.0 file
        at number file named is' =
            let same : named.file ≡ file = (let o : Some named.file ≡ Some file = sym named.says ∙ is' in cc) in
            subst (λ (f : FileId). IsFileOf w.tree m.entries number.0 f) same named.names

-- a request for attributes is answered so
show_in : (w : World) (m : MapState) (request : Request) (node : Number) (answer : Answer) (later : ServedState) → Serves w m → deed_of request ≡ show_file node → Succeeds w m request node shows answer later
show_in w m request node answer later s does file at e is came l =
    let same : shown w.tree file ≡ e = cc in
    let legal = subst (λ (x : Effect). Legal w m request (Ok x) answer later) (sym same) l in
    by_answer legal.answered (came ∙ ap (λ (x : Effect). Ok x) (sym same))
    (subst (λ (p : Option (Number × List ℕ)). AnswersShown (numbers_at (served_over w.tree m) p) request w.tree file answer) (ap place_entered does) legal.answers) where
      by_answer : Answered w m request (Ok (shown w.tree file)) answer later → effect_in w request ≡ Ok (shown w.tree file) → AnswersShown (numbers_at (served_over w.tree m) None) request w.tree file answer → Worked w request answer later
      by_answer made comes (inr (told, backs)) = subst (λ (a : Answer). Worked w request a later) (sym told)
          (error-worked w m request (Ok (shown w.tree file)) EIO later s.is_tree s.knows
          (made.makes ∙ ap (λ (a : Answer). plain (served_after (served_over w.tree m) request (Ok (shown w.tree file)) a)) told)
          (inr (subst (λ (r : Result Effect Errno). Answers (numbers_of w) request r (Error EIO)) (sym comes) (inr (refl, backed w file s.of_manifest backs.0)))))
      by_answer made comes (inl t) = subst (λ (a : Answer). Worked w request a later) (sym (t.is ∙ form))
          (worked-from w request told later (Ok (shown w.tree file)) None comes refl
          (inr (subst (λ (r : Result Effect Errno). Answers (numbers_of w) request r told) (sym comes)
          (inl (record { number = t.number; attr = t.attr; is = sym form; is_number = t.is_number; is_attr = t.is_attr }))))
          s.is_tree
          (knows-plain w.tree w.names (λ n. owed w n + 0) later (served_over w.tree m) so
          (knows-along w.tree w.names (owed w) (λ n. owed w n + 0) (served_over w.tree m) (λ n. omega arith) s.knows))) where
            told : Answer
            told = Attrs t.number t.attr

            form : telling request t.number t.attr ≡ told
            form = ap (λ (f : Form). told_as f t.number t.attr) (show-form request node does)

            so : plain later ≡ plain (served_over w.tree m)
            so = made.makes ∙ ap (λ (a : Answer). plain (served_after (served_over w.tree m) request (Ok (shown w.tree file)) a)) (t.is ∙ form)
                ∙ ap plain (shown-after (served_over w.tree m) request node (shown w.tree file) told does refl)

-- a request for part of a directory is answered so
list_in : (w : World) (m : MapState) (request : Request) (dir : Number) (offset size : ℕ) (answer : Answer) (later : ServedState) → Serves w m → deed_of request ≡ list_dir dir offset size →
    Succeeds w m request dir (λ tree above. lists_from tree above offset size) answer later
list_in w m request dir offset size answer later s does above at e is came l = in_ (kind_of w.tree above) is where
  range : Range
  range = range_of above offset size

  answered : effect_in w request ≡ Ok (listed w.tree range) → Answered w m request (Ok (listed w.tree range)) answer later →
      AnswersListed (numbers_at (served_over w.tree m) (place_told request)).IsInode w.tree range answer → Worked w request answer later
  answered comes made (inr told) = subst (λ (a : Answer). Worked w request a later) (sym told)
      (error-worked w m request (Ok (listed w.tree range)) ENOMEM later s.is_tree s.knows
      (made.makes ∙ ap (λ (a : Answer). plain (served_after (served_over w.tree m) request (Ok (listed w.tree range)) a)) told)
      (inr (subst (λ (r : Result Effect Errno). Answers (numbers_of w) request r (Error ENOMEM)) (sym comes) (inr refl))))
  answered comes made (inl (entries, lists, told)) = subst (λ (a : Answer). Worked w request a later) (sym told)
      (worked-from w request (Buffer (entries_text entries)) later (Ok (listed w.tree range)) None comes refl
      (inr (subst (λ (r : Result Effect Errno). Answers (numbers_of w) request r (Buffer (entries_text entries))) (sym comes)
      (inl (entries, lists-wider (numbers_at (served_over w.tree m) (place_told request)).IsInode (IsInode w) wider w.tree above offset range.room entries lists, refl))))
      s.is_tree
      (knows-plain w.tree w.names (λ n. owed w n + 0) later (served_over w.tree m) so
      (knows-along w.tree w.names (owed w) (λ n. owed w n + 0) (served_over w.tree m) (λ n. omega arith) s.knows))) where
        wider : (file : FileId) (n : ℕ) → (numbers_at (served_over w.tree m) (place_told request)).IsInode file n → IsInode w file n
        wider file n inode = inode-known w m s.knows file n (subst (λ (is : FileId → ℕ → Type 0). is file n) (inode-same (served_over w.tree m) (place_told request)) inode)

        so : plain later ≡ plain (served_over w.tree m)
        so = made.makes ∙ ap (λ (a : Answer). plain (served_after (served_over w.tree m) request (Ok (listed w.tree range)) a)) told
            ∙ ap plain (listed-after (served_over w.tree m) request dir offset size (listed w.tree range) (entries_text entries) does refl)

  in_ : (kind : Option Kind) → lists_dir w.tree above offset size kind ≡ Ok e → Worked w request answer later
  in_ (Some Dir) h =
      let same : listed w.tree range ≡ e = cc in
      let legal = subst (λ (x : Effect). Legal w m request (Ok x) answer later) (sym same) l in
      answered (came ∙ ap (λ (x : Effect). Ok x) (sym same)) legal.answered legal.answers
  in_ (Some File) h = absurd (let none : ⊥ = cc in none)
  in_ (Some Link) h = absurd (let none : ⊥ = cc in none)
  in_ None h = absurd (let none : ⊥ = cc in none)

-- a request for part of a file is answered so
read_in : (w : World) (m : MapState) (request : Request) (node : Number) (reading : Reading) (answer : Answer) (later : ServedState) → Serves w m → deed_of request ≡ read_file node reading →
    Succeeds w m request node (λ tree file. reads_from tree file reading) answer later
read_in w m request node reading answer later s does file at e is came l = by_file (file_of w.tree file) is where
  answered : (extent : FilePart) → effect_in w request ≡ Ok (read_of w.tree extent) → Answered w m request (Ok (read_of w.tree extent)) answer later → answer ≡ Extent extent → Worked w request answer later
  answered extent comes made told = subst (λ (a : Answer). Worked w request a later) (sym told)
      (worked-from w request (Extent extent) later (Ok (read_of w.tree extent)) None comes refl
      (inr (subst (λ (r : Result Effect Errno). Answers (numbers_of w) request r (Extent extent)) (sym comes) refl))
      s.is_tree
      (knows-plain w.tree w.names (λ n. owed w n + 0) later (served_over w.tree m) so
      (knows-along w.tree w.names (owed w) (λ n. owed w n + 0) (served_over w.tree m) (λ n. omega arith) s.knows))) where
        so : plain later ≡ plain (served_over w.tree m)
        so = made.makes ∙ ap (λ (a : Answer). plain (served_after (served_over w.tree m) request (Ok (read_of w.tree extent)) a)) told
            ∙ ap plain (read-after (served_over w.tree m) request node reading (read_of w.tree extent) extent does refl)

  unless_in : (extent : FilePart) (against : Option Errno) → reads_unless w.tree extent against ≡ Ok e → Worked w request answer later
  unless_in extent (Some errno) h = absurd (let none : ⊥ = cc in none)
  unless_in extent None h =
      let same : read_of w.tree extent ≡ e = cc in
      let legal = subst (λ (x : Effect). Legal w m request (Ok x) answer later) (sym same) l in
      answered extent (came ∙ ap (λ (x : Effect). Ok x) (sym same)) legal.answered legal.answers

  by_file : (content : Option Content) → reads_file w.tree file reading content ≡ Ok e → Worked w request answer later
  by_file (Some content) h = unless_in (extent_read file content.size reading) (against_reading reading content.kind content.size) h
  by_file None h = absurd (let none : ⊥ = cc in none)

-- ---- all requests

module _ (w : World) (m : MapState) (request : Request) (files : ℕ → Option FileId) (answer : Answer) (later : ServedState) (s : Serves w m) where
  abbrev Named : Number → Type 0
  Named = IsNamed (served_over w.tree m) files

  -- a success over the file of one number
  one_in : (dir : Number) (effect : Tree → Option FileId → Result Effect Errno) → Succeeds w m request dir effect answer later → Named dir →
      (e : Effect) → effect w.tree (files dir.0) ≡ Ok e → effect_in w request ≡ Ok e → Legal w m request (Ok e) answer later → Worked w request answer later
  one_in dir effect success n e is came l = success n.file n.names e (sym (ap (effect w.tree) n.says) ∙ is) came l

  -- a success, by what the request does
  success_in : (deed : Deed) → deed_of request ≡ deed → AllByRecursion Named (looked_at deed) →
      (e : Effect) → done_to w.tree files deed ≡ Ok e → effect_in w request ≡ Ok e → Legal w m request (Ok e) answer later → Worked w request answer later
  success_in (find_name dir name) does (n, _) = one_in dir (λ tree above. enters tree (found_in tree above name)) (find_in w m request dir name answer later s (find-tells request dir name does)) n
  success_in (make_file dir name kind perm) does (n, _) = one_in dir (λ tree above. makes tree name kind perm (free_in tree above name)) (make_in w m request dir name kind perm answer later s (make-tells request dir name kind perm does)) n
  success_in (take_name dir name kind) does (n, _) = one_in dir (λ tree above. takes_from tree (against_taking kind tree) above name) (take_in w m request dir name (against_taking kind) answer later s (take-takes request dir name kind does) (take-frees kind)) n
  success_in (move_name dir name to to_name) does (n, (t, _)) = move_in w m request dir name to to_name answer later s (move-moves request dir name to to_name does) files n t
  success_in (show_file node) does (n, _) = one_in node shows (show_in w m request node answer later s does) n
  success_in (list_dir dir offset size) does (n, _) = one_in dir (λ tree above. lists_from tree above offset size) (list_in w m request dir offset size answer later s does) n
  success_in (read_file node reading) does (n, _) = one_in node (λ tree file. reads_from tree file reading) (read_in w m request node reading answer later s does) n
  success_in unserved does all = λ e is came l. absurd (let none : ⊥ = cc in none)

  -- what each number names for the daemon it names in the world
  named_as : (nodes : List Number) → AllByRecursion Named nodes → AllByRecursion (λ (node : Number). files node.0 ≡ file_named w.names node.0) nodes
  named_as [] all = tt
  named_as (node ∷ nodes) (n, rest) = (n.says ∙ sym ((s.knows).files node.0 n.file n.names), named_as nodes rest)

  -- a legal answer over files that its numbers name
  named_in : AllByRecursion Named (looks_at request) → Legal w m request (comes_to w.tree files request) answer later → Worked w request answer later
  named_in named l = in_ (comes_to w.tree files request) refl l where
    came : effect_in w request ≡ comes_to w.tree files request
    came = sym (done-same w.tree files (file_named w.names) (deed_of request) (named_as (looks_at request) named))

    in_ : (r : Result Effect Errno) → comes_to w.tree files request ≡ r → Legal w m request r answer later → Worked w request answer later
    in_ (Ok e) is l' = success_in (deed_of request) refl named e is (came ∙ is) l'
    in_ (Err errno) is l' = error_in w m request errno answer later s l' (inr (subst (λ (r : Result Effect Errno). Answers (numbers_of w) request r (Error errno)) (sym (came ∙ is)) refl))

-- a legal answer over the world's tree is one of the world's
legal_in : (w : World) (m : MapState) (request : Request) (answer : Answer) (later : ServedState) → Serves w m → IsLegal (served_over w.tree m) request answer later → Worked w request answer later
legal_in w m request answer later s l = in_ (all-named (served_over w.tree m) l.files (looks_at request) l.locates) where
  legal : Legal w m request (comes_to w.tree l.files request) answer later
  legal = record { answers = l.answers; answered = record { makes = l.makes; keeps_tree = l.keeps_tree } }

  in_ : AllByRecursion (IsNamed (served_over w.tree m) l.files) (looks_at request) ⊎ IsUnnamed (served_over w.tree m) l.files (looks_at request) → Worked w request answer later
  in_ (inl named) = named_in w m request l.files answer later s named legal
  in_ (inr u) = error_in w m request ESTALE answer later s
      (subst (λ (r : Result Effect Errno). Legal w m request r answer later) (done-stale w.tree l.files (deed_of request) u.missing) legal) (stale_in w m request l.files s u)

-- A legal answer is one that the world may give, and what the daemon knows after it is what the world has then.
pub answers-worked : (w : World) (served later : ServedState) (request : Request) (answer : Answer) → IsTree w.tree → w.tree.manifest ≡ w.manifest → Knows w.tree w.names (owed w) served → IsLegal served request answer later →
    Worked w request answer later
answers-worked w served later request answer is of_manifest k l =
    let over : served ≡ served_over w.tree served.map = λ i. record served { tree = (k.tree_is) i } in
    legal_in w served.map request answer later (record { is_tree = is; of_manifest = of_manifest; knows = subst (λ (s : ServedState). Knows w.tree w.names (owed w) s) over k }) (subst (λ (s : ServedState). IsLegal s request answer later) over l)
