-- What `apply` does is a step of the replay.
use Rattle.std.proofs.Common.{◌≡◌, ℕ, ◌<◌, Bool, true, false, List, [], ◌∷◌, Option, Some, None, Result, Ok, Err, refl, sym, ap, ◌∙◌, subst, inl, inr, arith}
use Rattle.std.specs.Prelude.{Contains, ◌==◌, if◌then◌else◌}
use Rattle.std.specs.List.{AllByRecursion}
use Rattle.eden_base.specs.declared.attr.Attr.{Attr}
use Rattle.eden_base.specs.declared.attr.Kind.{Kind}
use Rattle.eden_base.specs.declared.attr.MadeKind.{MadeKind}
use Rattle.eden_base.specs.declared.attr.Perm.{Perm}
use Rattle.eden_base.specs.declared.errno.Errno.{Errno}
use Rattle.eden_base.specs.declared.errno.Errno.TheVariants.{ENOSYS, ESTALE, EIO, ENOMEM}
use Rattle.eden_base.specs.declared.number.FileId.{FileId}
use Rattle.eden_base.specs.declared.number.Number.{Number}
use Rattle.manifest.specs.Tree.{Tree, IsTree}
use Rattle.checkout.specs.ChangedTree.{attr_of, is_full_dir, removed, created, next_file}
use Rattle.fuse_wire.specs.Request.{is_ask}
use Rattle.fuse_wire.specs.declared.request.Request.{Request}
use Rattle.fuse_wire.specs.declared.form.Form.{Form}
use Rattle.fuse_wire.specs.declared.reply.Answer.{Answer}
use Rattle.fuse_wire.specs.declared.reply.Answer.TheVariants.{Entry, Opened, Attrs, Done, Buffer, Extent, Error}
use Rattle.inode_map.specs.InodeMap.{IsGiveRefusal, give_fault, given, number_given}
use Rattle.inode_map.specs.declared.inode_map.GiveFault.{GiveFault}
use Rattle.inode_map.specs.declared.inode_map.GiveFault.TheVariants.{NoNumber, TooMany, NoMemory}
use Rattle.fuse_ops.specs.Answers.{none_left, at_greatest, none_lost, one_lost, one_moved, Effect, Deed, find_name, make_file, take_name, move_name, show_file, unserved, deed_of, looked_at, done_to, found_in, free_in, enters, shows, makes, takes, takes_from, moves_between, unless, against_taking, told_as, telling, Answers, AnswersFile}
use Rattle.checkout.proofs.CreateLaws.{created-IsTree}
use Rattle.checkout.proofs.RemoveLaws.{removed-IsTree}
use Rattle.eden_base.proofs.NumberTests.{eq-true, true-eq}
use Rattle.entry_table.proofs.FileLemmas.{IsFileOf-same}
use Rattle.fuse_ops.proofs.Keeping.{found-child}
use Rattle.fuse_ops.proofs.Making.{free-place}
use Rattle.fuse_ops.specs.Served.{ServedState, PlainState, plain, IsLocated, IsUnloaded, names_changed, numbers_at, number_fault, place_entered, place_told, served_after, Replay}
use Rattle.fuse_ops.specs.Work.{errno_of, GivesEntry, GivesFound, LooksUp, Shows, ShowsFile, IsSamePlainly, MakesIn, Makes, TakesName, Takes, MovesName, Moves}
use Rattle.fuse_ops.proofs.Looking.{looks-ask, looks-nodes}
use Rattle.fuse_ops.proofs.Movable.{by-move}
use Rattle.fuse_ops.proofs.Shapes.{TellsEntry, TakesPlace, MovesPlace, move-moves, moved-after, moved-bad_items, find-form, show-form, entered, shown, find-tells, make-tells, take-takes, take-frees, unless-found, error-after, entry-after, shown-after, done-after, given-bad_items, taken-bad_items}

-- an answer that the table has for what a request comes to, and what it makes
pub record Legally (old : ServedState) (request : Request) (result : Result Effect Errno) (answer : Answer) (new : ServedState) : Type 0 where
  pub answers : Answers (numbers_at old (place_told request)) request result answer
  pub makes : plain new ≡ plain (served_after old request result answer)
  pub bad_items : new.map.bad_items ≡ old.map.bad_items
  pub keeps_tree : IsTree old.tree → IsTree new.tree

-- the whole of it, by the deed
pub replays : (old : ServedState) (request : Request) (deed : Deed) (files : ℕ → Option FileId) (answer : Answer) (new : ServedState) → deed_of request ≡ deed → is_ask request ≡ true →
    AllByRecursion (λ (node : Number). IsLocated old node.0 (files node.0)) (looked_at deed) → Legally old request (done_to old.tree files deed) answer new → Replay old request (Some answer) new
replays old request deed files answer new does ask at l = (
  ask,
  record {
    files = files;
    locates = subst (λ (d : Deed). AllByRecursion (λ (node : Number). IsLocated old node.0 (files node.0)) (looked_at d)) (sym does) at;
    answers = subst (λ (d : Deed). Answers (numbers_at old (place_told request)) request (done_to old.tree files d) answer) (sym does) l.answers;
    makes = l.makes ∙ ap (λ (d : Deed). plain (served_after old request (done_to old.tree files d) answer)) (sym does);
    bad_items = l.bad_items;
    keeps_tree = l.keeps_tree;
  },
)

-- the tree is another's
tree-same : (old new : ServedState) → plain new ≡ plain old → IsTree old.tree → IsTree new.tree
tree-same old new e is = subst (λ (p : PlainState). IsTree p.tree) (sym e) is

-- an error is told as it is, and changes nothing
pub error-legally : (old : ServedState) (request : Request) (errno : Errno) (new : ServedState) → IsSamePlainly old new → Legally old request (Err errno) (Error errno) new
error-legally old request errno new same = record {
  answers = refl;
  makes = same.plainly ∙ sym (ap plain (error-after old request (Err errno) errno));
  bad_items = same.bad_items;
  keeps_tree = tree-same old new same.plainly;
}

-- ---- an entry

entry-legally : (old : ServedState) (request : Request) (dir : Number) (name : List ℕ) (tree : Tree) (file : FileId) (number : Number) (attr : Attr) (new : ServedState) → TellsEntry request dir name →
    give_fault old.map dir.0 name ≡ None → number ≡ number_given old.map dir.0 name → attr_of tree file ≡ Some attr → (IsTree old.tree → IsTree tree) → IsSamePlainly (record { map = given old.map dir name; tree = tree }) new →
    Legally old request (Ok (entered tree file)) (telling request number attr) new
entry-legally old request dir name tree file number attr new tells clear is is_attr stays same = record {
  answers = subst (λ (p : Option (Number × List ℕ)). AnswersFile (numbers_at old p) request tree (Some file) true none_lost (telling request number attr)) (sym tells.told)
      (None, sym (ap number_fault clear), inl (record { number = number; attr = attr; is = refl; is_number = ap (λ (n : Number). n.0) is; is_attr = is_attr }));
  makes = same.plainly ∙ sym (ap plain (entry-after old request dir name (entered tree file) (telling request number attr) number tells (tells.gives number attr)));
  bad_items = same.bad_items ∙ given-bad_items old.map dir name;
  keeps_tree = λ was. tree-same (record { map = given old.map dir name; tree = tree }) new same.plainly (stays was);
}

refused_in : (old : ServedState) (request : Request) (dir : Number) (name : List ℕ) (tree : Tree) (file : FileId) (errno : Errno) (fault : GiveFault) → IsGiveRefusal old.map dir.0 name fault → errno ≡ errno_of fault →
    AnswersFile (numbers_at old (Some (dir, name))) request tree (Some file) true none_lost (Error errno)
refused_in old request dir name tree file errno NoNumber refusal e = (Some none_left, sym (ap number_fault refusal), ap Error e)
refused_in old request dir name tree file errno TooMany refusal e = (Some at_greatest, sym (ap number_fault refusal), ap Error e)
refused_in old request dir name tree file errno NoMemory refusal e = (None, sym (ap number_fault refusal.1), inr (inr (ap Error e, refusal.0)))

-- nothing stands against its number, and the backing failed
backed_in : (old : ServedState) (request : Request) (dir : Number) (name : List ℕ) (tree : Tree) (file : FileId) (errno : Errno) → errno ≡ EIO → give_fault old.map dir.0 name ≡ None → IsUnloaded old file →
    AnswersFile (numbers_at old (Some (dir, name))) request tree (Some file) true none_lost (Error errno)
backed_in old request dir name tree file errno e clear is = (None, sym (ap number_fault clear), inr (inl (ap Error e, is)))

unentered-legally : (old : ServedState) (request : Request) (dir : Number) (name : List ℕ) (tree : Tree) (file : FileId) (errno : Errno) (new : ServedState) → TellsEntry request dir name →
    AnswersFile (numbers_at old (Some (dir, name))) request tree (Some file) true none_lost (Error errno) → IsSamePlainly old new → Legally old request (Ok (entered tree file)) (Error errno) new
unentered-legally old request dir name tree file errno new tells refusal same = record {
  answers = subst (λ (p : Option (Number × List ℕ)). AnswersFile (numbers_at old p) request tree (Some file) true none_lost (Error errno)) (sym tells.told) refusal;
  makes = same.plainly ∙ sym (ap plain (error-after old request (Ok (entered tree file)) errno));
  bad_items = same.bad_items;
  keeps_tree = tree-same old new same.plainly;
}

-- ---- a lookup

pub same_of : (old new : ServedState) → new ≡ old → IsSamePlainly old new
same_of old new e = record { plainly = ap plain e; bad_items = ap (λ (s : ServedState). s.map.bad_items) e }

-- a request for which a name is found
module _ (old : ServedState) (request : Request) (dir : Number) (name : List ℕ) (does : deed_of request ≡ find_name dir name) where
  gives_in : (file : FileId) (answer : Answer) (new : ServedState) → GivesEntry old dir name file answer new → Legally old request (enters old.tree (Ok file)) answer new
  gives_in file (Entry number attr) new (clear, is, attr_is, same) = subst (λ (a : Answer). Legally old request (enters old.tree (Ok file)) a new) (ap (λ (f : Form). told_as f number attr) (find-form request dir name does))
      (entry-legally old request dir name old.tree file number attr new (find-tells request dir name does) clear is attr_is (λ was. was) same)
  gives_in file (Error errno) new (inl (fault, refusal, e), same) =
      unentered-legally old request dir name old.tree file errno new (find-tells request dir name does) (refused_in old request dir name old.tree file errno fault refusal e) (same_of old new same)
  gives_in file (Error errno) new (inr (e, clear, is), same) =
      unentered-legally old request dir name old.tree file errno new (find-tells request dir name does) (backed_in old request dir name old.tree file errno e clear is) (same_of old new same)
  gives_in file (Opened number attr) new h = absurd h
  gives_in file (Attrs number attr) new h = absurd h
  gives_in file Done new h = absurd h
  gives_in file (Buffer bytes) new h = absurd h
  gives_in file (Extent extent) new h = absurd h

  gives_found : (found : Result FileId Errno) (answer : Answer) (new : ServedState) → GivesFound old dir name found answer new → Legally old request (enters old.tree found) answer new
  gives_found (Ok file) answer new h = gives_in file answer new h
  gives_found (Err errno) answer new (e, same) = subst (λ (a : Answer). Legally old request (Err errno) a new) (sym e) (error-legally old request errno new (same_of old new same))

  -- a name that is found is a legal step
  pub find-replay : (answer : Answer) (new : ServedState) → LooksUp old dir name answer new → Replay old request (Some answer) new
  find-replay answer new l =
      replays old request (find_name dir name) (λ n. l.dir_file) answer new does (looks-ask request dir [] (ap looked_at does)) (l.located, tt) (gives_found (found_in old.tree l.dir_file name) answer new l.gives)

-- ---- a file that is made

-- the answer with what was told of the file
abbrev pub made_answer : Request → Result (Number × Attr) Errno → Answer
made_answer request (Ok (number, attr)) = telling request number attr
made_answer request (Err errno) = Error errno

makes_in : (old : ServedState) (request : Request) (dir : Number) (name : List ℕ) (kind : MadeKind) (perm : Perm) (free : Result FileId Errno) (told : Result (Number × Attr) Errno) (new : ServedState) → TellsEntry request dir name →
    (o : Option FileId) × (free_in old.tree o name ≡ free) → MakesIn old dir name kind perm free told new → Legally old request (makes old.tree name kind perm free) (made_answer request told) new
makes_in old request dir name kind perm (Err errno) told new tells free (e, same) = subst (λ (t : Result (Number × Attr) Errno). Legally old request (Err errno) (made_answer request t) new) (sym e) (error-legally old request errno new same)
makes_in old request dir name kind perm (Ok above) (Ok (number, attr)) new tells free (clear, is, attr_is, is_name, same) =
    let place = (free-place old.tree (free.0) name above free.1).1 in
    entry-legally old request dir name (created old.tree above name kind perm) (next_file old.tree) number attr new tells clear is attr_is
    (λ was. created-IsTree old.tree above name kind perm was place.is_dir place.reached place.free is_name place.fits) same
makes_in old request dir name kind perm (Ok above) (Err errno) new tells free ((fault, refusal, e), same) =
    unentered-legally old request dir name (created old.tree above name kind perm) (next_file old.tree) errno new tells (refused_in old request dir name (created old.tree above name kind perm) (next_file old.tree) errno fault refusal e) same

-- making a file is a legal step
pub make-replay : (old : ServedState) (request : Request) (dir : Number) (name : List ℕ) (kind : MadeKind) (perm : Perm) (told : Result (Number × Attr) Errno) (new : ServedState) → deed_of request ≡ make_file dir name kind perm → Makes old dir name kind perm told new →
    Replay old request (Some (made_answer request told)) new
make-replay old request dir name kind perm told new does m =
    replays old request (make_file dir name kind perm) (λ n. m.dir_file) _ new does (looks-ask request dir [] (ap looked_at does)) (m.located, tt) (makes_in old request dir name kind perm (free_in old.tree m.dir_file name) told new (make-tells request dir name kind perm does) (m.dir_file, refl) m.makes)

-- ---- a name that is taken away

takes_in : (old : ServedState) (request : Request) (dir : Number) (name : List ℕ) (against : FileId → Option Errno) (above : Option FileId) (answer : Answer) (new : ServedState) → TakesPlace request dir name → ((file : FileId) → against file ≡ None → is_full_dir old.tree file ≡ false) →
    TakesName old dir above name (unless against (found_in old.tree above name)) answer new → Legally old request (takes_from old.tree against above name) answer new
takes_in old request dir name against None answer new place frees (e, same) = subst (λ (a : Answer). Legally old request (Err ESTALE) a new) (sym e) (error-legally old request ESTALE new (same_of old new same))
takes_in old request dir name against (Some above) answer new place frees h = in_ (unless against (found_in old.tree (Some above) name)) refl h where
  found : Result FileId Errno
  found = found_in old.tree (Some above) name

  in_ : (r : Result FileId Errno) → unless against (found_in old.tree (Some above) name) ≡ r → TakesName old dir (Some above) name r answer new → Legally old request (takes old.tree above name r) answer new
  in_ (Err errno) r (e, same) = subst (λ (a : Answer). Legally old request (Err errno) a new) (sym e) (error-legally old request errno new (same_of old new same))
  in_ (Ok file) r (e, made) = subst (λ (a : Answer). Legally old request (Ok effect) a new) (sym e) (record {
    answers = refl;
    makes = ap plain (made ∙ sym (done-after old request dir name effect file place refl));
    bad_items = ap (λ (s : ServedState). s.map.bad_items) made ∙ taken-bad_items old.map dir name file;
    keeps_tree = λ was. subst (λ (s : ServedState). IsTree s.tree) (sym made) (removed-IsTree old.tree above name file was (found-child old.tree above file name (unless-found against found file r).0) (frees file (unless-found against found file r).1));
  }) where
    effect : Effect
    effect = record { tree = removed old.tree above name; file = None; counts = false; names = one_lost file; contents = None }

-- taking a name away is a legal step
pub take-replay : (old : ServedState) (request : Request) (dir : Number) (name : List ℕ) (kind : Kind) (answer : Answer) (new : ServedState) → deed_of request ≡ take_name dir name kind → Takes old dir name (against_taking kind old.tree) answer new → Replay old request (Some answer) new
take-replay old request dir name kind answer new does t =
    replays old request (take_name dir name kind) (λ n. t.dir_file) answer new does (looks-ask request dir [] (ap looked_at does)) (t.located, tt)
    (takes_in old request dir name (against_taking kind old.tree) t.dir_file answer new (take-takes request dir name kind does) (take-frees kind old.tree) t.takes)

-- ---- a name that moves

moves_in : (old : ServedState) (request : Request) (dir : Number) (name : List ℕ) (to_dir : Number) (to_name : List ℕ) (o p : Option FileId) (answer : Answer) (new : ServedState) → MovesPlace request dir name to_dir to_name →
    MovesName old dir name to_dir to_name (moves_between old.tree o name p to_name) answer new → Legally old request (moves_between old.tree o name p to_name) answer new
moves_in old request dir name to_dir to_name o p answer new place h = in_ (moves_between old.tree o name p to_name) refl h where
  Answered : Effect → Answer → Type 0
  Answered effect a = Answers (numbers_at old (place_told request)) request (Ok effect) a

  in_ : (r : Result Effect Errno) → moves_between old.tree o name p to_name ≡ r → MovesName old dir name to_dir to_name r answer new → Legally old request r answer new
  in_ (Err errno) is (e, same) = subst (λ (a : Answer). Legally old request (Err errno) a new) (sym e) (error-legally old request errno new same)
  in_ (Ok effect) is (inr (e, replaced, moved, same)) = subst (λ (a : Answer). Legally old request (Ok effect) a new) (sym e) (record {
    answers = by-move old.tree o name p to_name effect is (λ (x : Effect). x.names ≡ one_moved replaced → Answered x (Error ENOMEM)) (λ k. absurd (let none : ⊥ = cc in none)) (λ from to g k. inr refl) moved;
    makes = same.plainly ∙ sym (ap plain (error-after old request (Ok effect) ENOMEM));
    bad_items = same.bad_items;
    keeps_tree = tree-same old new same.plainly;
  })
  in_ (Ok effect) is (inl (e, is_tree, same)) = subst (λ (a : Answer). Legally old request (Ok effect) a new) (sym e) (record {
    answers = by-move old.tree o name p to_name effect is (λ (x : Effect). Answered x Done) refl (λ from to g. inl refl);
    makes = same.plainly ∙ sym (ap plain (moved-after old request dir name to_dir to_name effect place));
    bad_items = same.bad_items ∙ moved-bad_items old.map dir name to_dir to_name effect.names;
    keeps_tree = λ was. tree-same (record { map = names_changed old.map (move_name dir name to_dir to_name) effect.names; tree = effect.tree }) new same.plainly is_tree;
  })

-- which file a number names is one
located-same : (served : ServedState) (n : ℕ) (o p : Option FileId) → IsLocated served n o → IsLocated served n p → o ≡ p
located-same served n None None nobody none = refl
located-same served n None (Some file) nobody at = absurd (nobody file at)
located-same served n (Some file) None at nobody = absurd (nobody file at)
located-same served n (Some file) (Some other) at there = ap (λ (f : FileId). Some f) (IsFileOf-same served.tree served.map.entries n file other at there)

-- moving a name is a legal step
pub move-replay : (old : ServedState) (request : Request) (dir : Number) (name : List ℕ) (to_dir : Number) (to_name : List ℕ) (answer : Answer) (new : ServedState) → deed_of request ≡ move_name dir name to_dir to_name →
    Moves old dir name to_dir to_name answer new → Replay old request (Some answer) new
move-replay old request dir name to_dir to_name answer new does m =
    replays old request (move_name dir name to_dir to_name) files answer new does (looks-ask request dir (to_dir ∷ []) (ap looked_at does))
    (subst (IsLocated old dir.0) (sym here) m.located, (subst (IsLocated old to_dir.0) (sym there) m.to_located, tt))
    (subst (λ (r : Result Effect Errno). Legally old request r answer new) (sym (ap (λ (o : Option FileId). moves_between old.tree o name (files to_dir.0) to_name) here ∙ ap (λ (o : Option FileId). moves_between old.tree m.dir_file name o to_name) there))
    (moves_in old request dir name to_dir to_name m.dir_file m.to_file answer new (move-moves request dir name to_dir to_name does) m.moves)) where
      files : ℕ → Option FileId
      files n = if n == dir.0 then m.dir_file else m.to_file

      here : files dir.0 ≡ m.dir_file
      here = ap (λ (b : Bool). if b then m.dir_file else m.to_file) (eq-true dir.0 dir.0 refl)

      there : files to_dir.0 ≡ m.to_file
      there = in_ (to_dir.0 == dir.0) refl where
        in_ : (b : Bool) → (to_dir.0 == dir.0) ≡ b → (if b then m.dir_file else m.to_file) ≡ m.to_file
        in_ false e = refl
        in_ true e = located-same old to_dir.0 m.dir_file m.to_file (subst (λ (n : ℕ). IsLocated old n m.dir_file) (sym (true-eq to_dir.0 dir.0 e)) m.located) m.to_located

-- ---- the others

-- a request that is served by none is answered so, and changes nothing
pub unserved-replay : (old : ServedState) (request : Request) → is_ask request ≡ true → deed_of request ≡ unserved → Replay old request (Some (Error ENOSYS)) old
unserved-replay old request ask does = replays old request unserved (λ n. None) (Error ENOSYS) old does ask tt (error-legally old request ENOSYS old (same_of old old refl))

-- what is shown, where a number names this file or none
shows_in : (old : ServedState) (request : Request) (node : Number) (o : Option FileId) (answer : Answer) (new : ServedState) → deed_of request ≡ show_file node → ShowsFile old node o answer → IsSamePlainly old new →
    Legally old request (shows old.tree o) answer new
shows_in old request node None answer new does e same = subst (λ (a : Answer). Legally old request (Err ESTALE) a new) (sym e) (error-legally old request ESTALE new same)
shows_in old request node (Some file) answer new does (inr (e, is)) same = subst (λ (a : Answer). Legally old request (shows old.tree (Some file)) a new) (sym e) (record {
  answers = inr (refl, subst (λ (p : Option (Number × List ℕ)). (numbers_at old p).MayFail file) (sym (ap place_entered does)) is);
  makes = same.plainly ∙ sym (ap plain (error-after old request (shows old.tree (Some file)) EIO));
  bad_items = same.bad_items;
  keeps_tree = tree-same old new same.plainly;
})
shows_in old request node (Some file) answer new does (inl (attr, is_attr, e)) same = subst (λ (a : Answer). Legally old request (shows old.tree (Some file)) a new) (sym e) (record {
  answers = inl (record {
    number = node;
    attr = attr;
    is = sym (ap (λ (f : Form). told_as f node attr) (show-form request node does));
    is_number = subst (λ (nodes : List Number). Contains nodes node) (sym (looks-nodes request node [] (ap looked_at does))) (0, (let low : 0 < 1 = omega arith in low), refl);
    is_attr = is_attr;
  });
  makes = same.plainly ∙ sym (ap plain (shown-after old request node (shown old.tree file) (Attrs node attr) does refl));
  bad_items = same.bad_items;
  keeps_tree = tree-same old new same.plainly;
})

-- a file that is shown is a legal step, after which there is plainly what there was
pub show-replay : (old : ServedState) (request : Request) (node : Number) (answer : Answer) (new : ServedState) → deed_of request ≡ show_file node → Shows old node answer → IsSamePlainly old new → Replay old request (Some answer) new
show-replay old request node answer new does s same =
    replays old request (show_file node) (λ n. s.file) answer new does (looks-ask request node [] (ap looked_at does)) (s.located, tt) (shows_in old request node s.file answer new does s.shows same)
