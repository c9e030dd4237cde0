-- A request that tells an entry: which number of the file may be told, and what stands against it, in the world as for
-- the daemon.
use Rattle.std.proofs.Common.{◌≡◌, ℕ, ◌+◌, ◌<◌, ◌≤◌, Bool, true, false, List, Option, Some, None, length, Result, Ok, refl, sym, ap, ◌∙◌, subst, inl, inr, ◌⊎◌, arith}
use Rattle.std.specs.Prelude.{◌==◌, nat_le, IsSome, if◌then◌else◌}
use Rattle.std.proofs.lemmas.Bool.Decides.{nat_tests}
use Rattle.eden_base.specs.Limits.{greatest_count, end_of_numbers}
use Rattle.eden_base.specs.declared.errno.Errno.{Errno}
use Rattle.eden_base.specs.declared.errno.Errno.TheVariants.{EIO, ENOMEM}
use Rattle.eden_base.specs.declared.number.FileId.{FileId}
use Rattle.eden_base.specs.declared.number.Number.{Number}
use Rattle.eden_base.proofs.NumberTests.{eq-or}
use Rattle.manifest.specs.Manifest.{Manifest}
use Rattle.eden_base.specs.declared.attr.Kind.TheVariants.{File}
use Rattle.manifest.specs.Tree.{Tree, IsTree, kind_of}
use Rattle.fuse_wire.specs.Given.{given_out}
use Rattle.fuse_wire.specs.declared.request.Request.{Request}
use Rattle.fuse_wire.specs.declared.reply.Answer.{Answer}
use Rattle.fuse_wire.specs.declared.reply.Answer.TheVariants.{Error}
use Rattle.entry_table.specs.Entries.{count_of}
use Rattle.inode_map.specs.InodeMap.{MapState, give_fault, given, number_given}
use Rattle.inode_map.specs.declared.inode_map.GiveFault.{GiveFault}
use Rattle.inode_map.specs.declared.inode_map.GiveFault.TheVariants.{NoNumber, TooMany, NoMemory}
use Rattle.fuse_ops.specs.Answers.{NumberFault, none_left, at_greatest, none_lost, number_errno, Effect, Tells, Answers, AnswersFile, AnswersCounted, telling, tree_after, IsBacked as IsBackedIn}
use Rattle.fuse_ops.specs.Gifts.{served_over}
use Rattle.fuse_ops.specs.Served.{ServedState, PlainState, plain, place_told, numbers_at, number_fault, served_after}
use Rattle.fuse_ops.proofs.Shapes.{entered, TellsEntry, gift-tree, entry-after}
use Rattle.world.specs.World.{World, file_named, owed, IsLive, IsNumberOf, MayNumber, IsAtGreatest, MayBeGiven, IsAgainst, IsBacked, numbers_of, effect_in, MayAnswer, names_after}
use Rattle.world.specs.Agreement.{Knows}
use Rattle.world.proofs.Knowing.{named, knows-plain}
use Rattle.world.proofs.Worked.{Worked, one_more, worked-from, error-worked}

-- a file for which a daemon asks its backing is backed in the world
pub backed : (w : World) (file : FileId) → w.tree.manifest ≡ w.manifest → IsBackedIn w.tree file → IsBacked w file
backed w file same is = subst (λ (m : Manifest). (kind_of w.tree file ≡ Some File) × (file.0 < length m.lines + 2)) same is

-- a request comes to an entry of a file of a tree, and the daemon knows this once it gave the number
pub record Enters (w : World) (m : MapState) (request : Request) (dir : Number) (name : List ℕ) (tree : Tree) (file : FileId) : Type 0 where
  pub is_tree : IsTree w.tree
  pub of_manifest : w.tree.manifest ≡ w.manifest
  pub knows : Knows w.tree w.names (owed w) (served_over w.tree m)
  pub tells : TellsEntry request dir name
  pub comes : effect_in w request ≡ Ok (entered tree file)
  pub gives : IsTree tree → give_fault m dir.0 name ≡ None →
      Knows tree (named w.names (number_given m dir.0 name).0 file) (λ n. owed w n + (if (number_given m dir.0 name).0 == n then 1 else 0)) (served_over tree (given m dir name))

-- the file has a number, which is that of its place
pub record Numbered (w : World) (m : MapState) (dir : Number) (name : List ℕ) (file : FileId) : Type 0 where
  pub number : ℕ
  pub is_given : (number_given m dir.0 name).0 ≡ number
  pub fault : give_fault m dir.0 name ≡ (if nat_le greatest_count (count_of m.entries number) then Some TooMany else None)
  pub same : (j : ℕ) → IsNumberOf w file j → j ≡ number
  pub named : file_named w.names number ≡ Some file
  pub counted : owed w number ≡ count_of m.entries number
  pub fits : count_of m.entries number ≤ greatest_count
  pub low : 2 ≤ number
  pub high : number < end_of_numbers

-- the file has no number, so its place gets the next one
pub record Unnumbered (w : World) (m : MapState) (dir : Number) (name : List ℕ) (file : FileId) : Type 0 where
  pub is_given : (number_given m dir.0 name).0 ≡ m.next
  pub fault : give_fault m dir.0 name ≡ (if nat_le end_of_numbers m.next then Some NoNumber else None)
  pub nobody : (j : ℕ) → IsNumberOf w file j → ⊥
  pub not_named : file_named w.names m.next ≡ None
  pub all_named : (n : ℕ) → 2 ≤ n → n < m.next → IsSome (file_named w.names n)
  pub low : 2 ≤ m.next

-- what the daemon knows after it answered by the table
pub record Answered (w : World) (m : MapState) (request : Request) (result : Result Effect Errno) (answer : Answer) (later : ServedState) : Type 0 where
  pub makes : plain later ≡ plain (served_after (served_over w.tree m) request result answer)
  pub keeps_tree : IsTree w.tree → IsTree later.tree

module _ (w : World) (m : MapState) (request : Request) (dir : Number) (name : List ℕ) (tree : Tree) (file : FileId) (e : Enters w m request dir name tree file) (answer : Answer) (later : ServedState) (made : Answered w m request (Ok (entered tree file)) answer later) where
  old : ServedState
  old = served_over w.tree m

  -- what the table answers by the world's numbers is one of the world's answers
  may_in : (a : Answer) → AnswersFile (numbers_of w) request tree (Some file) true none_lost a → MayAnswer w request a
  may_in a given_so = inr (subst (λ (r : Result Effect Errno). Answers (numbers_of w) request r a) (sym e.comes) given_so)

  -- the answer is an error
  error_in : (errno : Errno) → answer ≡ Error errno → MayAnswer w request (Error errno) → Worked w request answer later
  error_in errno is may = subst (λ (a : Answer). Worked w request a later) (sym is)
      (error-worked w m request (Ok (entered tree file)) errno later e.is_tree e.knows (made.makes ∙ ap (λ (a : Answer). plain (served_after (served_over w.tree m) request (Ok (entered tree file)) a)) is) may)

  -- the answer gives the number out
  told_in : give_fault m dir.0 name ≡ None → MayBeGiven w file → MayNumber w file (number_given m dir.0 name).0 → Tells request tree file (λ n. n ≡ (number_given m dir.0 name).0) answer → Worked w request answer later
  told_in clear may number t = subst (λ (a : Answer). Worked w request a later) (sym t.is) (worked-from w request entry later (Ok (entered tree file)) (Some t.number) e.comes gives
      (may_in entry (
        None,
        may,
        inl (record {
          number = t.number;
          attr = t.attr;
          is = refl;
          is_number = subst (λ (i : ℕ). MayNumber w file i) (sym t.is_number) number;
          is_attr = t.is_attr;
        }),
      ))
      (subst IsTree (sym after_tree) is_tree) known) where
        entry : Answer
        entry = telling request t.number t.attr

        gives : given_out entry ≡ Some t.number
        gives = (e.tells).gives t.number t.attr

        after_tree : tree_after w.tree (Ok (entered tree file)) entry ≡ tree
        after_tree = gift-tree w.tree (entered tree file) entry t.number gives

        so : plain later ≡ plain (served_over tree (given m dir name))
        so = made.makes ∙ ap (λ (a : Answer). plain (served_after (served_over w.tree m) request (Ok (entered tree file)) a)) t.is
            ∙ ap plain (entry-after (served_over w.tree m) request dir name (entered tree file) entry t.number e.tells gives)

        is_tree : IsTree tree
        is_tree = subst IsTree (ap (λ (p : PlainState). p.tree) so) (made.keeps_tree e.is_tree)

        gave : Knows tree (named w.names (number_given m dir.0 name).0 file) (λ n. owed w n + (if (number_given m dir.0 name).0 == n then 1 else 0)) later
        gave = knows-plain tree (named w.names (number_given m dir.0 name).0 file) (λ n. owed w n + (if (number_given m dir.0 name).0 == n then 1 else 0)) later (served_over tree (given m dir name)) so (e.gives is_tree clear)

        known : Knows (tree_after w.tree (Ok (entered tree file)) entry) (names_after w.names (Some t.number) (Some file)) (one_more (owed w) (Some t.number)) later
        known = subst (λ (x : Tree). Knows x (named w.names t.number.0 file) (λ n. owed w n + (if t.number.0 == n then 1 else 0)) later) (sym after_tree)
            (subst (λ (i : ℕ). Knows tree (named w.names i file) (λ n. owed w n + (if i == n then 1 else 0)) later) (sym t.is_number) gave)

  -- if something stands against a place's number, the answer tells it, and else the number is given
  by_fault : (told : Option GiveFault) → give_fault m dir.0 name ≡ told → IsAgainst w file (number_fault told) → (told ≡ None → MayNumber w file (number_given m dir.0 name).0) → (told ≡ Some NoMemory → ⊥) →
      (fault : Option NumberFault) → fault ≡ number_fault (give_fault m dir.0 name) → AnswersCounted (numbers_at (served_over w.tree m) (Some (dir, name))) request tree file fault answer → Worked w request answer later
  by_fault told f against number real fault is answers = in_ told f against number real (subst (λ (x : Option NumberFault). AnswersCounted (numbers_at (served_over w.tree m) (Some (dir, name))) request tree file x answer) (is ∙ ap number_fault f) answers) where
    in_ : (t : Option GiveFault) → give_fault m dir.0 name ≡ t → IsAgainst w file (number_fault t) → (t ≡ None → MayNumber w file (number_given m dir.0 name).0) → (t ≡ Some NoMemory → ⊥) →
        AnswersCounted (numbers_at (served_over w.tree m) (Some (dir, name))) request tree file (number_fault t) answer → Worked w request answer later
    in_ (Some NoNumber) f' ag nu re a = error_in (number_errno none_left) a (may_in (Error (number_errno none_left)) (Some none_left, ag, refl))
    in_ (Some TooMany) f' ag nu re a = error_in (number_errno at_greatest) a (may_in (Error (number_errno at_greatest)) (Some at_greatest, ag, refl))
    in_ (Some NoMemory) f' ag nu re a = absurd (re refl)
    in_ None f' ag nu re (inl t) = told_in f' ag (nu refl) t
    in_ None f' ag nu re (inr (inl (is', of))) = error_in EIO is' (may_in (Error EIO) (None, ag, inr (inl (refl, backed w file e.of_manifest of.0))))
    in_ None f' ag nu re (inr (inr (is', absent))) = error_in ENOMEM is' (may_in (Error ENOMEM) (None, ag, inr (inr (refl, tt))))

  -- the answer to a request for an entry is one of the world's, by what stands against the number
  abbrev Asked : Type 0
  Asked = (fault : Option NumberFault) → fault ≡ number_fault (give_fault m dir.0 name) → AnswersCounted (numbers_at (served_over w.tree m) (Some (dir, name))) request tree file fault answer → Worked w request answer later

  -- if the file has a number, that may be given out once more, or is counted as often as it may be
  numbered_in : Numbered w m dir name file → Asked
  numbered_in n = in_ (nat_le greatest_count (count_of m.entries n.number)) refl where
    may : MayNumber w file n.number
    may = live_in (eq-or (owed w n.number) 0) where
      live_in : (owed w n.number ≡ 0) ⊎ (owed w n.number ≡ 0 → ⊥) → MayNumber w file n.number
      live_in (inr some) = inl (record { live = inr (omega (arith, some)); named = n.named })
      live_in (inl none) = inr (record { no_number = λ j is. live_is j (n.same j is) is.live; low = n.low; high = n.high; named = inr n.named }) where
        live_is : (j : ℕ) → j ≡ n.number → IsLive w j → ⊥
        live_is j same (inl one) = let two : 2 ≤ n.number = n.low in omega arith
        live_is j same (inr some) = let none' : owed w j ≡ 0 = ap (owed w) same ∙ none in omega arith

    fault_is : (b : Bool) → nat_le greatest_count (count_of m.entries n.number) ≡ b → give_fault m dir.0 name ≡ (if b then Some TooMany else None)
    fault_is b t = n.fault ∙ ap (λ (c : Bool). if c then Some TooMany else None) t

    in_ : (b : Bool) → nat_le greatest_count (count_of m.entries n.number) ≡ b → Asked
    in_ true t = by_fault (Some TooMany) (fault_is true t) (n.number, record { number = record { live = inr some; named = n.named }; greatest = most }) (λ h. absurd (let none : ⊥ = cc in none)) (λ h. let none : ⊥ = cc in none) where
      most : owed w n.number ≡ greatest_count
      most = let l : greatest_count ≤ count_of m.entries n.number = grind (arith, nat_tests) in let h : count_of m.entries n.number ≤ greatest_count = n.fits in let c : owed w n.number ≡ count_of m.entries n.number = n.counted in omega arith

      some : 0 < owed w n.number
      some = let c : owed w n.number ≡ greatest_count = most in omega arith
    in_ false t = by_fault None (fault_is false t) (record { number = n.number; may = may; not_greatest = λ j is. less j is (n.same j is.number) }) (λ h. subst (λ (i : ℕ). MayNumber w file i) (sym n.is_given) may) (λ h. let none : ⊥ = cc in none) where
      less : (j : ℕ) → IsAtGreatest w file j → j ≡ n.number → ⊥
      less j is same = let l : count_of m.entries n.number < greatest_count = grind (arith, nat_tests) in let g : owed w j ≡ greatest_count = is.greatest in let c : owed w j ≡ count_of m.entries n.number = ap (owed w) same ∙ n.counted in omega arith

  -- if the file has no number, the next one is given, or no number is left
  unnumbered_in : Unnumbered w m dir name file → Asked
  unnumbered_in n = in_ (nat_le end_of_numbers m.next) refl where
    fault_is : (b : Bool) → nat_le end_of_numbers m.next ≡ b → give_fault m dir.0 name ≡ (if b then Some NoNumber else None)
    fault_is b t = n.fault ∙ ap (λ (c : Bool). if c then Some NoNumber else None) t

    in_ : (b : Bool) → nat_le end_of_numbers m.next ≡ b → Asked
    in_ true t = by_fault (Some NoNumber) (fault_is true t) (record { no_number = n.nobody; none_left = λ j low high. n.all_named j low (let l : end_of_numbers ≤ m.next = grind (arith, nat_tests) in omega arith) })
        (λ h. absurd (let none : ⊥ = cc in none)) (λ h. let none : ⊥ = cc in none)
    in_ false t = by_fault None (fault_is false t) (record { number = m.next; may = may; not_greatest = λ j is. n.nobody j is.number }) (λ h. subst (λ (i : ℕ). MayNumber w file i) (sym n.is_given) may) (λ h. let none : ⊥ = cc in none) where
      may : MayNumber w file m.next
      may = inr (record { no_number = n.nobody; low = n.low; high = grind (arith, nat_tests); named = inl n.not_named })

  -- A legal answer to a request that tells an entry is one of the world's.
  pub enters-worked : Numbered w m dir name file ⊎ Unnumbered w m dir name file → Answers (numbers_at (served_over w.tree m) (place_told request)) request (Ok (entered tree file)) answer → Worked w request answer later
  enters-worked numbers answers = in_ numbers (subst (λ (p : Option (Number × List ℕ)). AnswersFile (numbers_at (served_over w.tree m) p) request tree (Some file) true none_lost answer) ((e.tells).told) answers) where
    in_ : Numbered w m dir name file ⊎ Unnumbered w m dir name file → AnswersFile (numbers_at (served_over w.tree m) (Some (dir, name))) request tree (Some file) true none_lost answer → Worked w request answer later
    in_ (inl n) (fault, is, a) = numbered_in n fault is a
    in_ (inr n) (fault, is, a) = unnumbered_in n fault is a
