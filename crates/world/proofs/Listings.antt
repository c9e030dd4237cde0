-- What stays in a directory is given once by a listing, whatever happens between its READDIRs.
use Rattle.std.proofs.Common.{◌≡◌, ℕ, ◌+◌, ◌<◌, ◌≤◌, Bool, true, false, List, [], ◌∷◌, ◌++◌, Option, Some, None, refl, sym, subst, inl, inr, arith}
use Rattle.std.specs.Prelude.{nat_le}
use Rattle.std.proofs.lemmas.Bool.Decides.{nat_tests}
use Rattle.std.specs.Option.{option_map}
use Rattle.eden_base.specs.First.{first_where}
use Rattle.eden_base.specs.declared.attr.Kind.{Kind}
use Rattle.eden_base.specs.declared.attr.Kind.TheVariants.{Dir, File, Link}
use Rattle.eden_base.specs.declared.number.FileId.{FileId}
use Rattle.manifest.specs.Tree.{Tree, StandsIn, kind_of}
use Rattle.fuse_wire.specs.DirectoryEntries.{Dirent}
use Rattle.fuse_wire.specs.declared.request.Ask.{Ask}
use Rattle.fuse_wire.specs.declared.request.Request.{Request}
use Rattle.fuse_wire.specs.declared.request.Request.TheVariants.{Readdir}
use Rattle.fuse_wire.specs.declared.reply.Answer.{Answer}
use Rattle.fuse_wire.specs.declared.reply.Answer.TheVariants.{Buffer}
use Rattle.fuse_ops.specs.Answers.{lists_dir, lists_from, Answers}
use Rattle.fuse_ops.specs.Listing.{is_child, Lists}
use Rattle.world.specs.World.{World, IsInode, Move, issue, issue_item, work, work_item, accept, deliver, mount, claim, end, MayAnswer, MayMove, MayWork, IsRun, numbers_of, is_asked, after}
use Rattle.world.specs.Listings.{IsAskedFrom, GivesEntries, Gives, GivesIfAsked, EachGives, behind, ListsOver, StaysIn, AreRising, IsAmong, ListingsAreWhole}

-- ---- what one READDIR gives

module _ (Inode : FileId → ℕ → Type 0) (tree : Tree) (dir : FileId) where
  -- the first of the entries rise
  lists-rising : (from room : ℕ) (here left : List Dirent) → Lists Inode tree dir from room (here ++ left) → AreRising from here
  lists-rising from room [] left lists = tt
  lists-rising from room (entry ∷ here) left (first, fits, rest) = (first.behind, lists-rising entry.next _ here left rest)

  -- a file of the directory is among them, if they go on behind it
  lists-has : (from room : ℕ) (here left : List Dirent) (file : FileId) → Lists Inode tree dir from room (here ++ left) → StandsIn tree.links file dir → from ≤ file.0 → file.0 < behind from here → IsAmong file here
  lists-has from room [] left file lists stands low high = absurd (omega arith)
  lists-has from room (entry ∷ here) left file (first, fits, rest) stands low high = in_ (λ reached. lists-has entry.next _ here left file rest stands reached high) (nat_le entry.next file.0) refl where
    near : entry.next ≤ file.0 + 1
    near = first.first file.0 stands.0 file (is_child file.0 stands.0 file refl stands.1) low

    in_ : (entry.next ≤ file.0 → IsAmong file here) → (b : Bool) → nat_le entry.next file.0 ≡ b → IsAmong file (entry ∷ here)
    in_ others true t = inr (others (grind (arith, nat_tests)))
    in_ others false t = inl (let far : file.0 < entry.next = grind (arith, nat_tests) in omega (arith, near))

-- by a move
gives-rising : (world : World) (move : Move) (dir : FileId) (from : ℕ) (here left : List Dirent) → Gives world move dir from (here ++ left) → AreRising from here
gives-rising world (work unique answer) dir from here left g = lists-rising (IsInode world) world.tree dir from _ here left g.lists
gives-rising world (issue ask) dir from here left g = absurd g
gives-rising world (issue_item item) dir from here left g = absurd g
gives-rising world (work_item item) dir from here left g = absurd g
gives-rising world (accept unique daemon) dir from here left g = absurd g
gives-rising world (deliver unique) dir from here left g = absurd g
gives-rising world (mount daemon) dir from here left g = absurd g
gives-rising world (claim g daemon) dir from here left none = absurd none
gives-rising world end dir from here left g = absurd g

gives-has : (world : World) (move : Move) (dir : FileId) (from : ℕ) (here left : List Dirent) (file : FileId) → Gives world move dir from (here ++ left) → StandsIn world.tree.links file dir → from ≤ file.0 → file.0 < behind from here → IsAmong file here
gives-has world (work unique answer) dir from here left file g = lists-has (IsInode world) world.tree dir from _ here left file g.lists
gives-has world (issue ask) dir from here left file g = absurd g
gives-has world (issue_item item) dir from here left file g = absurd g
gives-has world (work_item item) dir from here left file g = absurd g
gives-has world (accept unique daemon) dir from here left file g = absurd g
gives-has world (deliver unique) dir from here left file g = absurd g
gives-has world (mount daemon) dir from here left file g = absurd g
gives-has world (claim g daemon) dir from here left file none = absurd none
gives-has world end dir from here left file g = absurd g

-- ---- what several give

rising-join : (from : ℕ) (here later : List Dirent) → AreRising from here → AreRising (behind from here) later → AreRising from (here ++ later)
rising-join from [] later rise more = more
rising-join from (entry ∷ here) later (first, rise) more = (first, rising-join entry.next here later rise more)

among-front : (file : FileId) (here later : List Dirent) → IsAmong file here → IsAmong file (here ++ later)
among-front file (entry ∷ here) later (inl is) = inl is
among-front file (entry ∷ here) later (inr among) = inr (among-front file here later among)
among-front file [] later none = absurd none

among-back : (file : FileId) (here later : List Dirent) → IsAmong file later → IsAmong file (here ++ later)
among-back file [] later among = among
among-back file (entry ∷ here) later among = inr (among-back file here later among)

listing-rises : (dir : FileId) (whole : Bool) (world : World) (from : ℕ) (moves : List Move) (entries : List Dirent) → ListsOver dir whole world from moves entries → AreRising from entries
listing-rises dir whole world from [] entries (stopped, none) = subst (AreRising from) (sym none) tt
listing-rises dir whole world from (move ∷ moves) entries (inl rest) = listing-rises dir whole (after world move) from moves entries rest
listing-rises dir whole world from (move ∷ moves) entries (inr (inl (gives, ends, none))) = subst (AreRising from) (sym none) tt
listing-rises dir whole world from (move ∷ moves) entries (inr (inr (here, left, later, gives, rest, is))) = subst (AreRising from) (sym is)
    (rising-join from here later (gives-rising world move dir from here left gives) (listing-rises dir whole (after world move) (behind from here) moves later rest))

listing-has : (dir file : FileId) (world : World) (from : ℕ) (moves : List Move) (entries : List Dirent) → from ≤ file.0 → ListsOver dir true world from moves entries → StaysIn dir file world moves → IsAmong file entries
listing-has dir file world from [] entries low (stopped, none) stays = absurd (let no : ⊥ = cc in no)
listing-has dir file world from (move ∷ moves) entries low (inl rest) stays = listing-has dir file (after world move) from moves entries low rest stays.1
listing-has dir file world from (move ∷ moves) entries low (inr (inl (gives, ends, none))) stays =
    absurd (ends file.0 stays.0.0 file (is_child file.0 stays.0.0 file refl stays.0.1) low)
listing-has dir file world from (move ∷ moves) entries low (inr (inr (here, left, later, gives, rest, is))) stays = subst (IsAmong file) (sym is) (in_ (λ reached. listing-has dir file (after world move) (behind from here) moves later reached rest stays.1) (nat_le (behind from here) file.0) refl) where
  in_ : (behind from here ≤ file.0 → IsAmong file later) → (b : Bool) → nat_le (behind from here) file.0 ≡ b → IsAmong file (here ++ later)
  in_ others true t = among-back file here later (others (grind (arith, nat_tests)))
  in_ others false t = among-front file here later (gives-has world move dir from here left file gives stays.0 low (grind (arith, nat_tests)))

-- ---- each READDIR is answered by entries, or by an error

module _ (world : World) (unique : ℕ) (bytes : List ℕ) (dir : FileId) (from size : ℕ) (asked : IsAskedFrom world unique dir from size) where
  abbrev Given : Type 0
  Given = (entries : List Dirent) × GivesEntries world unique (Buffer bytes) dir from entries

  by_kind : (kind : Option Kind) → Answers (numbers_of world) (Readdir asked.node from size) (lists_dir world.tree dir from size kind) (Buffer bytes) → Given
  by_kind (Some Dir) (inl (entries, lists, is)) = (entries, record { size = size; asked = asked; bytes = is; lists = lists })
  by_kind (Some Dir) (inr lack) = absurd (let none : ⊥ = cc in none)
  by_kind (Some File) is = absurd (let none : ⊥ = cc in none)
  by_kind (Some Link) is = absurd (let none : ⊥ = cc in none)
  by_kind None is = absurd (let none : ⊥ = cc in none)

  answered-gives : MayAnswer world (Readdir asked.node from size) (Buffer bytes) → Given
  answered-gives (inl (stale, is)) = absurd (let none : ⊥ = cc in none)
  answered-gives (inr answers) = by_kind (kind_of world.tree dir)
      (subst (λ (o : Option FileId). Answers (numbers_of world) (Readdir asked.node from size) (lists_from world.tree o from size) (Buffer bytes)) asked.names answers)

  may-give : (o : Option Ask) → option_map (λ (ask : Ask). ask.what) o ≡ Some (Readdir asked.node from size) → (MayMove world (work unique (Buffer bytes)) → first_where (is_asked unique) world.asks ≡ o → Given)
  may-give None is may at = absurd (let none : ⊥ = cc in none)
  may-give (Some ask) is may at = answered-gives (subst (λ (what : Request). MayAnswer world what (Buffer bytes)) what_is (works at may)) where
    what_is : ask.what ≡ Readdir asked.node from size
    what_is = (let same : Some ask.what ≡ Some (Readdir asked.node from size) = is in cc)

    works : first_where (is_asked unique) world.asks ≡ Some ask → MayMove world (work unique (Buffer bytes)) → MayAnswer world ask.what (Buffer bytes)
    works e m = subst (λ (p : Option Ask). MayWork world p (Buffer bytes)) e m

move-gives : (world : World) (move : Move) → MayMove world move → GivesIfAsked world move
move-gives world (work unique answer) may = λ bytes dir from size is asked.
    let given = may-give world unique bytes dir from size asked (first_where (is_asked unique) world.asks) asked.asked (subst (λ (a : Answer). MayMove world (work unique a)) is may) refl in
    (given.0, subst (λ (a : Answer). GivesEntries world unique a dir from given.0) (sym is) given.1)
move-gives world (issue ask) may = tt
move-gives world (issue_item item) may = tt
move-gives world (work_item item) may = tt
move-gives world (accept unique daemon) may = tt
move-gives world (deliver unique) may = tt
move-gives world (mount daemon) may = tt
move-gives world (claim g daemon) may = tt
move-gives world end may = tt

run-gives : (world : World) (moves : List Move) → IsRun world moves → EachGives world moves
run-gives world [] run = tt
run-gives world (move ∷ moves) (may, run) = (move-gives world move may, run-gives (after world move) moves run)

-- the listings of a run
pub listings-whole : (world : World) (moves : List Move) → IsRun world moves → ListingsAreWhole world moves
listings-whole world moves run = record {
  given = run-gives world moves run;
  once = λ opening part dir whole entries is lists. listing-rises dir whole opening 0 part entries lists;
  all = λ opening part dir file entries high is lists stays. listing-has dir file opening 0 part entries (omega arith) lists stays;
}
