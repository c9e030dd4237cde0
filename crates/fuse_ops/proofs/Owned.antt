-- Both owners of what a request is answered get a legal answer: the answer itself, or ENOMEM for a buffer.
use Rattle.std.proofs.Common.{◌≡◌, inl, inr, ℕ, Bool, true, false, List, Option, Some, None, Result, Ok, Err, refl, sym, ap, ◌∙◌, subst}
use Rattle.std.specs.Prelude.{◌↔◌, nat_lt}
use Rattle.eden_base.specs.declared.attr.Attr.{Attr}
use Rattle.eden_base.specs.declared.attr.Kind.{Kind}
use Rattle.eden_base.specs.declared.attr.Kind.TheVariants.{Dir, File, Link}
use Rattle.eden_base.specs.declared.attr.MadeKind.{MadeKind}
use Rattle.eden_base.specs.declared.attr.Perm.{Perm}
use Rattle.eden_base.specs.declared.errno.Errno.{Errno}
use Rattle.eden_base.specs.declared.errno.Errno.TheVariants.{EIO, ENOMEM}
use Rattle.eden_base.specs.declared.number.FileId.{FileId}
use Rattle.eden_base.specs.declared.number.Number.{Number}
use Rattle.manifest.specs.Tree.{Tree, file_of, kind_of}
use Rattle.manifest.specs.declared.content.Content.{Content}
use Rattle.fuse_wire.specs.declared.form.Form.{Form}
use Rattle.fuse_wire.specs.declared.form.Form.TheVariants.{AnEntry, AnOpenEntry, Attributes, NoValue, ABuffer, FileBytes, OnlyAnError}
use Rattle.fuse_wire.specs.declared.reply.Answer.{Answer}
use Rattle.fuse_wire.specs.declared.reply.Answer.TheVariants.{Entry, Opened, Attrs, Done, Buffer, Extent, Error}
use Rattle.fuse_wire.specs.declared.reply.Extent.{Extent as FilePart}
use Rattle.fuse_wire.specs.declared.request.Request.{Request}
use Rattle.fuse_wire.specs.ReplyText.{is_buffer}
use Rattle.fuse_wire.specs.Request.{form_of}
use Rattle.fuse_wire.specs.Sharing.{StandsFor}
use Rattle.fuse_ops.specs.Answers.{Answers, AnswersCounted, AnswersEffect, AnswersFile, AnswersNone, AnswersShown, Deed, Effect, NameChange, NumberFault, Numbers, Tells, none_lost, one_lost, one_moved, find_name, make_file, take_name, move_name, show_file, list_dir, read_file, unserved, deed_of, done_to, comes_to, told_as, found_in, free_in, enters, shows, makes, takes, takes_from, moves_between, lists_dir, lists_from, reads_unless, reads_file, reads_from, Contents, lists_range, reads_extent, unless, against_taking}
use Rattle.fuse_ops.specs.Extents.{Reading, extent_read, against_reading}
use Rattle.fuse_ops.specs.Served.{Replay, ServedState, map_after, names_changed, numbers_at, place_told, plain, served_after}
use Rattle.fuse_ops.proofs.Movable.{by-move}
use Rattle.fuse_ops.proofs.Shapes.{error-after, none-changed, none-given}

told-fixed : (form : Form) (number : Number) (attr : Attr) → is_buffer (told_as form number attr) ≡ false
told-fixed AnEntry number attr = refl
told-fixed AnOpenEntry number attr = refl
told-fixed Attributes number attr = refl
told-fixed NoValue number attr = refl
told-fixed ABuffer number attr = refl
told-fixed FileBytes number attr = refl
told-fixed OnlyAnError number attr = refl

tells-fixed : (request : Request) (tree : Tree) (file : FileId) (IsNumber : ℕ → Type 0) (answer : Answer) → Tells request tree file IsNumber answer → is_buffer answer ≡ false
tells-fixed request tree file IsNumber answer tells = ap is_buffer tells.is ∙ told-fixed (form_of request) tells.number tells.attr

counted-fixed : (numbers : Numbers) (request : Request) (tree : Tree) (file : FileId) (fault : Option NumberFault) (answer : Answer) → AnswersCounted numbers request tree file fault answer → is_buffer answer ≡ false
counted-fixed numbers request tree file (Some fault) answer is = ap is_buffer is
counted-fixed numbers request tree file None answer (inl tells) = tells-fixed request tree file _ answer tells
counted-fixed numbers request tree file None answer (inr (inl (is, may))) = ap is_buffer is
counted-fixed numbers request tree file None answer (inr (inr (is, may))) = ap is_buffer is

shown-fixed : (numbers : Numbers) (request : Request) (tree : Tree) (file : FileId) (answer : Answer) → AnswersShown numbers request tree file answer → is_buffer answer ≡ false
shown-fixed numbers request tree file answer (inl tells) = tells-fixed request tree file _ answer tells
shown-fixed numbers request tree file answer (inr (is, may)) = ap is_buffer is

none-fixed : (names : NameChange) (answer : Answer) → AnswersNone names answer → is_buffer answer ≡ false
none-fixed (one_moved replaced) answer (inl is) = ap is_buffer is
none-fixed (one_moved replaced) answer (inr is) = ap is_buffer is
none-fixed none_lost answer is = ap is_buffer is
none-fixed (one_lost file) answer is = ap is_buffer is

file-fixed : (numbers : Numbers) (request : Request) (tree : Tree) (file : Option FileId) (counts : Bool) (names : NameChange) (answer : Answer) → AnswersFile numbers request tree file counts names answer → is_buffer answer ≡ false
file-fixed numbers request tree (Some file) true names answer (fault, against, is) = counted-fixed numbers request tree file fault answer is
file-fixed numbers request tree (Some file) false names answer is = shown-fixed numbers request tree file answer is
file-fixed numbers request tree None counts names answer is = none-fixed names answer is

-- ---- what reads a file or a directory changes nothing

-- an effect by which a file or a directory is read changes neither the tree nor a name
abbrev IsStill : Tree → Effect → Option Contents → Type 0
IsStill tree effect (Some contents) = (effect.tree ≡ tree) × (effect.names ≡ none_lost)
IsStill tree effect None = Unit {0}

abbrev IsStillIn : Tree → Result Effect Errno → Type 0
IsStillIn tree (Ok effect) = IsStill tree effect effect.contents
IsStillIn tree (Err errno) = Unit {0}

enters-still : (tree : Tree) (r : Result FileId Errno) → IsStillIn tree (enters tree r)
enters-still tree (Ok file) = tt
enters-still tree (Err errno) = tt

shows-still : (tree : Tree) (o : Option FileId) → IsStillIn tree (shows tree o)
shows-still tree (Some file) = tt
shows-still tree None = tt

makes-still : (tree : Tree) (name : List ℕ) (kind : MadeKind) (perm : Perm) (r : Result FileId Errno) → IsStillIn tree (makes tree name kind perm r)
makes-still tree name kind perm (Ok dir) = tt
makes-still tree name kind perm (Err errno) = tt

takes-still : (tree : Tree) (dir : FileId) (name : List ℕ) (r : Result FileId Errno) → IsStillIn tree (takes tree dir name r)
takes-still tree dir name (Ok file) = tt
takes-still tree dir name (Err errno) = tt

takes_from-still : (tree : Tree) (against : FileId → Option Errno) (o : Option FileId) (name : List ℕ) → IsStillIn tree (takes_from tree against o name)
takes_from-still tree against (Some dir) name = takes-still tree dir name (unless against (found_in tree (Some dir) name))
takes_from-still tree against None name = tt

moves-still : (tree : Tree) (o : Option FileId) (name : List ℕ) (p : Option FileId) (to_name : List ℕ) (r : Result Effect Errno) → moves_between tree o name p to_name ≡ r → IsStillIn tree r
moves-still tree o name p to_name (Ok effect) is = by-move tree o name p to_name effect is (λ (x : Effect). IsStill tree x x.contents) tt (λ from to g. tt)
moves-still tree o name p to_name (Err errno) is = tt

lists_dir-still : (tree : Tree) (dir : FileId) (offset size : ℕ) (kind : Option Kind) → IsStillIn tree (lists_dir tree dir offset size kind)
lists_dir-still tree dir offset size (Some Dir) = (refl, refl)
lists_dir-still tree dir offset size (Some File) = tt
lists_dir-still tree dir offset size (Some Link) = tt
lists_dir-still tree dir offset size None = tt

lists_from-still : (tree : Tree) (o : Option FileId) (offset size : ℕ) → IsStillIn tree (lists_from tree o offset size)
lists_from-still tree (Some dir) offset size = lists_dir-still tree dir offset size (kind_of tree dir)
lists_from-still tree None offset size = tt

reads_unless-still : (tree : Tree) (extent : FilePart) (against : Option Errno) → IsStillIn tree (reads_unless tree extent against)
reads_unless-still tree extent (Some errno) = tt
reads_unless-still tree extent None = (refl, refl)

reads_file-still : (tree : Tree) (file : FileId) (reading : Reading) (o : Option Content) → IsStillIn tree (reads_file tree file reading o)
reads_file-still tree file reading (Some content) = reads_unless-still tree (extent_read file content.size reading) (against_reading reading content.kind content.size)
reads_file-still tree file reading None = tt

reads_from-still : (tree : Tree) (o : Option FileId) (reading : Reading) → IsStillIn tree (reads_from tree o reading)
reads_from-still tree (Some file) reading = reads_file-still tree file reading (file_of tree file)
reads_from-still tree None reading = tt

done-still : (tree : Tree) (files : ℕ → Option FileId) (deed : Deed) → IsStillIn tree (done_to tree files deed)
done-still tree files (find_name dir name) = enters-still tree (found_in tree (files dir.0) name)
done-still tree files (make_file dir name kind perm) = makes-still tree name kind perm (free_in tree (files dir.0) name)
done-still tree files (take_name dir name kind) = takes_from-still tree (against_taking kind tree) (files dir.0) name
done-still tree files (move_name dir name to_dir to_name) = moves-still tree (files dir.0) name (files to_dir.0) to_name (moves_between tree (files dir.0) name (files to_dir.0) to_name) refl
done-still tree files (show_file node) = shows-still tree (files node.0)
done-still tree files (list_dir dir offset size) = lists_from-still tree (files dir.0) offset size
done-still tree files (read_file node reading) = reads_from-still tree (files node.0) reading
done-still tree files unserved = tt

-- ---- memory for a second owner was refused

-- of what is answered with a buffer, ENOMEM is an answer, too, and nothing changed
module _ (old : ServedState) (request : Request) (numbers : Numbers) (bytes : List ℕ) where
  abbrev IsLack : Result Effect Errno → Type 0
  IsLack r = Answers numbers request r (Error ENOMEM) × (served_after old request r (Buffer bytes) ≡ old)

  lack_of : (effect : Effect) (contents : Option Contents) → effect.contents ≡ contents → AnswersEffect numbers request effect contents (Buffer bytes) → IsStill old.tree effect contents → IsLack (Ok effect)
  lack_of effect (Some (reads_extent extent)) is a still = absurd (let none : ⊥ = cc in none)
  lack_of effect (Some (lists_range range)) is a still = (
    subst (λ (o : Option Contents). AnswersEffect numbers request effect o (Error ENOMEM)) (sym is) (inr refl),
    λ i. record { map = map_is i; tree = still.0 i },
  ) where
    map_is : names_changed (map_after old.map (place_told request) None) (deed_of request) effect.names ≡ old.map
    map_is = ap (names_changed (map_after old.map (place_told request) None) (deed_of request)) still.1
        ∙ none-changed (map_after old.map (place_told request) None) (deed_of request) ∙ none-given old.map (place_told request)
  lack_of effect None is a still = absurd (let fixed : is_buffer (Buffer bytes) ≡ false = file-fixed numbers request effect.tree effect.file effect.counts effect.names (Buffer bytes) a in let none : ⊥ = cc in none)

  lack_in : (r : Result Effect Errno) → Answers numbers request r (Buffer bytes) → IsStillIn old.tree r → IsLack r
  lack_in (Ok effect) a still = lack_of effect effect.contents refl a still
  lack_in (Err errno) a still = absurd (let none : ⊥ = cc in none)

pub lacks-replay : (old : ServedState) (request : Request) (bytes : List ℕ) (new : ServedState) → Replay old request (Some (Buffer bytes)) new → Replay old request (Some (Error ENOMEM)) new
lacks-replay old request bytes new (is, legal) =
    let result = comes_to old.tree legal.files request in
    let lack = lack_in old request (numbers_at old (place_told request)) bytes result legal.answers (done-still old.tree legal.files (deed_of request)) in (
      is,
      record {
        files = legal.files;
        locates = legal.locates;
        answers = lack.0;
        makes = legal.makes ∙ ap plain (lack.1 ∙ sym (error-after old request result ENOMEM));
        bad_items = legal.bad_items;
        keeps_tree = legal.keeps_tree;
      },
    )

-- ---- both owners

-- what holds of the answer, and of ENOMEM if the answer is a buffer, holds of what an owner gets
pub by-owner : (answer owned : Answer) → StandsFor answer owned → (P : Answer → Type 0) → P answer → ((bytes : List ℕ) → answer ≡ Buffer bytes → P (Error ENOMEM)) → P owned
by-owner (Entry number attr) owned is P same lacks = subst P (sym is) same
by-owner (Opened number attr) owned is P same lacks = subst P (sym is) same
by-owner (Attrs number attr) owned is P same lacks = subst P (sym is) same
by-owner Done owned is P same lacks = subst P (sym is) same
by-owner (Buffer bytes) owned (inl is) P same lacks = subst P (sym is) same
by-owner (Buffer bytes) owned (inr is) P same lacks = subst P (sym is) (lacks bytes refl)
by-owner (Extent extent) owned is P same lacks = subst P (sym is) same
by-owner (Error errno) owned is P same lacks = subst P (sym is) same

-- what an owner gets is a legal answer, too
pub owned-replay : (old : ServedState) (request : Request) (answer owned : Answer) (new : ServedState) → Replay old request (Some answer) new → StandsFor answer owned → Replay old request (Some owned) new
owned-replay old request answer owned new replay stands = by-owner answer owned stands (λ (a : Answer). Replay old request (Some a) new) replay
    (λ bytes is. lacks-replay old request bytes new (subst (λ (a : Answer). Replay old request (Some a) new) is replay))

-- and EIO exactly if the answer is
pub owned-eio : (answer owned : Answer) → StandsFor answer owned → (owned ≡ Error EIO) ↔ (answer ≡ Error EIO)
owned-eio answer owned stands = by-owner answer owned stands (λ (a : Answer). (a ≡ Error EIO) ↔ (answer ≡ Error EIO)) (λ e. e, λ e. e)
    (λ bytes is. (λ e. absurd (let none : ⊥ = cc in none), λ e. absurd (let none : ⊥ = cc in none)))
