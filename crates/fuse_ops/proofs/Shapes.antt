-- Requests by their deeds: what becomes of a name by them. A kind of request more whose deed is one of these needs no
-- line here.
use Rattle.std.proofs.Common.{◌≡◌, ℕ, ◌+◌, Bool, true, false, ◌&&◌, List, [], ◌∷◌, ◌++◌, Option, Some, None, is_some, Result, Ok, Err, refl, sym, ap, ◌∙◌}
use Rattle.std.specs.Prelude.{if◌then◌else◌}
use Rattle.eden_base.specs.First.{changed_where}
use Rattle.std.specs.Option.{option_map_or}
use Rattle.eden_base.specs.declared.attr.Attr.{Attr}
use Rattle.eden_base.specs.declared.attr.Kind.{Kind}
use Rattle.eden_base.specs.declared.attr.Kind.TheVariants.{Dir, File, Link}
use Rattle.eden_base.specs.declared.attr.MadeKind.{MadeKind}
use Rattle.eden_base.specs.declared.attr.Perm.{Perm}
use Rattle.eden_base.specs.declared.errno.Errno.{Errno}
use Rattle.eden_base.specs.declared.errno.Errno.TheVariants.{EISDIR, ENOTDIR, ENOTEMPTY}
use Rattle.eden_base.specs.declared.number.FileId.{FileId}
use Rattle.eden_base.specs.declared.number.Number.{Number}
use Rattle.manifest.specs.Tree.{Tree, kind_of, is_dir}
use Rattle.checkout.specs.ChangedTree.{has_links, is_full_dir}
use Rattle.fuse_wire.specs.Request.{form_of}
use Rattle.fuse_wire.specs.Given.{given_out}
use Rattle.fuse_wire.specs.declared.request.Request.{Request}
use Rattle.fuse_wire.specs.declared.request.Request.TheVariants.{Other}
use Rattle.fuse_wire.specs.declared.form.Form.TheVariants.{AnEntry, Attributes, NoValue, ABuffer, FileBytes}
use Rattle.fuse_wire.specs.declared.reply.Answer.{Answer}
use Rattle.fuse_wire.specs.declared.reply.Answer.TheVariants.{Entry, Opened, Attrs, Done, Buffer, Extent, Error}
use Rattle.fuse_wire.specs.declared.reply.Extent.{Extent as FilePart}
use Rattle.entry_table.specs.Entries.{entry_at, stands_at, once_more, new_entry}
use Rattle.inode_map.specs.InodeMap.{MapState, given, unlinked, relinked}
use Rattle.entry_table.specs.declared.kept.Kept.{Kept}
use Rattle.fuse_ops.specs.Extents.{Reading}
use Rattle.fuse_ops.specs.Answers.{lists_range, reads_extent, NameChange, none_lost, one_lost, one_moved, Effect, Deed, find_name, make_file, take_name, move_name, show_file, list_dir, read_file, deed_of, unless, against_unlink, against_rmdir, against_taking, telling, tree_after, name_change}
use Rattle.fuse_ops.specs.Listing.{Range}
use Rattle.fuse_ops.specs.Served.{ServedState, place_entered, place_told, name_taken, map_after, names_changed, served_after}

-- the success of this request tells the entry of this name
pub record TellsEntry (request : Request) (dir : Number) (name : List ℕ) : Type 0 where
  pub told : place_told request ≡ Some (dir, name)
  pub stays : (map : MapState) (change : NameChange) → names_changed map (deed_of request) change ≡ map
  pub gives : (number : Number) (attr : Attr) → given_out (telling request number attr) ≡ Some number

-- the success of this request takes this name away
pub record TakesPlace (request : Request) (dir : Number) (name : List ℕ) : Type 0 where
  pub told : place_told request ≡ None
  pub takes : (map : MapState) (file : FileId) → names_changed map (deed_of request) (one_lost file) ≡ name_taken map dir name file

-- the success of this request moves a name from one place to another, or takes none away
pub record MovesPlace (request : Request) (dir : Number) (name : List ℕ) (to_dir : Number) (to_name : List ℕ) : Type 0 where
  pub told : place_told request ≡ None
  pub moves : (map : MapState) (change : NameChange) → names_changed map (deed_of request) change ≡ names_changed map (move_name dir name to_dir to_name) change

-- a file of a tree, whose number is held once more
abbrev pub entered : Tree → FileId → Effect
entered tree file = record { tree = tree; file = Some file; counts = true; names = none_lost; contents = None }

-- a file of a tree that stays as it is, whose number is held as often as before
abbrev pub shown : Tree → FileId → Effect
shown tree file = record { tree = tree; file = Some file; counts = false; names = none_lost; contents = None }

-- a tree that stays as it is, of which part of a directory is listed
abbrev pub listed : Tree → Range → Effect
listed tree range = record { tree = tree; file = None; counts = false; names = none_lost; contents = Some (lists_range range) }

-- a tree that stays as it is, of which part of a file is read
abbrev pub read_of : Tree → FilePart → Effect
read_of tree extent = record { tree = tree; file = None; counts = false; names = none_lost; contents = Some (reads_extent extent) }

-- ---- the requests

-- what tells an entry gives its number out
entry-gives : (request : Request) (dir : Number) (name : List ℕ) → place_told request ≡ Some (dir, name) → (number : Number) (attr : Attr) → given_out (telling request number attr) ≡ Some number
entry-gives (Other opcode node) dir name e number attr = absurd (let none : ⊥ = cc in none)
entry-gives request dir name e number attr = cc

-- the forms of the answers for a name that is found, a file that is shown, and a name that is taken away
pub find-form : (request : Request) (dir : Number) (name : List ℕ) → deed_of request ≡ find_name dir name → form_of request ≡ AnEntry
find-form (Other opcode node) dir name e = absurd (let none : ⊥ = cc in none)
find-form request dir name e = cc

pub show-form : (request : Request) (node : Number) → deed_of request ≡ show_file node → form_of request ≡ Attributes
show-form (Other opcode other) node e = absurd (let none : ⊥ = cc in none)
show-form request node e = cc

pub take-form : (request : Request) (dir : Number) (name : List ℕ) (kind : Kind) → deed_of request ≡ take_name dir name kind → form_of request ≡ NoValue
take-form (Other opcode node) dir name kind e = absurd (let none : ⊥ = cc in none)
take-form request dir name kind e = cc

pub move-form : (request : Request) (dir : Number) (name : List ℕ) (to_dir : Number) (to_name : List ℕ) → deed_of request ≡ move_name dir name to_dir to_name → form_of request ≡ NoValue
move-form (Other opcode node) dir name to_dir to_name e = absurd (let none : ⊥ = cc in none)
move-form request dir name to_dir to_name e = cc

pub list-form : (request : Request) (dir : Number) (offset size : ℕ) → deed_of request ≡ list_dir dir offset size → form_of request ≡ ABuffer
list-form (Other opcode node) dir offset size e = absurd (let none : ⊥ = cc in none)
list-form request dir offset size e = cc

pub read-form : (request : Request) (node : Number) (reading : Reading) → deed_of request ≡ read_file node reading → form_of request ≡ FileBytes
read-form (Other opcode other) node reading e = absurd (let none : ⊥ = cc in none)
read-form request node reading e = cc

pub find-tells : (request : Request) (dir : Number) (name : List ℕ) → deed_of request ≡ find_name dir name → TellsEntry request dir name
find-tells request dir name e = record { told = ap place_entered e; stays = λ map change. ap (λ (d : Deed). names_changed map d change) e; gives = entry-gives request dir name (ap place_entered e) }

pub make-tells : (request : Request) (dir : Number) (name : List ℕ) (kind : MadeKind) (perm : Perm) → deed_of request ≡ make_file dir name kind perm → TellsEntry request dir name
make-tells request dir name kind perm e = record { told = ap place_entered e; stays = λ map change. ap (λ (d : Deed). names_changed map d change) e; gives = entry-gives request dir name (ap place_entered e) }

pub take-takes : (request : Request) (dir : Number) (name : List ℕ) (kind : Kind) → deed_of request ≡ take_name dir name kind → TakesPlace request dir name
take-takes request dir name kind e = record { told = ap place_entered e; takes = λ map file. ap (λ (d : Deed). names_changed map d (one_lost file)) e }

pub move-moves : (request : Request) (dir : Number) (name : List ℕ) (to_dir : Number) (to_name : List ℕ) → deed_of request ≡ move_name dir name to_dir to_name → MovesPlace request dir name to_dir to_name
move-moves request dir name to_dir to_name e = record { told = ap place_entered e; moves = λ map change. ap (λ (d : Deed). names_changed map d change) e }

-- ---- what stood against a name that is taken

-- no directory, or an empty one
unlink-frees : (tree : Tree) (file : FileId) → against_unlink tree file ≡ None → is_full_dir tree file ≡ false
unlink-frees tree file e = in_ (is_dir (kind_of tree file)) e where
  in_ : (b : Bool) → (if b then Some EISDIR else None) ≡ None → (b && has_links tree file) ≡ false
  in_ true h = absurd (let none : ⊥ = cc in none)
  in_ false h = refl

rmdir-frees : (tree : Tree) (file : FileId) → against_rmdir tree file ≡ None → is_full_dir tree file ≡ false
rmdir-frees tree file e = in_ (is_dir (kind_of tree file)) (has_links tree file) e where
  in_ : (b c : Bool) → (if b then (if c then Some ENOTEMPTY else None) else Some ENOTDIR) ≡ None → (b && c) ≡ false
  in_ true true h = absurd (let none : ⊥ = cc in none)
  in_ true false h = refl
  in_ false c h = absurd (let none : ⊥ = cc in none)

pub take-frees : (kind : Kind) (tree : Tree) (file : FileId) → against_taking kind tree file ≡ None → is_full_dir tree file ≡ false
take-frees File tree file e = unlink-frees tree file e
take-frees Link tree file e = unlink-frees tree file e
take-frees Dir tree file e = rmdir-frees tree file e

abbrev good : FileId → Result FileId Errno
good file = Ok file

-- what was found, and against which nothing stands
pub unless-found : (against : FileId → Option Errno) (found : Result FileId Errno) (file : FileId) → unless against found ≡ Ok file → (found ≡ Ok file) × (against file ≡ None)
unless-found against (Err errno) file e = absurd (let none : ⊥ = cc in none)
unless-found against (Ok f) file e = in_ (against f) refl e where
  in_ : (o : Option Errno) → against f ≡ o → option_map_or (λ (errno : Errno). Err errno) o (good f) ≡ good file → (good f ≡ good file) × (against file ≡ None)
  in_ None a h = let same : f ≡ file = cc in (h, ap against (sym same) ∙ a)
  in_ (Some errno) a h = absurd (let none : ⊥ = cc in none)

-- ---- what is known after an answer

-- where no file lost its name the map stays
pub none-changed : (map : MapState) (deed : Deed) → names_changed map deed none_lost ≡ map
none-changed map (take_name dir name kind) = refl
none-changed map (move_name dir name to_dir to_name) = refl
none-changed map deed = refl

-- where no number is given out the map stays
pub none-given : (map : MapState) (place : Option (Number × List ℕ)) → map_after map place None ≡ map
none-given map None = refl
none-given map (Some place) = refl

-- an error changes nothing
pub error-after : (old : ServedState) (request : Request) (result : Result Effect Errno) (errno : Errno) → served_after old request result (Error errno) ≡ old
error-after old request result errno = ap (λ (m : MapState). record old { map = m }) (none-changed (map_after old.map (place_told request) None) (deed_of request) ∙ none-given old.map (place_told request))

-- what gives a number out is a success, whose tree is the tree after it
pub gift-tree : (tree : Tree) (effect : Effect) (answer : Answer) (number : Number) → given_out answer ≡ Some number → tree_after tree (Ok effect) answer ≡ effect.tree
gift-tree tree effect (Entry n attr) number e = refl
gift-tree tree effect (Opened n attr) number e = refl
gift-tree tree effect (Attrs n attr) number e = refl
gift-tree tree effect Done number e = refl
gift-tree tree effect (Buffer bytes) number e = refl
gift-tree tree effect (Extent extent) number e = refl
gift-tree tree effect (Error errno) number e = absurd (let none : ⊥ = cc in none)

-- the number of the name is counted once more, over the tree of the effect
pub entry-after : (old : ServedState) (request : Request) (dir : Number) (name : List ℕ) (effect : Effect) (answer : Answer) (number : Number) → TellsEntry request dir name → given_out answer ≡ Some number →
    served_after old request (Ok effect) answer ≡ record { map = given old.map dir name; tree = effect.tree }
entry-after old request dir name effect answer number tells e = λ i. record { map = map_is i; tree = gift-tree old.tree effect answer number e i } where
  map_is : names_changed (map_after old.map (place_told request) (given_out answer)) (deed_of request) (name_change (Ok effect) answer) ≡ given old.map dir name
  map_is = tells.stays (map_after old.map (place_told request) (given_out answer)) (name_change (Ok effect) answer)
      ∙ ap (λ (p : Option (Number × List ℕ)). map_after old.map p (given_out answer)) tells.told
      ∙ ap (λ (o : Option Number). map_after old.map (Some (dir, name)) o) e

-- a file that is shown changes nothing
pub shown-after : (old : ServedState) (request : Request) (node : Number) (effect : Effect) (answer : Answer) → deed_of request ≡ show_file node → (tree_after old.tree (Ok effect) answer ≡ old.tree) → served_after old request (Ok effect) answer ≡ old
shown-after old request node effect answer does stays = λ i. record { map = map_is i; tree = stays i } where
  map_is : names_changed (map_after old.map (place_told request) (given_out answer)) (deed_of request) (name_change (Ok effect) answer) ≡ old.map
  map_is = ap (λ (d : Deed). names_changed (map_after old.map (place_entered d) (given_out answer)) d (name_change (Ok effect) answer)) does

-- nor does a directory that is listed
pub listed-after : (old : ServedState) (request : Request) (dir : Number) (offset size : ℕ) (effect : Effect) (bytes : List ℕ) → deed_of request ≡ list_dir dir offset size → effect.tree ≡ old.tree → served_after old request (Ok effect) (Buffer bytes) ≡ old
listed-after old request dir offset size effect bytes does stays = λ i. record { map = map_is i; tree = stays i } where
  map_is : names_changed (map_after old.map (place_told request) None) (deed_of request) effect.names ≡ old.map
  map_is = ap (λ (d : Deed). names_changed (map_after old.map (place_entered d) None) d effect.names) does

-- nor does a file that is read
pub read-after : (old : ServedState) (request : Request) (node : Number) (reading : Reading) (effect : Effect) (extent : FilePart) → deed_of request ≡ read_file node reading → effect.tree ≡ old.tree → served_after old request (Ok effect) (Extent extent) ≡ old
read-after old request node reading effect extent does stays = λ i. record { map = map_is i; tree = stays i } where
  map_is : names_changed (map_after old.map (place_told request) None) (deed_of request) effect.names ≡ old.map
  map_is = ap (λ (d : Deed). names_changed (map_after old.map (place_entered d) None) d effect.names) does

-- the name of the file is taken
pub done-after : (old : ServedState) (request : Request) (dir : Number) (name : List ℕ) (effect : Effect) (file : FileId) → TakesPlace request dir name → effect.names ≡ one_lost file →
    served_after old request (Ok effect) Done ≡ record { map = name_taken old.map dir name file; tree = effect.tree }
done-after old request dir name effect file takes e = λ i. record { map = map_is i; tree = effect.tree } where
  map_is : names_changed (map_after old.map (place_told request) None) (deed_of request) effect.names ≡ name_taken old.map dir name file
  map_is = ap (λ (p : Option (Number × List ℕ)). names_changed (map_after old.map p None) (deed_of request) effect.names) takes.told
      ∙ ap (names_changed old.map (deed_of request)) e
      ∙ takes.takes old.map file

-- the name moved, or stayed
pub moved-after : (old : ServedState) (request : Request) (dir : Number) (name : List ℕ) (to_dir : Number) (to_name : List ℕ) (effect : Effect) → MovesPlace request dir name to_dir to_name →
    served_after old request (Ok effect) Done ≡ record { map = names_changed old.map (move_name dir name to_dir to_name) effect.names; tree = effect.tree }
moved-after old request dir name to_dir to_name effect place = λ i. record { map = map_is i; tree = effect.tree } where
  map_is : names_changed (map_after old.map (place_told request) None) (deed_of request) effect.names ≡ names_changed old.map (move_name dir name to_dir to_name) effect.names
  map_is = ap (λ (p : Option (Number × List ℕ)). names_changed (map_after old.map p None) (deed_of request) effect.names) place.told ∙ place.moves old.map effect.names

-- none counts a bad forget
pub given-bad_items : (map : MapState) (dir : Number) (name : List ℕ) → (given map dir name).bad_items ≡ map.bad_items
given-bad_items map dir name = in_ (is_some (entry_at map.entries dir.0 name)) where
  in_ : (b : Bool) → (if b then record map { entries = changed_where (stands_at dir.0 name) once_more map.entries } else record map { entries = map.entries ++ new_entry map.next dir name ∷ []; next = map.next + 1; spare = 0 }).bad_items ≡ map.bad_items
  in_ true = refl
  in_ false = refl

pub taken-bad_items : (map : MapState) (dir : Number) (name : List ℕ) (file : FileId) → (name_taken map dir name file).bad_items ≡ map.bad_items
taken-bad_items map dir name file = in_ (entry_at map.entries dir.0 name) where
  in_ : (o : Option Kept) → (option_map_or (λ (kept : Kept). unlinked map kept.number.0 file) o map).bad_items ≡ map.bad_items
  in_ None = refl
  in_ (Some kept) = refl

pub moved-bad_items : (map : MapState) (dir : Number) (name : List ℕ) (to_dir : Number) (to_name : List ℕ) (change : NameChange) → (names_changed map (move_name dir name to_dir to_name) change).bad_items ≡ map.bad_items
moved-bad_items map dir name to_dir to_name none_lost = refl
moved-bad_items map dir name to_dir to_name (one_lost file) = refl
moved-bad_items map dir name to_dir to_name (one_moved replaced) = in_ (entry_at map.entries dir.0 name) replaced where
  in_ : (o : Option Kept) (r : Option FileId) → (option_map_or (λ (kept : Kept). relinked map kept.number.0 to_dir to_name r) o (option_map_or (name_taken map to_dir to_name) r map)).bad_items ≡ map.bad_items
  in_ (Some kept) r = refl
  in_ None None = refl
  in_ None (Some file) = taken-bad_items map to_dir to_name file
