-- What is loaded stays true, whatever a daemon is asked.
use Rattle.std.proofs.Common.{◌≡◌, ℕ, ◌<◌, Bool, true, false, List, [], ◌∷◌, ◌++◌, Option, Some, None, is_some, refl, sym, ap, ◌∙◌, subst, inl, inr, ◌⊎◌, arith}
use Rattle.std.specs.List.{filter}
use Rattle.std.specs.Option.{option_map, option_map_or}
use Rattle.std.specs.Prelude.{◌+◌, ◌-◌, ◌==◌, ◌^◌, min, if◌then◌else◌}
use Rattle.eden_base.proofs.MemberLemmas.{some-IsSome}
use Rattle.eden_base.proofs.NumberTests.{eq-false, false-ne}
use Rattle.eden_base.specs.First.{changed_where}
use Rattle.eden_base.specs.declared.attr.Attr.{Attr}
use Rattle.eden_base.specs.declared.attr.MadeKind.{MadeKind}
use Rattle.eden_base.specs.declared.attr.Perm.{Perm}
use Rattle.eden_base.specs.declared.number.FileId.{FileId}
use Rattle.eden_base.specs.declared.number.Number.{Number}
use Rattle.checkout.proofs.CreateLaws.{file_of-created_other}
use Rattle.manifest.specs.Tree.{Tree, IsTree, file_of as tree_file, nlink_of_kind}
use Rattle.checkout.specs.ChangedTree.{attr_of as file_attr, nlink_of, is_unlinked, created, removed}
use Rattle.manifest.specs.declared.content.Content.{Content}
use Rattle.entry_table.proofs.FileLemmas.{IsFileOf-same, named-known}
use Rattle.entry_table.specs.Entries.{entry_of, entry_at, is_kept, is_bad_item, lowered, has_number, marked, stands_at, once_more, new_entry}
use Rattle.inode_map.specs.InodeMap.{MapState, left_with, left_of_use, given, forgotten, unlinked, attr_of, loaded_number, load, used}
use Rattle.entry_table.specs.declared.kept.Kept.{Kept}
use Rattle.inode_map.specs.declared.loaded.LoadedAttr.{LoadedAttr}
use Rattle.fuse_ops.specs.Changes.{KeepsNames, MayLose}
use Rattle.fuse_ops.specs.Gifts.{served_over, Gave}
use Rattle.fuse_ops.specs.Loading.{loaded_told}
use Rattle.fuse_ops.specs.Served.{ServedState, PlainState, plain, name_taken}
use Rattle.fuse_ops.specs.Soundness.{IsSound, Names, AreLoaded, content_in}
use Rattle.fuse_ops.proofs.ForgettingLaw.{forgets-well}
use Rattle.fuse_ops.proofs.Keeping.{forgotten-sound}
use Rattle.fuse_ops.proofs.Known.{named-range}
use Rattle.fuse_ops.proofs.LoadedLists.{load-loaded, used-loaded, left-loaded}
use Rattle.fuse_ops.proofs.Remembering.{gave-keeps, still-named}
use Rattle.fuse_ops.proofs.UnnamingLaw.{unnaming-keeps}

-- the files of a tree are files of another
abbrev pub HasFiles : Tree → Tree → Type 0
HasFiles new old = (file : FileId) (f : Content) → tree_file old file ≡ Some f → tree_file new file ≡ Some f

-- what was loaded, of numbers that name what they named
pub loaded-on : (old new : ServedState) → HasFiles new.tree old.tree →
    ((m : ℕ) (a : Attr) → attr_of new.map.loaded m ≡ Some a → (attr_of old.map.loaded m ≡ Some a) × ((f : FileId) → Names old m f → Names new m f)) → AreLoaded old → AreLoaded new
loaded-on old new files left right n attr e =
    let l = left n attr e in
    let was = right n attr l.0 in
    (was.0, l.1 was.0 was.1, files was.0 (content_in attr) was.2)

-- the same loaded attributes are true in a state that is plainly the same
pub plainly-loaded : (old new : ServedState) → plain new ≡ plain old → new.map.loaded ≡ old.map.loaded → AreLoaded old → AreLoaded new
plainly-loaded old new e same right n attr l =
    subst (λ (p : PlainState). (file : FileId) × Rattle.entry_table.specs.Entries.IsFileOf p.tree p.entries n file × (tree_file p.tree file ≡ Some (content_in attr))) (sym e)
    (right n attr (ap (λ (xs : List LoadedAttr). attr_of xs n) (sym same) ∙ l))

-- nothing is loaded of a number that was not given
pub next-unloaded : (served : ServedState) → IsSound served → AreLoaded served → (n : ℕ) → n ≡ served.map.next → attr_of served.map.loaded n ≡ None
next-unloaded served sound right n is = in_ (attr_of served.map.loaded n) refl where
  in_ : (o : Option Attr) → attr_of served.map.loaded n ≡ o → o ≡ None
  in_ None e = refl
  in_ (Some a) e = absurd (let was = right n a e in let low = (named-range served sound n was.0 was.1).1 in let none : ⊥ = omega arith in none)

-- ---- one more is loaded

-- what is told of a file, its names apart
pub attr-content : (tree : Tree) (file : FileId) (attr : Attr) → file_attr tree file ≡ Some attr → tree_file tree file ≡ Some (content_in attr)
attr-content tree file attr e = in_ (tree_file tree file) e where
  in_ : (o : Option Content) → option_map (λ (f : Content). record { kind = f.kind; perm = f.perm; size = f.size; nlink = nlink_of tree file f.kind }) o ≡ Some attr → o ≡ Some (content_in attr)
  in_ None h = absurd (let none : ⊥ = cc in none)
  in_ (Some f) h = let same : record { kind = f.kind; perm = f.perm; size = f.size; nlink = nlink_of tree file f.kind } ≡ attr = cc in ap (λ (a : Attr). Some (content_in a)) same

-- attributes of a number that is not the root's and of which nothing is loaded
pub told-new : (map : MapState) (number : Number) (attr : Attr) → (number.0 ≡ 1 → ⊥) → attr_of map.loaded number.0 ≡ None → loaded_told map number attr ≡ load map.limit map.loaded number attr
told-new map number attr other none =
    let f : (number.0 == 1) ≡ false = eq-false number.0 1 other in
    ap (λ (b : Bool). if b then map.loaded else if is_some (attr_of map.loaded number.0) then used map.loaded number.0 else load map.limit map.loaded number attr) f
    ∙ ap (λ (o : Option Attr). if is_some o then used map.loaded number.0 else load map.limit map.loaded number attr) none

-- the attributes of a loaded number, with the count of its names
pub loaded-attr : (served : ServedState) (n : ℕ) (file : FileId) (unlinked : Bool) (nlink : ℕ) (loaded : Attr) → AreLoaded served → Names served n file → is_unlinked served.tree file ≡ unlinked →
    nlink ≡ (if unlinked then 0 else nlink_of_kind loaded.kind) → attr_of served.map.loaded n ≡ Some loaded →
    file_attr served.tree file ≡ Some (record { kind = loaded.kind; perm = loaded.perm; size = loaded.size; nlink = nlink })
loaded-attr served n file unlinked nlink loaded right names is counted at =
    let was = right n loaded at in
    let same : was.0 ≡ file = IsFileOf-same served.tree served.map.entries n was.0 file was.1 names in
    let told : nlink_of served.tree file loaded.kind ≡ nlink = ap (λ (b : Bool). if b then 0 else nlink_of_kind loaded.kind) is ∙ sym counted in
    ap (option_map (λ (f : Content). record { kind = f.kind; perm = f.perm; size = f.size; nlink = nlink_of served.tree file f.kind })) (sym (ap (tree_file served.tree) same) ∙ was.2)
    ∙ ap (λ (m : ℕ). Some (record { kind = loaded.kind; perm = loaded.perm; size = loaded.size; nlink = m })) told

-- a number's attributes are loaded, which are its file's
pub load-true : (served : ServedState) (number : Number) (attr : Attr) (file : FileId) → Names served number.0 file → tree_file served.tree file ≡ Some (content_in attr) → AreLoaded served →
    AreLoaded (record served { map = record served.map { loaded = load served.map.limit served.map.loaded number attr } })
load-true served number attr file names is right n a e = in_ (load-loaded served.map.limit served.map.loaded number attr n a e) where
  in_ : ((n ≡ number.0) × (a ≡ attr)) ⊎ (attr_of served.map.loaded n ≡ Some a) → (f : FileId) × Names served n f × (tree_file served.tree f ≡ Some (content_in a))
  in_ (inl (same, own)) = (file, subst (λ (k : ℕ). Names served k file) (sym same) names, is ∙ ap (λ (x : Attr). Some (content_in x)) (sym own))
  in_ (inr before) = right n a before

-- what is loaded is true after loaded attributes became the most recent
pub used-true : (served : ServedState) (n : ℕ) → AreLoaded served → AreLoaded (record served { map = record served.map { loaded = used served.map.loaded n } })
used-true served n right m a e = right m a (used-loaded served.map.loaded n m a e)

-- ---- a number is given

pub gave-loaded : (tree : Tree) (old new : MapState) (n : ℕ) (file : FileId) → IsSound (served_over tree old) → Gave tree old new n file → new.loaded ≡ old.loaded → AreLoaded (served_over tree old) → AreLoaded (served_over tree new)
gave-loaded tree old new n file sound g same right =
    loaded-on (served_over tree old) (served_over tree new) (λ f c e. e) (λ m a e. (ap (λ (xs : List LoadedAttr). attr_of xs m) (sym same) ∙ e, gave-keeps tree old new n file sound g m)) right

-- giving loads nothing
pub given-loaded : (map : MapState) (dir : Number) (name : List ℕ) → ((given map dir name).loaded ≡ map.loaded) × ((given map dir name).limit ≡ map.limit)
given-loaded map dir name = in_ (is_some (entry_at map.entries dir.0 name)) where
  after : Bool → MapState
  after b = if b then record map { entries = changed_where (stands_at dir.0 name) once_more map.entries } else record map { entries = map.entries ++ new_entry map.next dir name ∷ []; next = map.next + 1; spare = 0 }

  in_ : (b : Bool) → ((after b).loaded ≡ map.loaded) × ((after b).limit ≡ map.limit)
  in_ true = (refl, refl)
  in_ false = (refl, refl)

-- ---- entries leave, or the tree changes

-- the number has an entry
entry_kept : (es : List Kept) (m : ℕ) → is_kept es m ≡ true → (kept : Kept) × (entry_of es m ≡ Some kept)
entry_kept es m k = in_ (entry_of es m) refl k where
  in_ : (o : Option Kept) → entry_of es m ≡ o → is_some o ≡ true → (kept : Kept) × (entry_of es m ≡ Some kept)
  in_ None e h = absurd (let none : ⊥ = cc in none)
  in_ (Some kept) e h = (kept, e)

pub left_with-loaded : (old new : ServedState) (es : List Kept) → HasFiles new.tree old.tree → new.map.entries ≡ es → new.map.loaded ≡ filter (λ (l : LoadedAttr). is_kept es (loaded_number l)) old.map.loaded →
    IsSound new → ((m : ℕ) (f : FileId) → Names new m f → Names old m f) → AreLoaded old → AreLoaded new
left_with-loaded old new es files e l sound names right = loaded-on old new files (λ m a h.
    let was = left-loaded es old.map.loaded m a (ap (λ (xs : List LoadedAttr). attr_of xs m) (sym l) ∙ h) in
    (was.0, λ f at. still-named old new sound names m f at (inr (entry_kept new.map.entries m (ap (λ (xs : List Kept). is_kept xs m) e ∙ was.1))))) right

-- what is loaded is true if neither entries nor what is loaded changed
pub stays-loaded : (old new : ServedState) → HasFiles new.tree old.tree → new.map.entries ≡ old.map.entries → new.map.loaded ≡ old.map.loaded → IsSound new → ((m : ℕ) (f : FileId) → Names new m f → Names old m f) → AreLoaded old → AreLoaded new
stays-loaded old new files e l sound names right = loaded-on old new files (λ m a h. (
  ap (λ (xs : List LoadedAttr). attr_of xs m) (sym l) ∙ h,
  λ f at. still-named old new sound names m f at (subst (λ (xs : List Kept). (m ≡ 1) ⊎ ((kept : Kept) × (entry_of xs m ≡ Some kept))) (sym e) (named-known old.tree old.map.entries m f at)),
)) right

-- what is loaded is true after an item of a forget
pub forgotten-loaded : (served : ServedState) (n k : ℕ) → IsTree served.tree → IsSound served → AreLoaded served → AreLoaded (served_over served.tree (forgotten served.map n k))
forgotten-loaded served n k is sound right = in_ (n == 1) (is_bad_item served.map.entries n k) refl refl (forgotten-sound served n k is sound) where
  after : Bool → Bool → ServedState
  after b c = served_over served.tree (
      if b then served.map
      else if c then record served.map { bad_items = min (served.map.bad_items + 1) (2 ^ 64 - 1) }
      else left_with (left_of_use (lowered served.map.entries n k)) served.map)

  in_ : (b c : Bool) → (n == 1) ≡ b → is_bad_item served.map.entries n k ≡ c → IsSound (after (n == 1) (is_bad_item served.map.entries n k)) → AreLoaded (after (n == 1) (is_bad_item served.map.entries n k))
  in_ true c e f fits = rw (e) right
  in_ false true e f fits = rw (e, f) right
  in_ false false e f fits =
      let lowers = forgets-well served n k is sound (false-ne n 1 e) f in
      let made : after (n == 1) (is_bad_item served.map.entries n k) ≡ after false false = ap (λ (b : Bool). after b (is_bad_item served.map.entries n k)) e ∙ ap (after false) f in
      subst AreLoaded (sym made) (left_with-loaded served (after false false) (left_of_use (lowered served.map.entries n k)) (λ g c h. h) refl refl (subst IsSound made fits)
      (λ m g at. lowers.1.left_name m g (subst (λ (s : ServedState). Names s m g) (sym made) at)) right)

-- a name is taken away
pub taken-loaded : (served : ServedState) (number : Number) (dir : FileId) (name : List ℕ) (file : FileId) (map : MapState) (tree : Tree) → MayLose served number dir name file → map ≡ name_taken served.map number name file →
    tree ≡ removed served.tree dir name → AreLoaded served → AreLoaded (record { map = map; tree = tree })
taken-loaded served number dir name file map tree may m t right =
    subst (λ (s : ServedState). AreLoaded s) (λ i. record { map = sym m i; tree = sym t i }) (in_ (entry_at served.map.entries number.0 name) refl (unnaming-keeps served number dir name file may)) where
      after : Option Kept → ServedState
      after o = record { map = option_map_or (λ (x : Kept). unlinked served.map x.number.0 file) o served.map; tree = removed served.tree dir name }

      in_ : (o : Option Kept) → entry_at served.map.entries number.0 name ≡ o → KeepsNames served (after (entry_at served.map.entries number.0 name)) → AreLoaded (after (entry_at served.map.entries number.0 name))
      in_ None e keeps =
          let k = subst (λ (o : Option Kept). KeepsNames served (after o)) e keeps in
          subst (λ (o : Option Kept). AreLoaded (after o)) (sym e) (stays-loaded served (after None) (λ g c h. h) refl refl k.sound k.names right)
      in_ (Some kept) e keeps =
          let k = subst (λ (o : Option Kept). KeepsNames served (after o)) e keeps in
          subst (λ (o : Option Kept). AreLoaded (after o)) (sym e)
          (left_with-loaded served (after (Some kept)) (left_of_use (changed_where (has_number kept.number.0) (marked file) served.map.entries)) (λ g c h. h) refl refl k.sound k.names right)

-- the files of a tree stay where one is made
pub created-has : (tree : Tree) (dir : FileId) (name : List ℕ) (kind : MadeKind) (perm : Perm) → IsTree tree → HasFiles (created tree dir name kind perm) tree
created-has tree dir name kind perm is file f e =
    file_of-created_other tree dir name kind perm file (λ same. let low : file.0 < tree.next_file = is.ids_below_next file (some-IsSome (tree_file tree file) f e) in let none : ⊥ = omega arith in none) ∙ e
