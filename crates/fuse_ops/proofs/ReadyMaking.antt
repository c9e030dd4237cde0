-- What the code makes in the room that was made before: a file under a name, its number, and what is remembered of it.
use Rattle.std.proofs.Common.{◌≡◌, ℕ, ◌+◌, ◌<◌, ◌≤◌, Bool, true, false, List, [], ◌∷◌, ◌++◌, Option, Some, None, is_some, refl, arith, sym, ap, ◌∙◌, subst}
use Rattle.std.specs.Prelude.{if◌then◌else◌}
use Rattle.eden_base.specs.First.{changed_where}
use Rattle.eden_base.specs.Limits.{end_of_numbers}
use Rattle.eden_base.specs.declared.attr.Attr.{Attr}
use Rattle.eden_base.specs.declared.attr.MadeKind.{MadeKind}
use Rattle.eden_base.specs.declared.attr.Perm.{Perm}
use Rattle.eden_base.specs.declared.number.FileId.{FileId}
use Rattle.eden_base.specs.declared.number.Number.{Number}
use Rattle.manifest.specs.Tree.{Tree, IsTree}
use Rattle.checkout.specs.ChangedTree.{attr_of as file_attr, next_file, created}
use Rattle.entry_table.specs.Entries.{stands_at, once_more, new_entry, entry_of, entry_at, number_of_kept, remembered, IsFileOf}
use Rattle.inode_map.specs.InodeMap.{MapState, give_fault, given, number_given, attr_of, load}
use Rattle.entry_table.specs.declared.kept.Kept.{Kept}
use Rattle.inode_map.specs.declared.loaded.LoadedAttr.{LoadedAttr}
use Rattle.std.specs.Option.{option_map_or}
use Rattle.fuse_ops.specs.Loading.{LoadsTold}
use Rattle.fuse_ops.specs.Gifts.{served_over, Gave}
use Rattle.fuse_ops.specs.Served.{ServedState, PlainState, plain}
use Rattle.fuse_ops.specs.Soundness.{IsSound}
use Rattle.fuse_ops.specs.Work.{IsSamePlainly}
use Rattle.std.specs.Prelude.{IsSome}
use Rattle.fuse_ops.specs.Soundness.{AreRemembered, AreLoaded}
use Rattle.fuse_ops.proofs.Loaded.{attr-content, gave-loaded, given-loaded, plainly-loaded, stays-loaded, created-has, next-unloaded, load-true, told-new}
use Rattle.fuse_ops.proofs.Making.{MayMake, sound-plainly, clear_next, absent, made-keeps, made-gave}
use Rattle.fuse_ops.proofs.Remembering.{gave-entry, gave-remembers, given-remembered, plainly-remembers, stays-remembers}
use Rattle.fuse_ops.specs.Changes.{KeepsNames}

-- a map that stays
pub same-map : (tree : Tree) (old new : MapState) → new ≡ old → IsSamePlainly (served_over tree old) (served_over tree new)
same-map tree old new e = record { plainly = ap (λ (m : MapState). plain (served_over tree m)) e; bad_items = ap (λ (m : MapState). m.bad_items) e }

-- room for a number is no part of the plain state
pub same-spare : (tree : Tree) (old new : MapState) → new ≡ record old { spare = 1 } → IsSamePlainly (served_over tree old) (served_over tree new)
same-spare tree old new e = record { plainly = ap (λ (m : MapState). plain (served_over tree m)) e; bad_items = ap (λ (m : MapState). m.bad_items) e }

-- what is given in that room is what is given without it
pub given-spare : (tree : Tree) (map : MapState) (dir : Number) (name : List ℕ) → IsSamePlainly (served_over tree (given map dir name)) (served_over tree (given (record map { spare = 1 }) dir name))
given-spare tree map dir name = in_ (is_some (entry_at map.entries dir.0 name)) where
  again : MapState → MapState
  again m = record m { entries = changed_where (stands_at dir.0 name) once_more m.entries }

  fresh : MapState → MapState
  fresh m = record m { entries = m.entries ++ new_entry m.next dir name ∷ []; next = m.next + 1; spare = 0 }

  in_ : (b : Bool) → IsSamePlainly (served_over tree (if b then again map else fresh map)) (served_over tree (if b then again (record map { spare = 1 }) else fresh (record map { spare = 1 })))
  in_ true = record { plainly = refl; bad_items = refl }
  in_ false = record { plainly = refl; bad_items = refl }

-- ---- as the code makes it

module _ (served : ServedState) (dir : Number) (name : List ℕ) (above : FileId) (may : MayMake served dir name above) (kind : MadeKind) (perm : Perm) (few : served.map.next < end_of_numbers) where
  -- in that room nothing stands against the number
  pub ready-clear : (map : MapState) → map ≡ record served.map { spare = 1 } → give_fault map dir.0 name ≡ None
  ready-clear map e = ap (λ (m : MapState). give_fault m dir.0 name) e ∙ clear_next served.map dir.0 name (absent served dir name above may) few

  -- the state after all of it
  pub made-plainly : (map ready : MapState) (tree : Tree) → ready ≡ record served.map { spare = 1 } → map ≡ given ready dir name → tree ≡ created served.tree above name kind perm →
      IsSamePlainly (record { map = given served.map dir name; tree = created served.tree above name kind perm }) (served_over tree map)
  made-plainly map ready tree r m t =
      let last : map ≡ given (record served.map { spare = 1 }) dir name = m ∙ ap (λ (x : MapState). given x dir name) r in
      let so = given-spare (created served.tree above name kind perm) served.map dir name in
      record {
        plainly = ap (λ (x : MapState). plain (served_over tree x)) last ∙ ap (λ (x : Tree). plain (served_over x (given (record served.map { spare = 1 }) dir name))) t ∙ so.plainly;
        bad_items = ap (λ (x : MapState). x.bad_items) last ∙ so.bad_items;
      }

  -- it fits together
  pub made-sound : (map ready : MapState) (tree : Tree) → ready ≡ record served.map { spare = 1 } → map ≡ given ready dir name → tree ≡ created served.tree above name kind perm → IsTree tree → IsSound (served_over tree map)
  made-sound map ready tree r m t is =
      sound-plainly (record { map = given served.map dir name; tree = created served.tree above name kind perm }) (served_over tree map) (made-plainly map ready tree r m t).plainly
      (made-gave served dir name above may kind perm few (subst IsTree t is)).sound

  -- the number names the file, and what is remembered is right
  pub made-remembers : (map ready : MapState) (tree : Tree) (number : Number) → ready ≡ record served.map { spare = 1 } → map ≡ given ready dir name → tree ≡ created served.tree above name kind perm →
      IsTree tree → number ≡ number_given ready dir.0 name → AreRemembered served → IsFileOf tree map.entries number.0 (next_file served.tree) × IsSome (entry_of map.entries number.0) × AreRemembered (served_over tree map)
  made-remembers map ready tree number r m t is_tree is right = (
    subst (λ (p : PlainState). IsFileOf p.tree p.entries number.0 file) (sym plainly) (subst (λ (n : Number). IsFileOf more new.entries n.0 file) (sym number_is) gave.names),
    subst (λ (p : PlainState). IsSome (entry_of p.entries number.0)) (sym plainly) (subst (λ (n : Number). IsSome (entry_of new.entries n.0)) (sym number_is) (gave-entry more served.map new n file gave)),
    plainly-remembers (served_over more new) (served_over tree map) plainly same_files
        (gave-remembers more served.map new n file keeps.sound gave (given-remembered served.map dir name) (stays-remembers served (served_over more served.map) refl refl keeps.sound keeps.names right)),
  ) where
    file : FileId
    file = next_file served.tree

    more : Tree
    more = created served.tree above name kind perm

    new : MapState
    new = given served.map dir name

    n : ℕ
    n = (number_given served.map dir.0 name).0

    keeps : KeepsNames served (record served { tree = created served.tree above name kind perm })
    keeps = made-keeps served dir name above may kind perm

    gave : Gave (created served.tree above name kind perm) served.map (given served.map dir name) (number_given served.map dir.0 name).0 (next_file served.tree)
    gave = made-gave served dir name above may kind perm few (subst IsTree t is_tree)

    plainly : plain (served_over tree map) ≡ plain (served_over (created served.tree above name kind perm) (given served.map dir name))
    plainly = (made-plainly map ready tree r m t).plainly

    number_is : number ≡ number_given served.map dir.0 name
    number_is = is ∙ ap (λ (x : MapState). number_given x dir.0 name) r

    same_files : map.remembered ≡ (given served.map dir name).remembered
    same_files = ap (λ (x : MapState). x.remembered) m ∙ given-remembered ready dir name ∙ ap (λ (x : MapState). x.remembered) r ∙ sym (given-remembered served.map dir name)

  -- making the room loads nothing
  made-kept : (map ready : MapState) → ready ≡ record served.map { spare = 1 } → map ≡ given ready dir name → (map.loaded ≡ served.map.loaded) × (map.limit ≡ served.map.limit)
  made-kept map ready r m = (
    ap (λ (x : MapState). x.loaded) m ∙ (given-loaded ready dir name).0 ∙ ap (λ (x : MapState). x.loaded) r,
    ap (λ (x : MapState). x.limit) m ∙ (given-loaded ready dir name).1 ∙ ap (λ (x : MapState). x.limit) r,
  )

  -- what is loaded is true
  made-loaded : (map ready : MapState) (tree : Tree) → ready ≡ record served.map { spare = 1 } → map ≡ given ready dir name → tree ≡ created served.tree above name kind perm → IsTree tree → AreLoaded served → AreLoaded (served_over tree map)
  made-loaded map ready tree r m t is_tree right =
      plainly-loaded (served_over more new) (served_over tree map) (made-plainly map ready tree r m t).plainly ((made-kept map ready r m).0 ∙ sym (given-loaded served.map dir name).0)
      (gave-loaded more served.map new (number_given served.map dir.0 name).0 (next_file served.tree) keeps.sound (made-gave served dir name above may kind perm few (subst IsTree t is_tree)) (given-loaded served.map dir name).0
      (stays-loaded served (served_over more served.map) (created-has served.tree above name kind perm may.is_tree) refl refl keeps.sound keeps.names right)) where
        more : Tree
        more = created served.tree above name kind perm

        new : MapState
        new = given served.map dir name

        keeps : KeepsNames served (record served { tree = created served.tree above name kind perm })
        keeps = made-keeps served dir name above may kind perm

  -- nothing is loaded for the new number
  made-unloaded : (ready : MapState) (number : Number) → ready ≡ record served.map { spare = 1 } → number ≡ number_given ready dir.0 name → AreLoaded served → attr_of served.map.loaded number.0 ≡ None
  made-unloaded ready number r is right =
      next-unloaded served may.sound right number.0 (ap (λ (n : Number). n.0) is ∙ ap (λ (x : MapState). (number_given x dir.0 name).0) r
      ∙ ap (λ (o : Option Kept). (option_map_or number_of_kept o (record { 0 = served.map.next })).0) (absent served dir name above may))

  -- and once its file is remembered, and the file's attributes are loaded
  module _ (map ready now : MapState) (tree : Tree) (number : Number) (file : FileId) (r : ready ≡ record served.map { spare = 1 }) (m : map ≡ given ready dir name) (t : tree ≡ created served.tree above name kind perm) (is_tree : IsTree tree)
      (is : number ≡ number_given ready dir.0 name) (right : AreLoaded served) (after : now ≡ record map { remembered = remembered map.remembered number.0 file }) where
    kept-now : (now.loaded ≡ served.map.loaded) × (now.limit ≡ served.map.limit)
    kept-now = (ap (λ (x : MapState). x.loaded) after ∙ (made-kept map ready r m).0, ap (λ (x : MapState). x.limit) after ∙ (made-kept map ready r m).1)

    pub made-may_load : attr_of now.loaded number.0 ≡ None
    made-may_load = ap (λ (xs : List LoadedAttr). attr_of xs number.0) kept-now.0 ∙ made-unloaded ready number r is right

    module _ (later : MapState) (attr : Attr) (names : IsFileOf tree map.entries number.0 file) (is_attr : file_attr tree file ≡ Some attr) (loads : later ≡ record now { loaded = load now.limit now.loaded number attr }) where
      pub made-loads : AreLoaded (served_over tree later)
      made-loads = subst (λ (x : MapState). AreLoaded (served_over tree x)) (sym loads)
          (load-true (served_over tree now) number attr file (subst (λ (x : MapState). IsFileOf tree x.entries number.0 file) (sym after) names) (attr-content tree file attr is_attr)
          (plainly-loaded (served_over tree map) (served_over tree now) (ap (λ (x : MapState). plain (served_over tree x)) after) (ap (λ (x : MapState). x.loaded) after) (made-loaded map ready tree r m t is_tree right)))

      pub made-told : LoadsTold served.map number attr later
      made-told = record {
        loaded = ap (λ (x : MapState). x.loaded) loads ∙ (λ i. load (kept-now.1 i) (kept-now.0 i) number attr) ∙ sym (told-new served.map number attr other (made-unloaded ready number r is right));
        limit = ap (λ (x : MapState). x.limit) loads ∙ kept-now.1;
      } where
        other : number.0 ≡ 1 → ⊥
        other one = let low : 2 ≤ number.0 = subst (λ (n : Number). 2 ≤ n.0) (sym (is ∙ ap (λ (x : MapState). number_given x dir.0 name) r)) (made-gave served dir name above may kind perm few (subst IsTree t is_tree)).low in omega arith

  -- where the file was not made, nothing was
  pub unmade : (map : MapState) (tree : Tree) → map ≡ record served.map { spare = 1 } → tree ≡ served.tree → IsSamePlainly served (served_over tree map)
  unmade map tree m t = record {
    plainly = ap (λ (x : Tree). plain (served_over x map)) t ∙ (same-spare served.tree served.map map m).plainly;
    bad_items = (same-spare served.tree served.map map m).bad_items;
  }

  pub unmade-remembers : (map : MapState) (tree : Tree) → map ≡ record served.map { spare = 1 } → tree ≡ served.tree → AreRemembered served → AreRemembered (served_over tree map)
  unmade-remembers map tree m t right = plainly-remembers served (served_over tree map) (unmade map tree m t).plainly (ap (λ (x : MapState). x.remembered) m) right

  pub unmade-loaded : (map : MapState) (tree : Tree) → map ≡ record served.map { spare = 1 } → tree ≡ served.tree → AreLoaded served → AreLoaded (served_over tree map)
  unmade-loaded map tree m t right = plainly-loaded served (served_over tree map) (unmade map tree m t).plainly (ap (λ (x : MapState). x.loaded) m) right
