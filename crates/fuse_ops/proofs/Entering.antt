-- The number of a file that was found is given, and its file is remembered where the number is new.
use Rattle.std.proofs.Common.{◌≡◌, ℕ, ◌≤◌, List, Option, None, Some, Ok, sym, ap, ◌∙◌, subst, arith}
use Rattle.std.specs.Option.{option_map_or}
use Rattle.std.specs.Prelude.{IsSome}
use Rattle.eden_base.specs.declared.attr.Attr.{Attr}
use Rattle.eden_base.specs.declared.number.Number.{Number}
use Rattle.manifest.specs.Tree.{IsTree}
use Rattle.checkout.specs.ChangedTree.{attr_of as file_attr}
use Rattle.entry_table.specs.Entries.{entry_of, entry_at, number_of_kept, remembered, IsFileOf}
use Rattle.inode_map.specs.InodeMap.{MapState, give_fault, given, number_given, attr_of, load}
use Rattle.entry_table.specs.declared.kept.Kept.{Kept}
use Rattle.inode_map.specs.declared.loaded.LoadedAttr.{LoadedAttr}
use Rattle.fuse_ops.specs.Loading.{LoadsTold}
use Rattle.fuse_ops.specs.Gifts.{served_over, Gave}
use Rattle.fuse_ops.specs.Served.{ServedState, plain}
use Rattle.fuse_ops.specs.Soundness.{IsSound, AreRemembered, AreLoaded}
use Rattle.fuse_ops.specs.Work.{Finds}
use Rattle.fuse_ops.specs.declared.served.Found.{Found}
use Rattle.fuse_ops.proofs.Keeping.{found-gave}
use Rattle.fuse_ops.proofs.Loaded.{attr-content, gave-loaded, given-loaded, plainly-loaded, next-unloaded, load-true, told-new}
use Rattle.fuse_ops.proofs.Making.{sound-plainly}
use Rattle.fuse_ops.proofs.Remembering.{gave-entry, gave-remembers, given-remembered, plainly-remembers, remembers-in}

-- what a daemon knows, which the type keeps
abbrev pub Knows : ServedState → Type 0
Knows served = IsTree served.tree × IsSound served × AreRemembered served × AreLoaded served

-- a file that was found under a name, and what stands against its number: nothing
pub record MayEnter (served : ServedState) (dir : Number) (name : List ℕ) (found : Found) : Type 0 where
  pub is_tree : IsTree served.tree
  pub sound : IsSound served
  pub right : AreRemembered served
  pub loaded : AreLoaded served
  pub finds : Finds served dir.0 name (Ok found)
  pub clear : give_fault served.map dir.0 name ≡ None

-- as the code meets it: what the fields say, and what was found of the whole
pub may-enter : (served now : ServedState) (dir : Number) (name : List ℕ) (found : Found) → served ≡ now → IsTree served.tree × IsSound served × AreRemembered served × AreLoaded served → Finds now dir.0 name (Ok found) →
    give_fault served.map dir.0 name ≡ None → MayEnter served dir name found
may-enter served now dir name found same knows finds clear = record {
  is_tree = knows.0;
  sound = knows.1;
  right = knows.2;
  loaded = knows.3;
  finds = subst (λ (s : ServedState). Finds s dir.0 name (Ok found)) (sym same) finds;
  clear = clear;
}

module _ (served : ServedState) (dir : Number) (name : List ℕ) (found : Found) (may : MayEnter served dir name found) (map : MapState) (number : Number) (is : number ≡ number_given served.map dir.0 name) (made : map ≡ given served.map dir name) where
  gave : Gave served.tree served.map map number.0 found.file
  gave = subst (λ (m : MapState). Gave served.tree served.map m number.0 found.file) (sym made)
      (subst (λ (n : Number). Gave served.tree served.map (given served.map dir name) n.0 found.file) (sym is) (found-gave served dir name found may.is_tree may.sound may.finds may.clear))

  -- the number has an entry
  pub entered-entry : IsSome (entry_of map.entries number.0)
  entered-entry = gave-entry served.tree served.map map number.0 found.file gave

  -- what the daemon knows fits together
  pub entered-knows : Knows (served_over served.tree map)
  entered-knows = (
    may.is_tree,
    gave.sound,
    gave-remembers served.tree served.map map number.0 found.file may.sound gave (ap (λ (m : MapState). m.remembered) made ∙ given-remembered served.map dir name) may.right,
    gave-loaded served.tree served.map map number.0 found.file may.sound gave (ap (λ (m : MapState). m.loaded) made ∙ (given-loaded served.map dir name).0) may.loaded,
  )

  module _ (now : MapState) (after : now ≡ record map { remembered = remembered map.remembered number.0 found.file }) where
    -- and once the file is remembered
    remembered-entry : IsSome (entry_of now.entries number.0)
    remembered-entry = subst (λ (m : MapState). IsSome (entry_of m.entries number.0)) (sym after) entered-entry

    remembered-knows : Knows (served_over served.tree now)
    remembered-knows = (
      may.is_tree,
      sound-plainly (served_over served.tree map) (served_over served.tree now) (ap (λ (m : MapState). plain (served_over served.tree m)) after) gave.sound,
      remembers-in served.tree map now number.0 found.file after gave.names entered-knows.2,
      plainly-loaded (served_over served.tree map) (served_over served.tree now) (ap (λ (m : MapState). plain (served_over served.tree m)) after) (ap (λ (m : MapState). m.loaded) after) entered-knows.3,
    )

    -- nothing was loaded of a number that is new
    remembered-loaded : (now.loaded ≡ served.map.loaded) × (now.limit ≡ served.map.limit)
    remembered-loaded = (
      ap (λ (m : MapState). m.loaded) after ∙ ap (λ (m : MapState). m.loaded) made ∙ (given-loaded served.map dir name).0,
      ap (λ (m : MapState). m.limit) after ∙ ap (λ (m : MapState). m.limit) made ∙ (given-loaded served.map dir name).1,
    )

    module _ (free : entry_at served.map.entries dir.0 name ≡ None) where
      next : number.0 ≡ served.map.next
      next = ap (λ (n : Number). n.0) is ∙ ap (λ (o : Option Kept). (option_map_or number_of_kept o (record { 0 = served.map.next })).0) free

      unloaded : attr_of served.map.loaded number.0 ≡ None
      unloaded = next-unloaded served may.sound may.loaded number.0 next

      pub may-load : IsSome (entry_of now.entries number.0) × (attr_of now.loaded number.0 ≡ None)
      may-load = (remembered-entry, ap (λ (xs : List LoadedAttr). attr_of xs number.0) remembered-loaded.0 ∙ unloaded)

      module _ (attr : Attr) (later : MapState) (is_attr : file_attr served.tree found.file ≡ Some attr) (loads : later ≡ record now { loaded = load now.limit now.loaded number attr }) where
        plainly : plain (served_over served.tree later) ≡ plain (served_over served.tree now)
        plainly = ap (λ (m : MapState). plain (served_over served.tree m)) loads

        -- and once its attributes are loaded
        pub loaded-knows : Knows (served_over served.tree later)
        loaded-knows = (
          may.is_tree,
          sound-plainly (served_over served.tree now) (served_over served.tree later) plainly remembered-knows.1,
          plainly-remembers (served_over served.tree now) (served_over served.tree later) plainly (ap (λ (m : MapState). m.remembered) loads) remembered-knows.2,
          subst (λ (m : MapState). AreLoaded (served_over served.tree m)) (sym loads)
              (load-true (served_over served.tree now) number attr found.file names (attr-content served.tree found.file attr is_attr) remembered-knows.3),
        ) where
          names : IsFileOf served.tree now.entries number.0 found.file
          names = subst (λ (m : MapState). IsFileOf served.tree m.entries number.0 found.file) (sym after) gave.names

        pub loaded-told : LoadsTold served.map number attr later
        loaded-told = record {
          loaded = ap (λ (m : MapState). m.loaded) loads ∙ (λ i. load (remembered-loaded.1 i) (remembered-loaded.0 i) number attr) ∙ sym (told-new served.map number attr other unloaded);
          limit = ap (λ (m : MapState). m.limit) loads ∙ remembered-loaded.1;
        } where
          other : number.0 ≡ 1 → ⊥
          other one = let low : 2 ≤ number.0 = gave.low in omega arith
