-- The numbers that a request looks at: it is an ask that goes to them, it comes to what their files make of it, and it is
-- stale where one of them names no file.
use Rattle.std.proofs.Common.{◌≡◌, ℕ, suc, true, List, [], ◌∷◌, Option, Some, None, Err, refl, ap, ◌∙◌, inl, inr, ◌⊎◌, arith}
use Rattle.std.specs.Prelude.{Contains}
use Rattle.std.specs.List.{AllByRecursion}
use Rattle.eden_base.specs.declared.errno.Errno.TheVariants.{ESTALE}
use Rattle.eden_base.specs.declared.number.FileId.{FileId}
use Rattle.eden_base.specs.declared.number.Number.{Number}
use Rattle.manifest.specs.Tree.{Tree}
use Rattle.fuse_wire.specs.Request.{is_ask, nodes}
use Rattle.fuse_wire.specs.declared.request.Request.{Request}
use Rattle.fuse_wire.specs.declared.request.Request.TheVariants.{Other}
use Rattle.entry_table.specs.Entries.{IsFileOf}
use Rattle.fuse_ops.specs.Answers.{Deed, find_name, make_file, take_name, move_name, show_file, list_dir, read_file, unserved, looked_at, done_to, looks_at, found_in, free_in, enters, shows, lists_from, reads_from, makes, takes_from, moves_between, against_taking}
use Rattle.fuse_ops.specs.Served.{ServedState, IsLocated}

-- what looks at a number is answered, and goes to the numbers that it looks at
pub looks-ask : (request : Request) (node : Number) (others : List Number) → looks_at request ≡ node ∷ others → is_ask request ≡ true
looks-ask (Other opcode other) node others e = refl
looks-ask request node others e = cc

pub looks-nodes : (request : Request) (node : Number) (others : List Number) → looks_at request ≡ node ∷ others → nodes request ≡ node ∷ others
looks-nodes (Other opcode other) node others e = absurd (let none : ⊥ = cc in none)
looks-nodes request node others e = e

-- ---- by the deed

-- what a deed comes to is said by the files of the numbers that are looked at
pub done-same : (tree : Tree) (files others : ℕ → Option FileId) (deed : Deed) → AllByRecursion (λ (node : Number). files node.0 ≡ others node.0) (looked_at deed) → done_to tree files deed ≡ done_to tree others deed
done-same tree files others (find_name dir name) (e, _) = ap (λ (o : Option FileId). enters tree (found_in tree o name)) e
done-same tree files others (make_file dir name kind perm) (e, _) = ap (λ (o : Option FileId). makes tree name kind perm (free_in tree o name)) e
done-same tree files others (take_name dir name kind) (e, _) = ap (λ (o : Option FileId). takes_from tree (against_taking kind tree) o name) e
done-same tree files others (move_name dir name to_dir to_name) (e, (f, _)) =
    ap (λ (o : Option FileId). moves_between tree o name (files to_dir.0) to_name) e ∙ ap (λ (o : Option FileId). moves_between tree (others dir.0) name o to_name) f
done-same tree files others (show_file node) (e, _) = ap (shows tree) e
done-same tree files others (list_dir dir offset size) (e, _) = ap (λ (o : Option FileId). lists_from tree o offset size) e
done-same tree files others (read_file node reading) (e, _) = ap (λ (o : Option FileId). reads_from tree o reading) e
done-same tree files others unserved all = refl

-- one of these numbers names no file
abbrev pub IsMissing : (ℕ → Option FileId) → List Number → Type 0
IsMissing files [] = ⊥
IsMissing files (node ∷ numbers) = (files node.0 ≡ None) ⊎ IsMissing files numbers

-- a deed that looks at such a number is stale
pub done-stale : (tree : Tree) (files : ℕ → Option FileId) (deed : Deed) → IsMissing files (looked_at deed) → done_to tree files deed ≡ Err ESTALE
done-stale tree files (find_name dir name) (inl e) = ap (λ (o : Option FileId). enters tree (found_in tree o name)) e
done-stale tree files (make_file dir name kind perm) (inl e) = ap (λ (o : Option FileId). makes tree name kind perm (free_in tree o name)) e
done-stale tree files (take_name dir name kind) (inl e) = ap (λ (o : Option FileId). takes_from tree (against_taking kind tree) o name) e
done-stale tree files (move_name dir name to_dir to_name) (inl e) = ap (λ (o : Option FileId). moves_between tree o name (files to_dir.0) to_name) e
done-stale tree files (move_name dir name to_dir to_name) (inr (inl e)) = ap (λ (o : Option FileId). moves_between tree (files dir.0) name o to_name) e ∙ nowhere (files dir.0) where
  nowhere : (o : Option FileId) → moves_between tree o name None to_name ≡ Err ESTALE
  nowhere None = refl
  nowhere (Some file) = refl
done-stale tree files (move_name dir name to_dir to_name) (inr (inr none)) = absurd none
done-stale tree files (show_file node) (inl e) = ap (shows tree) e
done-stale tree files (list_dir dir offset size) (inl e) = ap (λ (o : Option FileId). lists_from tree o offset size) e
done-stale tree files (read_file node reading) (inl e) = ap (λ (o : Option FileId). reads_from tree o reading) e
done-stale tree files (find_name dir name) (inr none) = absurd none
done-stale tree files (make_file dir name kind perm) (inr none) = absurd none
done-stale tree files (take_name dir name kind) (inr none) = absurd none
done-stale tree files (show_file node) (inr none) = absurd none
done-stale tree files (list_dir dir offset size) (inr none) = absurd none
done-stale tree files (read_file node reading) (inr none) = absurd none
done-stale tree files unserved none = absurd none

-- ---- which of them a daemon knows

-- a number names the file that `files` says for it
pub record IsNamed (served : ServedState) (files : ℕ → Option FileId) (node : Number) : Type 0 where
  pub file : FileId
  pub says : files node.0 ≡ Some file
  pub names : IsFileOf served.tree served.map.entries node.0 file

-- one of these numbers names no file
pub record IsUnnamed (served : ServedState) (files : ℕ → Option FileId) (numbers : List Number) : Type 0 where
  pub node : Number
  pub among : Contains numbers node
  pub nobody : (file : FileId) → IsFileOf served.tree served.map.entries node.0 file → ⊥
  pub missing : IsMissing files numbers

-- each of the numbers names a file, or one names none
pub all-named : (served : ServedState) (files : ℕ → Option FileId) (numbers : List Number) → AllByRecursion (λ (node : Number). IsLocated served node.0 (files node.0)) numbers →
    AllByRecursion (IsNamed served files) numbers ⊎ IsUnnamed served files numbers
all-named served files [] all = inl tt
all-named served files (node ∷ numbers) (at, rest) = in_ (files node.0) refl at (all-named served files numbers rest) where
  in_ : (o : Option FileId) → files node.0 ≡ o → IsLocated served node.0 o → AllByRecursion (IsNamed served files) numbers ⊎ IsUnnamed served files numbers →
      AllByRecursion (IsNamed served files) (node ∷ numbers) ⊎ IsUnnamed served files (node ∷ numbers)
  in_ None is nobody others = inr (record { node = node; among = (0, omega arith, refl); nobody = nobody; missing = inl is })
  in_ (Some file) is here (inl named) = inl (record { file = file; says = is; names = here }, named)
  in_ (Some file) is here (inr u) = inr (record { node = u.node; among = (suc (u.among).0, (let low = (u.among).1 in omega arith), (u.among).2); nobody = u.nobody; missing = inr u.missing })
