-- Which files are not loaded, so that the backing alone can tell them.
use Rattle.std.proofs.Common.{◌≡◌, ℕ, ◌<◌, Bool, false, List, Option, Some, None, Ok, refl, sym, ap, ◌∙◌, subst, inr, arith}
use Rattle.std.proofs.lemmas.Bool.Decides.{nat_tests}
use Rattle.std.specs.Prelude.{nat_le, IsSome, if◌then◌else◌}
use Rattle.eden_base.specs.Limits.{end_of_numbers}
use Rattle.eden_base.specs.declared.attr.Attr.{Attr}
use Rattle.eden_base.specs.declared.attr.Kind.TheVariants.{Dir, File}
use Rattle.eden_base.specs.declared.errno.Errno.TheVariants.{EIO}
use Rattle.eden_base.specs.declared.number.FileId.{FileId}
use Rattle.eden_base.specs.declared.number.Number.{Number}
use Rattle.manifest.specs.Tree.{IsTree, kind_of, root}
use Rattle.fuse_wire.specs.declared.reply.Answer.TheVariants.{Error}
use Rattle.entry_table.proofs.FileLemmas.{IsFileOf-same}
use Rattle.entry_table.specs.Entries.{entry_at, IsFileOf, is_root}
use Rattle.entry_table.specs.declared.kept.Kept.{Kept}
use Rattle.inode_map.specs.InodeMap.{attr_of, give_fault_at}
use Rattle.inode_map.specs.declared.inode_map.GiveFault.TheVariants.{NoNumber}
use Rattle.fuse_ops.specs.Answers.{IsBacked, found_in}
use Rattle.fuse_ops.specs.Served.{ServedState, IsLocated, IsUnloaded}
use Rattle.fuse_ops.specs.Soundness.{IsSound}
use Rattle.fuse_ops.specs.Work.{Finds, GivesEntry}
use Rattle.fuse_ops.specs.declared.served.Found.{Found}
use Rattle.fuse_ops.proofs.Fits.{no-place-no_file, sound-fits}
use Rattle.fuse_ops.proofs.Keeping.{found-child}
use Rattle.fuse_ops.proofs.Known.{same-number}

-- the root is a directory, so no backing is asked for it
pub root-unbacked : (served : ServedState) → IsTree served.tree → (n : ℕ) (file : FileId) → n ≡ 1 → IsFileOf served.tree served.map.entries n file → IsBacked served.tree file → ⊥
root-unbacked served is n file one at backed =
    let same : file ≡ root = IsFileOf-same served.tree served.map.entries n file root at (is_root n root one refl) in
    let dir : kind_of served.tree file ≡ Some Dir = ap (kind_of served.tree) same ∙ is.root_is_dir in
    let regular : kind_of served.tree file ≡ Some File = backed.0 in
    let none : ⊥ = cc in none

-- a file is not loaded where its number is not
pub number-unloaded : (served : ServedState) → IsTree served.tree → IsSound served → (n : ℕ) (file : FileId) → IsFileOf served.tree served.map.entries n file → attr_of served.map.loaded n ≡ None → IsBacked served.tree file → IsUnloaded served file
number-unloaded served is sound n file at none backed =
    (backed, λ m named. subst (λ (k : ℕ). attr_of served.map.loaded k ≡ None) (same-number served is sound n m file at named) none)

-- a file under a name without a number is not loaded
pub new-unloaded : (served : ServedState) (dir : Number) (name : List ℕ) (found : Found) → IsTree served.tree → IsSound served → Finds served dir.0 name (Ok found) → entry_at served.map.entries dir.0 name ≡ None → IsBacked served.tree found.file → IsUnloaded served found.file
new-unloaded served dir name found is sound finds free backed = (
  backed,
  λ n named.
      absurd (no-place-no_file served.tree served.map.next served.map.entries is (sound-fits served sound) dir.0 found.dir found.file name (subst (IsLocated served dir.0) finds.found.0 finds.located)
      (found-child served.tree found.dir found.file name (ap (λ (o : Option FileId). found_in served.tree o name) (sym finds.found.0) ∙ finds.found.1)) free n named),
)

-- and is loaded where its number is
pub number-loaded : (served : ServedState) (n : ℕ) (file : FileId) → IsFileOf served.tree served.map.entries n file → IsSome (attr_of served.map.loaded n) → IsUnloaded served file → ⊥
number-loaded served n file at loaded unloaded = let some : IsSome {T = Attr} None = subst (λ (o : Option Attr). IsSome o) (unloaded.1 n at) loaded in let none : ⊥ = cc in none

-- the backing alone stood against a name without a number
pub new-refused : (served now : ServedState) (dir : Number) (name : List ℕ) (found : Found) (new : ServedState) → served ≡ now → IsTree served.tree → IsSound served → Finds now dir.0 name (Ok found) → entry_at now.map.entries dir.0 name ≡ None → served.map.next < end_of_numbers →
    IsBacked served.tree found.file → new ≡ now → GivesEntry now dir name found.file (Error EIO) new
new-refused served now dir name found new same is sound finds free low backed stays = (
  inr (
    refl,
    ap (λ (o : Option Kept). give_fault_at now.map o) free ∙ ap (λ (b : Bool). if b then Some NoNumber else None) (subst (λ (s : ServedState). nat_le end_of_numbers s.map.next ≡ false) same (grind (arith, nat_tests))),
    subst (λ (s : ServedState). IsUnloaded s found.file) same (new-unloaded served dir name found is sound (subst (λ (s : ServedState). Finds s dir.0 name (Ok found)) (sym same) finds)
        (subst (λ (s : ServedState). entry_at s.map.entries dir.0 name ≡ None) (sym same) free) backed),
  ),
  stays,
)
