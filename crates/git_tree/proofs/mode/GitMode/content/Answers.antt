-- Permissions are the same, whatever shows that they are some.
use Rattle.std.proofs.Common.{◌≡◌, ◌⊎◌, ℕ, ap, inl, inr, refl, sym, ◌∙◌}
use Rattle.eden_base.proofs.PermLemmas.{same_perm}
use Rattle.eden_base.specs.declared.attr.Kind.{Kind}
use Rattle.eden_base.specs.declared.attr.Kind.TheVariants as kind
use Rattle.eden_base.specs.declared.attr.Perm.{Perm}
use Rattle.manifest.specs.Manifest.{File}
use Rattle.manifest.specs.Tree.{dir_perm, link_perm, root_file}
use Rattle.git_tree.specs.GitMode.{executable_perm, file_of, regular_perm}
use Rattle.git_tree.specs.declared.mode.GitMode.{GitMode}
use Rattle.git_tree.specs.declared.mode.GitMode.TheVariants.{Tree, Submodule}
use Rattle.git_tree.proofs.mode.GitMode.content.Goals as goal

abbrev file_with : Kind → Perm → ℕ → File
file_with kind perm size = record { kind = kind; perm = perm; size = size }

-- neither a directory nor a submodule has a size
no_size : (mode : GitMode) (size : ℕ) → (mode ≡ Tree) ⊎ (mode ≡ Submodule) → root_file ≡ file_of mode size
no_size mode size (inl is) = ap (λ m. file_of m size) (sym is)
no_size mode size (inr is) = ap (λ m. file_of m size) (sym is)

pub returns-in-Tree : goal.returns-in-Tree
returns-in-Tree c = record { file = ap (λ (p : Perm). file_with kind.Dir p 0) (same_perm _ dir_perm refl) ∙ no_size c.args.self c.args.size c.in-Tree.is }

pub returns-in-Link : goal.returns-in-Link
returns-in-Link c = record { file = ap (λ (p : Perm). file_with kind.Link p c.args.size) (same_perm _ link_perm refl) ∙ ap (λ m. file_of m c.args.size) (sym c.in-Link.is) }

pub returns-in-Executable : goal.returns-in-Executable
returns-in-Executable c = record { file = ap (λ (p : Perm). file_with kind.File p c.args.size) (same_perm _ executable_perm refl) ∙ ap (λ m. file_of m c.args.size) (sym c.in-Executable.is) }

pub returns-in-Regular : goal.returns-in-Regular
returns-in-Regular c = record { file = ap (λ (p : Perm). file_with kind.File p c.args.size) (same_perm _ regular_perm refl) ∙ ap (λ m. file_of m c.args.size) (sym c.in-Regular.is) }
