-- The root, a line's file, or none.
use Rattle.std.proofs.Common.{◌≡◌, ◌≤◌, Some, arith, ap, sym, ◌∙◌, lit≤}
use Rattle.std.proofs.Math.Bridge.{le_prop}
use Rattle.std.specs.FinMap.{get}
use Rattle.eden_base.specs.declared.attr.Kind.TheVariants.{Dir}
use Rattle.manifest.specs.Manifest.{File}
use Rattle.manifest.specs.Tree.{files_from, root_file}
use Rattle.manifest.proofs.ManifestTree.{root_of_files, file_from_line, no_file}
use Rattle.manifest.proofs.line.content_of.Goals as goal

-- the root's content, whatever shows that its permissions are some
root_content : (h : 493 ≤ 4095) → ◌≡◌ {A = File} (record { kind = Dir; perm = record { bits = 493; in_range = h }; size = 0 }) root_file
root_content h = ap (λ (w : 493 ≤ 4095). record { kind = Dir; perm = record { bits = 493; in_range = w }; size = 0 }) (le_prop h (lit≤ tt))

pub returns-then-file-eq1 : goal.returns-then-file-eq1
returns-then-file-eq1 c =
    let lines = c.args.lines.now in
    ap (λ (f : File). Some f) (root_content _) ∙ sym (ap (get (files_from 2 lines)) c.if-file-eq1.true ∙ root_of_files 2 lines (omega arith))

pub returns : goal.returns
returns c =
    let lines = c.args.lines.now in
    ap (λ (f : File). Some f) c.content.ensures.content ∙ sym (file_from_line lines c.args.file c.in_ok-line.line.now (sym c.in_ok-line.ensures))

pub returns-in_err-line : goal.returns-in_err-line
returns-in_err-line c = c.from_residual.ensures ∙ sym (no_file c.args.lines.now c.args.file c.if-file-eq1.false (sym c.in_err-line.ensures))
