-- A directory's permissions are the same, whatever shows that they are some.
use Rattle.std.proofs.Common.{ℕ, List, Some, codes, refl, ap, sym, ◌∙◌}
use Rattle.eden_base.specs.declared.attr.Kind.TheVariants.{Dir}
use Rattle.eden_base.specs.declared.attr.Perm.{Perm}
use Rattle.manifest.specs.Text.{after}
use Rattle.manifest.specs.Tree.{dir_perm}
use Rattle.manifest.specs.ManifestText.{ManifestEntry, entry_behind}
use Rattle.eden_base.proofs.PermLemmas.{same_perm}
use Rattle.manifest.proofs.entry.ManifestEntry.read.Goals as goal

abbrev dir_with : List ℕ → Perm → ManifestEntry
dir_with path perm = record { kind = Dir; perm = Some perm; size = Some 0; path = path }

pub returns-in-Some-clause-entry : goal.returns-in-Some-clause-entry
returns-in-Some-clause-entry c =
    let line = c.args.line.now in
    let found = c.in-Some.ensures ∙ ap (λ (front : List ℕ). after front line) c.as_slice.ensures in
    ap (λ o. entry_behind o (after (codes "file ") line) (after (codes "link ") line)) (sym found)
    ∙ ap (λ (p : Perm). Some (dir_with c.in-Some.path.now p)) (same_perm dir_perm (record { bits = 493; in_range = _ }) refl)
