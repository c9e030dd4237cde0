-- A link's permissions are the same, whatever shows that they are some.
use Rattle.std.proofs.Common.{ℕ, List, Option, Some, refl, ap, sym, ◌∙◌}
use Rattle.std.specs.Option.{option_map}
use Rattle.eden_base.proofs.PermLemmas.{same_perm}
use Rattle.eden_base.specs.declared.attr.Kind.TheVariants.{Link}
use Rattle.eden_base.specs.declared.attr.Perm.{Perm}
use Rattle.manifest.specs.ManifestText.{ManifestEntry}
use Rattle.manifest.specs.Text.{size_of}
use Rattle.manifest.specs.Tree.{link_perm}
use Rattle.manifest.proofs.entry.ManifestEntry.of_link.Goals as goal

abbrev link_with : Perm → Option ℕ → List ℕ → ManifestEntry
link_with perm size path = record { kind = Link; perm = Some perm; size = size; path = path }

pub returns-clause-entry : goal.returns-clause-entry
returns-clause-entry c =
    ap (option_map (λ (s : List ℕ × List ℕ). link_with link_perm (size_of s.0) s.1)) (sym c.in-Some.ensures.parts)
    ∙ ap (λ o. Some (link_with link_perm o c.in-Some.path.now)) (sym c.in-Some-size_of.ensures.size)
    ∙ ap (λ (p : Perm). Some (link_with p (Some c.in-Some-size_of.size) c.in-Some.path.now)) (same_perm link_perm (record { bits = 511; in_range = _ }) refl)
