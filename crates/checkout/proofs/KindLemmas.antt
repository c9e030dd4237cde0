-- The kind of a file of a manifest with others made beside it.
use Rattle.std.proofs.Common.{◌≡◌, ◌==◌, true, false, if◌then◌else◌, List, Option, Some, None, refl, sym, ap, ◌∙◌, arith}
use Rattle.std.proofs.lemmas.Bool.Decides.{nat_tests}
use Rattle.std.specs.FinMap.{get}
use Rattle.std.specs.List.{find}
use Rattle.std.specs.Option.{option_map, option_or}
use Rattle.eden_base.specs.Kinds.{kind_made}
use Rattle.eden_base.specs.declared.attr.Kind.{Kind}
use Rattle.eden_base.specs.declared.attr.Kind.TheVariants.{Dir}
use Rattle.eden_base.specs.declared.attr.MadeKind.{MadeKind}
use Rattle.eden_base.specs.declared.attr.MadeKind.TheVariants as made
use Rattle.eden_base.specs.declared.number.FileId.{FileId}
use Rattle.checkout.specs.declared.changes.Made.{Made}
use Rattle.checkout.specs.BadChanges.{kind_with}
use Rattle.manifest.specs.Manifest.{File, Line, Manifest, line_of}
use Rattle.manifest.specs.Tree.{files_from}
use Rattle.manifest.proofs.ManifestTree.{file_from_line, no_file, root_of_files}

-- the kind that a file was made with
abbrev pub kind_among : List Made → FileId → Option Kind
kind_among made file = option_map (λ (x : Made). kind_made x.kind) (find (λ (x : Made). x.file.0 == file.0) made)

-- the manifest's file, or else one that was made
pub kind_with-content : (m : Manifest) (made : List Made) (file : FileId) → kind_with m made file ≡ option_or (option_map (λ (f : File). f.kind) (get (files_from 2 m.lines) file.0)) (kind_among made file)
kind_with-content m made file =
    elim (file.0 == 1) as (λ b. (file.0 == 1) ≡ b → (if b then Some Dir else option_or (option_map (λ (line : Line). line.file.kind) (line_of m.lines file)) (kind_among made file))
    ≡ option_or (option_map (λ (f : File). f.kind) (get (files_from 2 m.lines) file.0)) (kind_among made file)) [
      | true ↦ λ e.
          let one : file.0 ≡ 1 = grind (arith, nat_tests) in
          sym (ap (λ o. option_or (option_map (λ (f : File). f.kind) o) (kind_among made file)) (ap (get (files_from 2 m.lines)) one ∙ root_of_files 2 m.lines (omega arith)))
      | false ↦ λ e. other (λ one. differs one e) (line_of m.lines file) refl
    ] refl
  where
    differs : file.0 ≡ 1 → (file.0 == 1) ≡ false → ⊥
    differs one e = grind (arith, nat_tests)

    other : (file.0 ≡ 1 → ⊥) → (o : Option Line) → line_of m.lines file ≡ o → option_or (option_map (λ (line : Line). line.file.kind) (line_of m.lines file)) (kind_among made file)
        ≡ option_or (option_map (λ (f : File). f.kind) (get (files_from 2 m.lines) file.0)) (kind_among made file)
    other apart None e =
        ap (λ o. option_or (option_map (λ (line : Line). line.file.kind) o) (kind_among made file)) e
        ∙ sym (ap (λ o. option_or (option_map (λ (f : File). f.kind) o) (kind_among made file)) (no_file m.lines file apart e))
    other apart (Some line) e =
        ap (λ o. option_or (option_map (λ (line : Line). line.file.kind) o) (kind_among made file)) e
        ∙ sym (ap (λ o. option_or (option_map (λ (f : File). f.kind) o) (kind_among made file)) (file_from_line m.lines file line e))

-- two kinds that a file may be made with are the same if the file is of the same kind
pub made_kinds_same : (a b : MadeKind) → kind_made a ≡ kind_made b → a ≡ b
made_kinds_same made.File made.File h = refl
made_kinds_same made.File made.Dir h = absurd (cc)
made_kinds_same made.Dir made.File h = absurd (cc)
made_kinds_same made.Dir made.Dir h = refl
