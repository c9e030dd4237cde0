-- A file of the manifest by its line, and any other by none.
use Rattle.std.proofs.Common.{◌≡◌, ℕ, ◌+◌, ◌<◌, nat_lt, true, false, Bool, List, length, Option, Some, None, arith, refl, ap, sym, ◌∙◌, inl, inr}
use Rattle.std.proofs.Math.Bool.{and-false}
use Rattle.std.proofs.lemmas.Bool.Decides.{nat_tests}
use Rattle.std.specs.Prelude.{◌&&◌}
use Rattle.std.specs.FinMap.{get}
use Rattle.std.specs.Option.{option_map, option_or}
use Rattle.eden_base.proofs.MemberLemmas.{some-IsSome}
use Rattle.manifest.specs.Manifest.{File, Line}
use Rattle.manifest.specs.Tree.{files_from}
use Rattle.manifest.proofs.ManifestTree.{id_of_file}
use Rattle.checkout.specs.ChangedTree.{is_regular}
use Rattle.checkout.specs.Overlay.{file_made, files_over}
use Rattle.checkout.specs.declared.made.MadeFile.{MadeFile}
use Rattle.checkout.proofs.UnionLaws.{get-files_over, none-made}
use Rattle.checkout.proofs.tree.Tree.is_backed.Goals as goal

-- a file of the manifest's is below its end
below_end : (lines : List Line) (q : ℕ) (f : File) → get (files_from 2 lines) q ≡ Some f → nat_lt q (length lines + 2) ≡ true
below_end lines q f here = elim (id_of_file 2 lines q f here) [
  | inl one ↦ let less : q < length lines + 2 = omega (arith, one) in grind (arith, nat_tests)
  | inr w ↦ let less : q < length lines + 2 = omega (arith, w.1) in grind (arith, nat_tests)
]

pub returns-in-Some : goal.returns-in-Some
returns-in-Some c =
    let i = c.self.inside in
    let q = c.args.file.0 in
    let base = files_from 2 i.manifest.lines in
    let there = sym c.content.ensures.content ∙ c.in-Some.is in
    let none = none-made i.made i.manifest.lines q c.in-Some.content c.self.invariant.0.parts.made_are_later there in
    let file = get-files_over i.made base q ∙ ap (λ o. option_or (option_map file_made o) (get base q)) none ∙ there in
    rw (← c.self.view_is) (record {
      backed = c.is_regular.ensures
          ∙ sym (ap (λ (b : Bool). b && is_regular (option_map (λ (f : File). f.kind) (get (files_over i.made base) q))) (below_end i.manifest.lines q c.in-Some.content there)
          ∙ ap (λ (o : Option File). is_regular (option_map (λ (f : File). f.kind) o)) file);
    })

pub returns-in-None : goal.returns-in-None
returns-in-None c =
    let i = c.self.inside in
    let q = c.args.file.0 in
    let base = files_from 2 i.manifest.lines in
    let no_line = sym c.content.ensures.content ∙ c.in-None.is in
    let below = nat_lt q (length i.manifest.lines + 2) in
    let regular : Bool = is_regular (option_map (λ (f : File). f.kind) (get (files_over i.made base) q)) in
    rw (← c.self.view_is) (record {
      backed = elim (get i.made q) as (λ (o : Option MadeFile). get i.made q ≡ o → false ≡ (below && regular)) [
        | None ↦ λ none.
            let file = get-files_over i.made base q ∙ ap (λ o. option_or (option_map file_made o) (get base q)) none ∙ no_line in
            sym (ap (λ (o : Option File). below && is_regular (option_map (λ (f : File). f.kind) o)) file ∙ and-false below)
        | Some m ↦ λ there.
            let later = c.self.invariant.0.parts.made_are_later q (some-IsSome _ m there) in
            let past : below ≡ false = grind (arith, nat_tests) in
            sym (ap (λ (b : Bool). b && regular) past)
      ] refl;
    })
