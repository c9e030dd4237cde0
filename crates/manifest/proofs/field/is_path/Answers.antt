-- A path's names are its first and those of the rest.
use Rattle.std.proofs.Common.{◌≡◌, Bool, true, false, ◌&&◌, refl, ap, sym, ◌∙◌}
use Rattle.std.specs.List.{list_all}
use Rattle.manifest.specs.Names.{is_name}
use Rattle.manifest.specs.Text.{parts}
use Rattle.manifest.proofs.TextLemmas.{parts-cut, parts-no_cut}
use Rattle.manifest.proofs.field.is_path.Goals as goal

and-true : (b : Bool) → (b && true) ≡ b
and-true true = refl
and-true false = refl

pub returns-then-not-is_name : goal.returns-then-not-is_name
returns-then-not-is_name c =
    let bad : is_name c.in-Some.name.now ≡ false = cc (c.is_name.ensures, c.if-not-is_name.true) in
    let first = parts-cut 47 c.loop-name.rest.now c.in-Some.name.now c.in-Some.after.now (sym c.in-Some.ensures.parts) in
    sym (sym c.loop-name.invariant ∙ ap (list_all is_name) first ∙ ap (λ b. b && list_all is_name (parts 47 c.in-Some.after.now)) bad)

pub loop-name-preserved : goal.loop-name-preserved
loop-name-preserved c =
    let good : is_name c.in-Some.name.now ≡ true = cc (c.is_name.ensures, c.if-not-is_name.false) in
    let first = parts-cut 47 c.loop-name.rest.now c.in-Some.name.now c.in-Some.after.now (sym c.in-Some.ensures.parts) in
    sym (ap (list_all is_name) first ∙ ap (λ b. b && list_all is_name (parts 47 c.in-Some.after.now)) good) ∙ c.loop-name.invariant

pub returns : goal.returns
returns c =
    c.is_name-2.ensures ∙ sym (and-true (is_name c.loop-name.rest.now)) ∙ sym (ap (list_all is_name) (parts-no_cut 47 c.loop-name.rest.now (sym c.in_default.ensures.parts))) ∙ c.loop-name.invariant
