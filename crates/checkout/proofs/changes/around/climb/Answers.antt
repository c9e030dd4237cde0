-- The way ends at nothing, at a file that had a colour, or at one of its own.
use Rattle.std.proofs.Common.{◌+◌, [], ◌∷◌, length, length-append, List, Some, None, is_some, not, true, refl, sym, ap, subst, ◌∙◌, inl, inr, arith, ◌≡◌}
use Rattle.std.proofs.lemmas.Result.{on_ok_weaker}
use Rattle.std.specs.FinMap.{get}
use Rattle.eden_base.specs.declared.number.FileId.{FileId}
use Rattle.checkout.specs.Around.{from_file, links_now, AreSet}
use Rattle.checkout.proofs.ClimbLaws.{began_coloured, climb_on, distinct_on, fit_on, none-IsClimb, none_from, room_left}
use Rattle.checkout.proofs.ColourLaws.{climb-AreRight, marked-AreRight, set_keeps}
use Rattle.checkout.proofs.UnlinkedLemmas.{none-IsDistinct}
use Rattle.checkout.proofs.changes.around.climb.Goals as goal

pub loop-colours-init : goal.loop-colours-init
loop-colours-init c = rw c.new-way.ensures.items (record {
  climb = none-IsClimb (links_now c.args.manifest.now c.args.added.now c.args.gone.now) c.args.colours.now (Some c.args.file);
  began = inl refl;
  distinct = none-IsDistinct;
  fit = λ q h. absurd (cc);
})

pub loop-colours-preserved : goal.loop-colours-preserved
loop-colours-preserved c =
    let links = links_now c.args.manifest.now c.args.added.now c.args.gone.now in
    let l = c.loop-colours in
    let white = none_from _ (ap is_some (sym c.get.ensures.colour) ∙ c.is_none.ensures ∙ ap not c.loop-colours-test.true) in
    rw c.in_ok-push.ensures.items (record {
      climb = climb_on links c.args.colours.now l.colours l.way.items l.at l.invariant.climb white c.set.new.self (Some c.in-Some.dir) c.in_ok-set.ensures c.in-Some.ensures.dir;
      began = inr (began_coloured links c.args.colours.now l.colours l.way.items l.at l.invariant.climb white c.set.new.self c.args.file c.in_ok-set.ensures l.invariant.began);
      distinct = distinct_on links c.args.colours.now l.colours l.way.items l.at l.invariant.climb white l.invariant.distinct;
      fit = fit_on links c.args.colours.now l.colours l.way.items l.at l.invariant.climb white 18446744073709551616 l.invariant.fit (let id = c.get.ensures.id in omega (arith, id));
    })

pub loop-colours-smaller : goal.loop-colours-smaller
loop-colours-smaller c =
    let links = links_now c.args.manifest.now c.args.added.now c.args.gone.now in
    let l = c.loop-colours in
    let white = none_from _ (ap is_some (sym c.get.ensures.colour) ∙ c.is_none.ensures ∙ ap not c.loop-colours-test.true) in
    let left = room_left links c.args.colours.now l.colours l.way.items l.at l.invariant.climb white 18446744073709551616 l.invariant.distinct l.invariant.fit (let id = c.get.ensures.id in omega (arith, id)) in
    let longer : length c.push.new.self.items ≡ length l.way.items + 1 = ap length c.in_ok-push.ensures.items ∙ length-append l.way.items (l.at ∷ []) in
    omega (arith, left, longer)

pub returns-in_default-clause-right : goal.returns-in_default-clause-right
returns-in_default-clause-right c =
    let links = links_now c.args.manifest.now c.args.added.now c.args.gone.now in
    let l = c.loop-colours in
    let white = none_from _ (ap is_some (sym c.get.ensures.colour) ∙ c.is_none.ensures ∙ ap not c.loop-colours-test.true) in
    let climb = climb_on links c.args.colours.now l.colours l.way.items l.at l.invariant.climb white c.set.new.self None c.in_ok-set.ensures c.in_default.ensures.dir in
    climb-AreRight links c.requires.apart c.args.colours.now c.set.new.self _ None c.requires.right climb tt

pub returns-in_default-clause-coloured : goal.returns-in_default-clause-coloured
returns-in_default-clause-coloured c =
    let links = links_now c.args.manifest.now c.args.added.now c.args.gone.now in
    let l = c.loop-colours in
    let white = none_from _ (ap is_some (sym c.get.ensures.colour) ∙ c.is_none.ensures ∙ ap not c.loop-colours-test.true) in
    began_coloured links c.args.colours.now l.colours l.way.items l.at l.invariant.climb white c.set.new.self c.args.file c.in_ok-set.ensures l.invariant.began

pub returns-clause-right : goal.returns-clause-right
returns-clause-right c =
    let links = links_now c.args.manifest.now c.args.added.now c.args.gone.now in
    let l = c.loop-colours in
    let end : is_some (get l.colours l.at.0) ≡ true = ap is_some (sym c.get.ensures.colour) ∙ c.is_none.ensures ∙ ap not c.loop-colours-test.false in
    let files = c.from_file.ensures ∙ ap (from_file l.at) c.deref.ensures.value in
    on_ok_weaker c.mark_circle.result (λ (set : AreSet c.from_file.result.now true l.colours c.mark_circle.new.self). marked-AreRight links c.requires.apart c.args.colours.now l.colours c.mark_circle.new.self l.way.items l.at c.requires.right l.invariant.climb end (subst (λ (xs : List FileId). AreSet xs true l.colours c.mark_circle.new.self) files set)) c.mark_circle.ensures

pub returns-clause-coloured : goal.returns-clause-coloured
returns-clause-coloured c =
    let l = c.loop-colours in
    let end : is_some (get l.colours l.at.0) ≡ true = ap is_some (sym c.get.ensures.colour) ∙ c.is_none.ensures ∙ ap not c.loop-colours-test.false in
    on_ok_weaker c.mark_circle.result (λ (set : AreSet c.from_file.result.now true l.colours c.mark_circle.new.self). set_keeps c.from_file.result.now true l.colours c.mark_circle.new.self set c.args.file (elim l.invariant.began [ inl same ↦ ap (λ (f : FileId). is_some (get l.colours f.0)) (sym same) ∙ end | inr had ↦ had ])) c.mark_circle.ensures
