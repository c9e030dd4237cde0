-- Nothing is gone at first, and then what went with the changes so far.
use Rattle.std.proofs.Common.{◌≡◌, ◌∷◌, ◌++◌, ◌+◌, [], false, drop, length, ap, sym, subst, ◌∙◌, refl}
use Rattle.std.proofs.Math.ListN.{drop_of_length-le}
use Rattle.std.proofs.lemmas.List.{drop_more}
use Rattle.std.specs.List.{AllByRecursion}
use Rattle.eden_base.specs.Name.{IsNameText}
use Rattle.checkout.specs.Laying.{taken, IsLeft, StandApart}
use Rattle.checkout.proofs.LostCounts.{lost_in-none}
use Rattle.checkout.proofs.TakenSteps.{all_left_first, take-kept}
use Rattle.checkout.proofs.changes.laying.taken.Goals as goal

pub loop-change-init : goal.loop-change-init
loop-change-init c =
    let m = c.args.manifest.now in
    rw (c.in_ok-gone.ensures, c.in_ok-lost.ensures, c.lines.ensures.lines) (record {
      files = refl;
      so_far = record {
        gone_room = refl;
        lost_room = refl;
        are_lines = λ file h. absurd (cc);
        counted = λ dir. sym (lost_in-none (λ _. false) (λ _. refl) dir 2 m.lines);
      };
      left = all_left_first m (record { files = []; room = length m.lines + 2 }) (λ q. refl) c.args.links.now;
      apart = c.requires.apart;
      names = λ all. all;
    })

pub loop-change-preserved : goal.loop-change-preserved
loop-change-preserved c =
    let m = c.args.manifest.now in
    let links = c.args.links.now in
    let i = c.loop-change.change-index in
    let change = c.change-item.result in
    let was = c.loop-change.invariant in
    let whole : drop i links ≡ change ∷ drop (i + 1) links = drop_more links i change c.loop-change-test.true ∙ ap (λ x. x ∷ drop (i + 1) links) (sym c.change-item.is) in
    let kept = take-kept m c.lines.ensures.is_manifest c.loop-change.gone c.take.new.gone change c.take.ensures.files (drop (i + 1) links) links
    (ap (λ xs. c.loop-change.gone.files ++ taken m xs) (sym whole) ∙ was.files) (subst (AllByRecursion (IsLeft m c.loop-change.gone)) whole was.left) (subst StandApart whole was.apart) in
    record { files = kept.files; so_far = c.take.ensures.now; left = kept.left; apart = kept.apart; names = λ rest. was.names (subst (AllByRecursion (λ link. IsNameText link.name)) (sym whole) (c.take.ensures.name, rest)) }

pub returns-clause-names : goal.returns-clause-names
returns-clause-names c =
    let links = c.args.links.now in
    let none = drop_of_length-le links c.loop-change-test.false in
    c.loop-change.invariant.names (subst (AllByRecursion (λ link. IsNameText link.name)) (sym none) tt)
