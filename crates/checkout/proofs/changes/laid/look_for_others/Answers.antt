-- The round over what the manifest's links give still finds the first change that another gives its file too.
use Rattle.std.proofs.Common.{◌≡◌, ◌+◌, Some, None, length, sym, ap, subst, ◌∙◌, arith}
use Rattle.std.specs.Option.{option_map}
use Rattle.checkout.specs.BadChanges.{IsBadChange, bad_by_other, first_link}
use Rattle.checkout.specs.Changed.{IsChangeRefusal}
use Rattle.checkout.specs.UnlinkedFiles.{is_gone}
use Rattle.checkout.specs.Rounds.{is_given_twice, marked}
use Rattle.checkout.proofs.WithChanges.{bad_by_second, first_of-within, second_round}
use Rattle.checkout.proofs.changes.laid.look_for_others.Goals as goal

pub bad_link-requires : goal.bad_link-requires
bad_link-requires c =
    let links = c.as_slice-links.result.now in
    let twice = is_given_twice c.args.manifest.now (is_gone c.args.gone.now) (λ file. marked file None links) in
    let within = first_of-within twice 0 links c.in-Some.i (sym c.in_ok-i.ensures ∙ c.in-Some.is) in
    record { within = omega (arith, within) }

pub returns-in-Some-clause-refused : goal.returns-in-Some-clause-refused
returns-in-Some-clause-refused c =
    let m = c.args.manifest.now in
    let changes = c.args.changes.now in
    let place = first_link changes + c.in-Some.i in
    let round = second_round m changes c.requires.is_manifest c.requires.itself c.args.gone.now c.requires.went c.as_slice-links.result.now c.as_slice-links.ensures.links c.in_ok-i.field-0 c.in_ok-i.ensures in
    let by_other : bad_by_other m changes ≡ Some place = sym round ∙ ap (option_map (λ i. first_link changes + i)) c.in-Some.is in
    let told : place ≡ length c.as_slice.result.now + 1 + c.in-Some.i = ap (λ xs. length xs + 1 + c.in-Some.i) (sym c.as_slice.ensures.files) in
    subst (IsChangeRefusal m changes) (sym c.bad_link.ensures) (subst (λ p. IsBadChange m changes (Some p)) told (bad_by_second m changes place c.requires.itself by_other))

pub returns-in-None-clause-good : goal.returns-in-None-clause-good
returns-in-None-clause-good c =
    let changes = c.args.changes.now in
    let round = second_round c.args.manifest.now changes c.requires.is_manifest c.requires.itself c.args.gone.now c.requires.went c.as_slice-links.result.now c.as_slice-links.ensures.links c.in_ok-i.field-0 c.in_ok-i.ensures in
    sym round ∙ ap (option_map (λ i. first_link changes + i)) c.in-None.is
