-- A bad link of the last round is one of the changed ones.
use Rattle.std.proofs.Common.{◌+◌, ◌<◌, length, sym, ap, subst}
use Rattle.std.specs.Option.{option_map}
use Rattle.checkout.specs.BadChanges.{IsBadAround, first_link}
use Rattle.checkout.proofs.WithChanges.{around-within}
use Rattle.checkout.proofs.changes.laid.Laid.look_around.Goals as goal

pub bad_link-requires : goal.bad_link-requires
bad_link-requires c =
    let m = c.args.manifest.now in
    let changes = c.args.changes.now in
    let around = subst (λ o. IsBadAround m changes (option_map (λ i. first_link changes + i) o)) c.in-Some.is c.in_ok-i.ensures in
    record { within = subst (λ n. c.in-Some.i < n) (sym (ap length c.as_slice-links.ensures.links)) (around-within m changes c.in-Some.i around) }
