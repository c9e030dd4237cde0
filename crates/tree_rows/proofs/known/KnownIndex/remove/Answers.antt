-- A number that went isn't asked for any more.
use Rattle.std.proofs.Common.{◌≡◌, Some, sym, ap, ◌∙◌, arith}
use Rattle.std.proofs.lemmas.Bool.Decides.{nat_tests}
use Rattle.directory_index.specs.Standing.{removed}
use Rattle.tree_rows.specs.declared.known.KnownPlaces.{KnownPlaces}
use Rattle.tree_rows.proofs.KnownLaws.{known-removed}
use Rattle.tree_rows.proofs.known.KnownIndex.remove.Goals as goal

pub invariant_of-self : goal.invariant_of-self
invariant_of-self c =
    let was = c.self.invariant in
    let new : KnownPlaces = record { places = c.remove-2.new.self } in
    let test = c.if-found-number.false in
    let same : c.in-Some.found ≡ c.args.number = grind (arith, nat_tests) in
    let there : was.0 c.args.dir c.args.name.now ≡ Some c.args.number = sym (c.in-Some.ensures.number was.0 was.1 was.2) ∙ ap Some same in (
      removed was.0 c.args.dir c.args.name.now,
      c.remove.ensures.removed was.0 was.1 there,
      known-removed was.0 c.self.inside.known new was.2 c.args.dir c.args.name.now c.args.number was.1.places.apart there c.remove-2.ensures.updates.0,
    )
