-- A number that came is known where it stands.
use Rattle.std.proofs.Common.{◌≡◌, None, refl, sym, ◌∙◌, nat_eq}
use Rattle.std.specs.HashMap as hash
use Rattle.directory_index.specs.Standing.{inserted}
use Rattle.tree_rows.specs.declared.known.KnownPlace.{KnownPlace}
use Rattle.tree_rows.specs.declared.known.KnownPlaces.{KnownPlaces}
use Rattle.tree_rows.proofs.KnownLaws.{known-inserted, none-there, unknown-nowhere}
use Rattle.tree_rows.proofs.known.KnownIndex.put.Goals as goal

pub invariant_of-self-2 : goal.invariant_of-self-2
invariant_of-self-2 c =
    let was = c.self.invariant in
    let old : KnownPlaces = c.self.inside.known in
    let new : KnownPlaces = record { places = c.insert.new.self } in
    let place : KnownPlace = record { dir = c.args.dir; name = c.in_ok-own.own } in
    let fresh : hash.get nat_eq old.places c.args.number ≡ None = none-there (hash.get nat_eq old.places c.args.number) c.contains_key.result c.contains_key.ensures c.if-contains_key.false in
    let free : was.0 c.args.dir c.args.name.now ≡ None = sym (c.get.ensures.number was.0 was.1 was.2) ∙ none-there c.get.result c.is_some.result c.is_some.ensures c.if-is_some.false in (
      inserted was.0 c.args.dir c.args.name.now c.args.number,
      c.insert-2.ensures.inserted was.0 (c.make_room.ensures.same was.0 was.1 was.2) free (unknown-nowhere was.0 old new was.2 c.args.number fresh),
      known-inserted was.0 old new was.2 c.args.dir c.args.name.now c.args.number place refl c.in_ok-own.ensures.items fresh c.in_ok-insert.ensures.updates.0,
    )
