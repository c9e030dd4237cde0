-- The link that was inserted last goes into the maps, or stays beside them.
use Rattle.std.proofs.Common.{None, refl}
use Rattle.directory_index.specs.declared.place_index.PlaceIndex.{PlaceIndex}
use Rattle.directory_index.proofs.PlaceChanges.{places-kept, places-moved}
use Rattle.directory_index.proofs.place_index.PlaceIndex.make_room.Goals as goal

pub returns-in_default-name-clause-kept : goal.returns-in_default-name-clause-kept
returns-in_default-name-clause-kept g c at below is known =
    let old : PlaceIndex = c.args.self.now in
    let new : PlaceIndex = record { names = c.name.new.names; latest = old.latest } in
    places-kept at below old new is c.in-Some.link c.in-Some.is (λ name stands. c.in_default-name.ensures.named name (known c.in-Some.link.dir name c.in-Some.link.number stands)) refl

pub returns-clause-moved : goal.returns-clause-moved
returns-clause-moved g c at below is known =
    let old : PlaceIndex = c.args.self.now in
    let new : PlaceIndex = record { names = c.name.new.names; latest = None } in
    places-moved at below old new is c.in-Some.link c.in-Some.is (λ name stands. c.in-Ok.ensures.named name (known c.in-Some.link.dir name c.in-Some.link.number stands)) refl
