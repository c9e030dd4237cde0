-- The number that was inserted last is counted and goes into the maps, or is counted no more and stays beside them.
use Rattle.std.proofs.Common.{arith}
use Rattle.directory_index.specs.declared.counted_index.CountedIndex.{CountedIndex}
use Rattle.directory_index.proofs.CountedChanges.{counted-kept, counted-moved}
use Rattle.directory_index.proofs.Counting.{counts-alike}
use Rattle.directory_index.proofs.counted_index.CountedIndex.make_room.Goals as goal

pub returns-in_err-raise-clause-same : goal.returns-in_err-raise-clause-same
returns-in_err-raise-clause-same g c at is known =
    let bound = c.in_err-raise.ensures.same_bound in
    record {
      below = is.below;
      places = is.places;
      counts = counts-alike is.below c.args.self.now.counts c.raise.new.self c.in_err-raise.ensures.same (omega (arith, bound)) is.counts;
    }

pub returns-in_default-make_room-clause-same : goal.returns-in_default-make_room-clause-same
returns-in_default-make_room-clause-same g c at is known =
    let old : CountedIndex = c.args.self.now in
    let new : CountedIndex = record { places = c.make_room.new.self; counts = c.lower.new.self } in
    let dir = c.in-Some.link.dir in
    counted-kept at old new is dir c.raise.new.self (c.in_default-make_room.ensures.kept at is.below is.places known)
    (c.in_ok-raise.ensures.raised (is.counts.bound dir)) c.in_ok-raise.ensures.bound c.lower.ensures.lowered c.lower.ensures.bound

pub returns-clause-same : goal.returns-clause-same
returns-clause-same g c at is known =
    let old : CountedIndex = c.args.self.now in
    let new : CountedIndex = record { places = c.make_room.new.self; counts = c.raise.new.self } in
    counted-moved at old new is c.in-Some.link c.in-Some.is (c.in-Ok.ensures.moved at is.below is.places known) (c.in_ok-raise.ensures.raised (is.counts.bound c.in-Some.link.dir)) c.in_ok-raise.ensures.bound
