-- Where the search ends at a unique, its place is the first with it; where it ends between two, there is none.
use Rattle.std.proofs.Common.{rules}
use Rattle.std.proofs.lemmas.List.Sorted.{answers_always}
use Rattle.broker_core.proofs.PlaceLaws.{gap_of}
use Rattle.broker_core.proofs.RisingLaws.{first-found, first-missing}
use Rattle.broker_core.proofs.unanswered.index_of.Goals as goal

pub returns-in-Ok : goal.returns-in-Ok
returns-in-Ok c =
    let equal = c.in-Ok.ensures.position (λ place. place.unique) (answers_always _ _ _ (λ f a r g called. search rules)) in
    let bound = c.in-Ok.ensures.bound in
    first-found c.args.unique c.args.places.now.items c.in-Ok.index (gap_of c.args.unique) c.requires.rising (search rules) (equal (gap_of c.args.unique))

pub returns-in-Err : goal.returns-in-Err
returns-in-Err c =
    let parted = c.in-Err.ensures.position (λ place. place.unique) (answers_always _ _ _ (λ f a r g called. search rules)) in
    first-missing c.args.unique c.args.places.now.items c.in-Err.field-0 (gap_of c.args.unique) c.requires.rising parted
