-- No part has a link.
use Rattle.std.proofs.Common.{nat_eq, ap}
use Rattle.std.specs.FinMap.{empty}
use Rattle.std.specs.Map.{lookup}
use Rattle.checkout.specs.Added.{links_of}
use Rattle.checkout.specs.declared.added.places.AddedPlaces.{AddedPlaces}
use Rattle.checkout.proofs.AddedLinks.{none-AreLinks, shown-AreLinks}
use Rattle.checkout.proofs.added.Added.for_links.Goals as goal

pub invariant_of-result : goal.invariant_of-result
invariant_of-result c =
    let places : AddedPlaces = record { files = c.new.result } in
    (shown-AreLinks empty places c.for_numbers.result (none-AreLinks places c.for_numbers.result c.new.ensures.unique (λ q. ap (lookup (nat_eq q)) c.new.ensures.empty) c.for_numbers.ensures.empty)).1

pub returns : goal.returns
returns c = ap links_of c.new.ensures.empty
