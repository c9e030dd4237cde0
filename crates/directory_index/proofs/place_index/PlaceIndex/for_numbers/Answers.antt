-- Nothing is in the maps, and nothing beside them.
use Rattle.std.proofs.Common.{None, refl}
use Rattle.directory_index.specs.Standing.{nothing}
use Rattle.directory_index.specs.declared.place_index.PlaceIndex.{PlaceIndex}
use Rattle.directory_index.proofs.Naming.{names-of_nothing}
use Rattle.directory_index.proofs.PlaceChanges.{places-settled}
use Rattle.directory_index.proofs.place_index.PlaceIndex.for_numbers.Goals as goal

pub returns-clause-empty : goal.returns-clause-empty
returns-clause-empty c =
    let index : PlaceIndex = record { names = c.for_numbers.result; latest = None } in
    places-settled nothing index refl (names-of_nothing c.for_numbers.result c.for_numbers.ensures.keys c.for_numbers.ensures.others) (λ d e q p n a b. let no : ⊥ = cc in absurd no)
