-- The file's place goes, and what stands there in the index.
use Rattle.std.proofs.Common.{◌≡◌, List, ℕ, Option, Some, subst, sym, ◌∙◌}
use Rattle.directory_index.specs.Index.{IsIndexOf}
use Rattle.directory_index.specs.Standing.{removed, Standing}
use Rattle.checkout.specs.Added.{without, AreLinks}
use Rattle.checkout.specs.declared.added.places.AddedPlace.{AddedPlace}
use Rattle.checkout.specs.declared.added.places.AddedPlaces.{AddedPlaces}
use Rattle.checkout.proofs.AddedLinks.{removed-AreLinks}
use Rattle.checkout.proofs.added.unlink.Goals as goal

pub returns-clause-links : goal.returns-clause-links
returns-clause-links c links are =
    let dir = c.in-Some.place.dir.0 in
    let file = c.args.file.0 in
    let new : AddedPlaces = record { files = c.remove.new.self } in
    let was = sym c.remove.ensures.value ∙ c.in-Some.is in
    let indexed = subst (λ (n : List ℕ). (at : Standing) → IsIndexOf at c.args.index.now → at dir n ≡ Some file → IsIndexOf (removed at dir n) c.remove-2.new.self) c.bytes.ensures.bytes c.remove-2.ensures.removed in
    subst (λ (o : Option AddedPlace). AreLinks (without links o) new c.remove-2.new.self) (sym was)
    (removed-AreLinks links c.args.places.now new c.args.index.now c.remove-2.new.self are c.remove.ensures.unique c.args.file c.in-Some.place was c.remove.ensures.updates.0 (λ s is known there. indexed s is there))
