-- The file has the place, and stands there in the index.
use Rattle.std.proofs.Common.{◌≡◌, List, ℕ, None, subst}
use Rattle.directory_index.specs.Index.{IsIndexOf}
use Rattle.directory_index.specs.Standing.{inserted, Standing, StandsNowhere}
use Rattle.checkout.proofs.AddedLinks.{added-AreLinks}
use Rattle.checkout.proofs.AddedPlaces.{key}
use Rattle.checkout.proofs.added.link.Goals as goal

pub returns : goal.returns
returns c links are free new =
    let dir = c.args.place.dir.0 in
    let file = c.args.file.0 in
    let indexed = subst (λ (n : List ℕ). (at : Standing) → IsIndexOf at c.args.index.now → at dir n ≡ None → StandsNowhere at file → IsIndexOf (inserted at dir n file) c.insert.new.self) c.bytes.ensures.bytes c.insert.ensures.inserted in
    added-AreLinks links c.args.places.now (record { files = c.insert-2.new.self }) c.args.index.now c.insert.new.self are c.in-Ok.ensures.unique (key c.args.place) c.args.file free new c.in-Ok.ensures.updates.0 indexed
