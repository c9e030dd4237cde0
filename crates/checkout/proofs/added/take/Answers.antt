-- The file that the index gave goes from its place.
use Rattle.std.proofs.Common.{◌≡◌, List, ℕ, Option, Some, ap, subst, sym, ◌∙◌}
use Rattle.std.specs.FinMap.{get, remove}
use Rattle.std.specs.Option.{option_map}
use Rattle.directory_index.specs.Index.{IsIndexOf}
use Rattle.directory_index.specs.Standing.{removed}
use Rattle.directory_index.specs.declared.directory_index.DirectoryIndex.{DirectoryIndex}
use Rattle.checkout.specs.Added.{AreLinks}
use Rattle.checkout.specs.declared.added.places.AddedPlace.{AddedPlace}
use Rattle.checkout.specs.declared.added.places.AddedPlaces.{AddedPlaces}
use Rattle.checkout.proofs.AddedLinks.{found-link, removed-AreLinks, unmoved-AreLinks}
use Rattle.checkout.proofs.AddedPlaces.{file_of}
use Rattle.checkout.proofs.added.take.Goals as goal

pub returns-clause-file : goal.returns-clause-file
returns-clause-file c links are =
    ap (option_map file_of) (sym c.in-Some.is)
    ∙ found-link links c.args.places.now c.args.index.now are c.args.dir.0 c.bytes.result.now c.args.name.now c.take.result c.bytes.ensures.bytes c.take.ensures.number

pub returns-in_default-clause-file : goal.returns-in_default-clause-file
returns-in_default-clause-file c links are =
    ap (option_map file_of) (sym c.in_default.is)
    ∙ found-link links c.args.places.now c.args.index.now are c.args.dir.0 c.bytes.result.now c.args.name.now c.take.result c.bytes.ensures.bytes c.take.ensures.number

pub returns-clause-links : goal.returns-clause-links
returns-clause-links c links are =
    let file = file_of c.in-Some.file in
    let name = c.args.name.now in
    let new : AddedPlaces = record { files = c.remove.new.self } in
    let place : AddedPlace = record { dir = c.args.dir; name = name } in
    let there : get links (c.args.dir.0, name) ≡ Some file =
    sym (found-link links c.args.places.now c.args.index.now are c.args.dir.0 c.bytes.result.now name c.take.result c.bytes.ensures.bytes c.take.ensures.number) ∙ ap (option_map file_of) c.in-Some.is in
    removed-AreLinks links c.args.places.now new c.args.index.now c.take.new.self are c.remove.ensures.unique file place (are.are_places.each c.args.dir.0 name file there) c.remove.ensures.updates.0
    (λ s is known stood. subst (λ (n : List ℕ). IsIndexOf (removed s c.args.dir.0 n) c.take.new.self) c.bytes.ensures.bytes (c.take.ensures.removed s is known))

pub returns-in_default-clause-links : goal.returns-in_default-clause-links
returns-in_default-clause-links c links are =
    let none = sym (found-link links c.args.places.now c.args.index.now are c.args.dir.0 c.bytes.result.now c.args.name.now c.take.result c.bytes.ensures.bytes c.take.ensures.number)
    ∙ ap (option_map file_of) c.in_default.is in
    subst (λ (index : DirectoryIndex). AreLinks (remove links (c.args.dir.0, c.args.name.now)) c.args.places.now index) (sym c.in_default.ensures.unchanged)
    (unmoved-AreLinks links c.args.places.now c.args.index.now (c.args.dir.0, c.args.name.now) none are)
