-- The name that is kept for the file.
use Rattle.std.proofs.Common.{◌≡◌, false, MatchOption, Some, sym, ap, subst, ◌∙◌}
use Rattle.std.specs.FinMap.{get}
use Rattle.std.specs.Option.{option_copied}
use Rattle.checkout.specs.Added.{gives, links_of, place_of_file}
use Rattle.checkout.proofs.AddedPlaces.{gives-places, key}
use Rattle.checkout.proofs.added.Added.name_of.Goals as goal

pub returns-in_err-place : goal.returns-in_err-place
returns-in_err-place c =
    let places = c.self.inside.places in
    let links = links_of places.files.entries in
    let none = sym c.get.ensures.value ∙ ap option_copied c.in_err-place.was in
    let all = gives-places links (place_of_file places) c.self.invariant.are_places c.args.file in
    rw (c.from_residual.ensures, ← c.self.view_is) (subst (λ o. MatchOption o (gives links c.args.file ≡ false) (λ p. get links (key p) ≡ Some c.args.file)) none all)

pub returns : goal.returns
returns c =
    let there = sym c.get.ensures.value ∙ ap option_copied c.in_ok-place.was in
    rw (← c.self.view_is) (c.in_ok-place.place.now.dir, c.self.invariant.are_places.no_others c.args.file.0 c.in_ok-place.place.now there)
