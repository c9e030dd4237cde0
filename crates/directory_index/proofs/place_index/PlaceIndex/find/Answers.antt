-- What is neither beside the maps nor at the key is under its name, or nowhere.
use Rattle.std.proofs.Common.{◌≡◌, ℕ, List, Option, None, sym, ap, ◌∙◌}
use Rattle.directory_index.specs.Keys.{key_of}
use Rattle.directory_index.specs.PlaceIndex.{latest_at, ArePlacesOf}
use Rattle.directory_index.specs.Names.{at_key, written}
use Rattle.directory_index.specs.Standing.{if_at, AreKnown, Standing}
use Rattle.directory_index.specs.declared.place_index.PlaceIndex.{PlaceIndex}
use Rattle.directory_index.proofs.Looking.{found-other, missed-none}
use Rattle.directory_index.proofs.place_index.PlaceIndex.find.Goals as goal

-- two searches that find nothing leave the name
last : (at below : Standing) (index : PlaceIndex) → ArePlacesOf at below index → (place : ℕ → Option (ℕ × List ℕ)) → AreKnown at place → (dir : ℕ) (name : List ℕ) (key : ℕ) (first second : Option ℕ) (latest at_own : Option ℕ) → key ≡ key_of dir name →
    latest ≡ latest_at index.latest key → at_own ≡ at_key index.names.keys key → first ≡ if_at place dir name latest → second ≡ if_at place dir name at_own → first ≡ None → second ≡ None →
    written index.names.others dir name ≡ at dir name
last at below index is place known dir name key first second latest at_own key_is latest_is own_is first_is second_is none none' =
    found-other at below index is place known dir name
    (sym (first_is ∙ ap (if_at place dir name) (latest_is ∙ ap (latest_at index.latest) key_is)) ∙ none)
    (sym (second_is ∙ ap (if_at place dir name) (own_is ∙ ap (at_key index.names.keys) key_is)) ∙ none')

pub returns : goal.returns
returns g c = record {
  number = λ at below is known.
      c.other.ensures.number
      ∙ last at below c.args.self.now is (g.P.Places.place c.args.places.now) known c.args.dir c.args.name.now c.args.key c.standing.result c.standing-2.result c.latest_at.result c.at_key.result
      c.requires.key c.latest_at.ensures c.at_key.ensures.number c.standing.ensures.standing c.standing-2.ensures.standing
      (missed-none c.standing.result c.in_default.not-Some) (missed-none c.standing-2.result c.in_default-standing.not-Some);
}
