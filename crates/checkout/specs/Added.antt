-- The links that were added since the manifest: by the files that they give, and by their names.
use Rattle.std.specs.Prelude.{◌≡◌, ℕ, ◌==◌, Bool, List, map, Option, None, Some, nat_eq}
use Rattle.std.specs.FinMap.{FinMap, entries, from_entries, get, remove}
use Rattle.std.specs.HashMap.{IsUnique}
use Rattle.std.specs.HashMap as hash
use Rattle.std.specs.List.{list_any}
use Rattle.std.specs.Option.{option_map}
use Rattle.directory_index.specs.Index.{IsIndexOf}
use Rattle.directory_index.specs.Standing.{Standing}
use Rattle.directory_index.specs.declared.directory_index.DirectoryIndex.{DirectoryIndex}
use Rattle.eden_base.specs.declared.number.FileId.{FileId}
use Rattle.manifest.specs.Tree.{link_cmp}
use Rattle.checkout.specs.declared.added.places.AddedPlace.{AddedPlace}
use Rattle.checkout.specs.declared.added.places.AddedPlaces.{AddedPlaces}

-- whether some link gives the file
abbrev pub gives : FinMap link_cmp FileId → FileId → Bool
gives links file = list_any (λ (link : (ℕ × List ℕ) × FileId). link.1.0 == file.0) (entries links)

-- the link that gives a file at its place
abbrev pub link_of : ℕ × AddedPlace → (ℕ × List ℕ) × FileId
link_of e = ((e.1.dir.0, e.1.name), record { 0 = e.0 })

-- the links that give files at their places
abbrev pub links_of : List (ℕ × AddedPlace) → FinMap link_cmp FileId
links_of places = from_entries (map link_of places)

-- the place of a file's link, if it has one
abbrev pub place_of_file : AddedPlaces → ℕ → Option AddedPlace
place_of_file places file = hash.get nat_eq places.files file

-- the same as a directory's number and a name in it
abbrev pub place_of : AddedPlaces → ℕ → Option (ℕ × List ℕ)
place_of places file = option_map (λ (p : AddedPlace). (p.dir.0, p.name)) (place_of_file places file)

-- `places` has the place of each file that a link gives, and no other place
pub record ArePlacesOf (links : FinMap link_cmp FileId) (places : ℕ → Option AddedPlace) : Type 0 where
  pub each : (dir : ℕ) (name : List ℕ) (file : FileId) → get links (dir, name) ≡ Some file →
      places file.0 ≡ Some (record { dir = record { 0 = dir }; name = name })
  pub no_others : (file : ℕ) (place : AddedPlace) → places file ≡ Some place →
      get links (place.dir.0, place.name) ≡ Some (record { 0 = file })

-- where the links give files: the id under each name of each directory
abbrev pub standing_of : FinMap link_cmp FileId → Standing
standing_of links dir name = option_map (λ (file : FileId). file.0) (get links (dir, name))

-- the parts have these links
pub record AreLinks (links : FinMap link_cmp FileId) (places : AddedPlaces) (index : DirectoryIndex) : Type 0 where
  pub unique : IsUnique nat_eq places.files
  pub are_places : ArePlacesOf links (place_of_file places)
  pub is_index : IsIndexOf (standing_of links) index

-- the links without the one at this place, if there is a place
abbrev pub without : FinMap link_cmp FileId → Option AddedPlace → FinMap link_cmp FileId
without links (Some place) = remove links (place.dir.0, place.name)
without links None = links
