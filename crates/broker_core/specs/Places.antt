-- The queue of the asks without a reply: the places that it keeps, of asks and of gaps.
use Rattle.std.specs.Prelude.{◌≡◌, ℕ, ◌+◌, Bool, ◌==◌, List, length, map, Option, None, true}
use Rattle.std.specs.List.{filter_map, last_or}
use Rattle.std.specs.List.Sorted.{IsStrictlySortedBy}
use Rattle.std.specs.Option.{option_map, IfSome, is_some}
use Rattle.std.specs.Ordering.{nat_cmp}
use Rattle.fuse_wire.specs.declared.form.Form.{Form}
use Rattle.broker_core.specs.declared.unanswered.QueuePlace.{QueuePlace}
use Rattle.broker_core.specs.declared.unanswered.Unanswered.TheInside.{Inside}
use Rattle.broker_core.specs.Traffic.{front}

-- the ask at a place, as its unique and the form of its answer, or none at a gap
abbrev pub ask_at : QueuePlace → Option (ℕ × Form)
ask_at place = option_map (λ form. (place.unique, form)) place.form

-- the asks at the places, in the same order
abbrev pub asks_at : List QueuePlace → List (ℕ × Form)
asks_at places = filter_map ask_at places

-- a place has this unique, whether an ask stands there or a gap
abbrev pub is_place_of : ℕ → QueuePlace → Bool
is_place_of unique place = unique == place.unique

-- an ask stands at the place
abbrev pub is_filled : QueuePlace → Bool
is_filled place = is_some place.form

-- each place has a unique above those before it
abbrev pub PlacesRise : List QueuePlace → Type 0
PlacesRise places = IsStrictlySortedBy nat_cmp (map (λ place. place.unique) places)

-- the first place, if there is one, is no gap
abbrev pub StartsFilled : List QueuePlace → Type 0
StartsFilled places = IfSome (front places) (λ place. is_filled place ≡ true)

-- the last place, if there is one, is no gap
abbrev pub EndsFilled : List QueuePlace → Type 0
EndsFilled places = IfSome (last_or None places) (λ place. is_filled place ≡ true)

-- the queue is in order: uniques rise over its places, its gaps are counted, and none of them is first or last
pub record IsInOrder (unanswered : Inside) : Type 0 where
  pub rising : PlacesRise unanswered.places.items
  pub counted : unanswered.gaps + length (asks_at unanswered.places.items) ≡ length unanswered.places.items
  pub first : StartsFilled unanswered.places.items
  pub last : EndsFilled unanswered.places.items

-- what holds where gaps were dropped: the same asks stand there, and what was in order is
pub record DropsGaps (old new : List QueuePlace) : Type 0 where
  pub asks : asks_at new ≡ asks_at old
  pub rising : PlacesRise old → PlacesRise new
  pub first : StartsFilled old → StartsFilled new
