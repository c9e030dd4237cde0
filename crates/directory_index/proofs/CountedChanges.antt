-- An index with counts, and what it is an index of.
use Rattle.std.proofs.Common.{◌≡◌, ℕ, ◌+◌, ◌-◌, Bool, true, false, List, Option, Some, None, if◌then◌else◌, refl, sym, ap, subst, ◌∙◌, inl, inr, ◌⊎◌, arith}
use Rattle.std.proofs.lemmas.Bool.{not-true}
use Rattle.std.specs.Prelude.{◌==◌, nat_lt, not}
use Rattle.eden_base.proofs.NumberTests.{eq-true, true-eq}
use Rattle.directory_index.proofs.Counting.{counted-none, counted-some, counts-alike, counts-inserted, counts-removed}
use Rattle.directory_index.proofs.Looking.{in-maps}
use Rattle.directory_index.proofs.PlaceChanges.{adds, below-apart, stands-either, stood-below}
use Rattle.directory_index.specs.CountedIndex.{IsCountedOf}
use Rattle.directory_index.specs.Keys.{key_of}
use Rattle.directory_index.specs.NameCounts.{counted, AreCountsOf}
use Rattle.directory_index.specs.PlaceIndex.{is_latest, is_latest_in, ArePlacesOf}
use Rattle.directory_index.specs.Standing.{inserted, removed, Standing, StandsIn}
use Rattle.directory_index.specs.declared.counted_index.CountedIndex.{CountedIndex}
use Rattle.directory_index.specs.declared.link.Link.{Link}
use Rattle.directory_index.specs.declared.name_counts.NameCounts.{NameCounts}

module _ (at : Standing) (index : CountedIndex) (is : IsCountedOf at index) (dir : ℕ) where
  -- a number is counted in the directory
  pub some-counted : nat_lt 0 (counted index.counts dir) ≡ true → (n : ℕ) × StandsIn at dir n
  some-counted t =
      let w = counted-some is.below index.counts dir is.counts t in
      (w.0, in-maps at is.below index.places is.places dir w.0 w.1)

  -- none is counted, and the link that was inserted last stands elsewhere
  pub none-there : is_latest_in index.places.latest dir ≡ false → nat_lt 0 (counted index.counts dir) ≡ false → (name : List ℕ) → at dir name ≡ None
  none-there no_latest no_count name = in_ (at dir name) refl where
    none : (n : ℕ) → (is.below dir name ≡ Some n) ⊎ ((link : Link) × (index.places.latest ≡ Some link) × (link.number ≡ n) × (link.dir ≡ dir) × (link.key ≡ key_of dir name)) → ⊥
    none n (inl e) = let free = counted-none is.below index.counts dir is.counts no_count name in let no : ⊥ = cc in no
    none n (inr w) = let t : is_latest_in index.places.latest dir ≡ true = ap (λ (o : Option Link). is_latest_in o dir) w.1 ∙ eq-true w.0.dir dir w.3 in let no : ⊥ = cc in no

    in_ : (o : Option ℕ) → at dir name ≡ o → at dir name ≡ None
    in_ None e = e
    in_ (Some n) e = absurd (none n (stands-either is.below at index.places.latest is.places.latest dir name n e))

-- the link that was inserted last is counted and goes into the maps
pub counted-moved : (at : Standing) (old new : CountedIndex) (is : IsCountedOf at old) (link : Link) → old.places.latest ≡ Some link → ArePlacesOf at at new.places →
    ((d : ℕ) → counted new.counts d ≡ (if d == link.dir then counted old.counts link.dir + 1 else counted old.counts d)) → new.counts.bound ≡ old.counts.bound + 1 → IsCountedOf at new
counted-moved at old new is link latest places raised bound =
    let last = adds at is.below old.places old.places is.places link latest in
    let all : (λ (d : ℕ) (q : List ℕ). inserted is.below link.dir last.0 link.number d q) ≡ at = λ i d q. sym (last.4 d q) i in
    record {
      below = at;
      places = places;
      counts = subst (λ (s : Standing). AreCountsOf s new.counts) all
          (counts-inserted is.below old.counts new.counts link.dir last.0 link.number last.2 last.3 is.counts raised bound);
    }

-- it was counted, and is counted no more, since it stays beside the maps
pub counted-kept : (at : Standing) (old new : CountedIndex) (is : IsCountedOf at old) (dir : ℕ) (more : NameCounts) → ArePlacesOf at is.below new.places →
    ((d : ℕ) → counted more d ≡ (if d == dir then counted old.counts dir + 1 else counted old.counts d)) → more.bound ≡ old.counts.bound + 1 →
    ((d : ℕ) → counted new.counts d ≡ (if d == dir then counted more dir - 1 else counted more d)) → new.counts.bound ≡ more.bound → IsCountedOf at new
counted-kept at old new is dir more places raised bound lowered same_bound = record {
  below = is.below;
  places = places;
  counts = counts-alike is.below old.counts new.counts (λ d. back d (d == dir) refl) (omega arith) is.counts;
} where
  one : counted more dir ≡ counted old.counts dir + 1
  one = let t = eq-true dir dir refl in raised dir ∙ (rw t refl)

  back : (d : ℕ) (b : Bool) → (d == dir) ≡ b → counted new.counts d ≡ counted old.counts d
  back d true t =
      let less : counted new.counts d ≡ counted more dir - 1 = lowered d ∙ (rw t refl) in
      let same = ap (counted old.counts) (true-eq d dir t) in
      omega (arith, less, one, same)
  back d false t = lowered d ∙ (rw t (raised d ∙ (rw t refl)))

-- another number than the one inserted last was removed
pub counted-removed : (at : Standing) (old new : CountedIndex) (dir : ℕ) (name : List ℕ) (number : ℕ) → (is : IsCountedOf at old) → not (is_latest old.places.latest number) ≡ true → at dir name ≡ Some number →
    ArePlacesOf (removed at dir name) (removed is.below dir name) new.places → ((d : ℕ) → counted new.counts d ≡ (if d == dir then counted old.counts dir - 1 else counted old.counts d)) → new.counts.bound ≡ old.counts.bound →
    IsCountedOf (removed at dir name) new
counted-removed at old new dir name number is other stood places lowered bound = record {
  below = removed is.below dir name;
  places = places;
  counts = counts-removed is.below old.counts new.counts dir name number (stood-below at is.below old.places dir name number is.places (not-true (is_latest old.places.latest number) other) stood)
      (below-apart at is.below old.places is.places) is.counts lowered bound;
}
