-- What a reader keeps from piece to piece, and what its answers tell of the bytes that it took.
use Rattle.std.proofs.Common.{◌≡◌, ℕ, suc, zero, ◌<◌, Bool, true, false, eqb, List, [], ◌∷◌, ◌++◌, length, Option, Some, None, Result, Err, refl, sym, ap, subst, ◌∙◌, append_assoc, arith}
use Rattle.std.proofs.lemmas.List.{append-nil, nil_from_length}
use Rattle.std.proofs.lemmas.Bool.{eqb-true}
use Rattle.byte_codec.specs.Field.{AreBytes}
use Rattle.byte_codec.specs.Reading.{bytes_at}
use Rattle.map_image.specs.declared.fault.ImageFault.{ImageFault}
use Rattle.map_image.specs.declared.fault.ImageFault.TheVariants as faults
use Rattle.map_image.specs.declared.reading.Reading.{Reading}
use Rattle.map_image.specs.declared.reading.Stage.{Stage}
use Rattle.map_image.specs.declared.reading.Stage.TheVariants.{AtFront, AtEntries, AtMade, AtLinks}
use Rattle.map_image.specs.ImageReading.{are_of_use, image_of_bytes, magic_at}
use Rattle.map_image.specs.Feeding.{FeedsAt, GoesOn, IsCut, IsFailed, IsReader, IsReading, IsRefused, IsSame, KnowsParents, Stands, TakesAt, front_at, is_whole, lasting, resumed, standing, standing_fault}
use Rattle.map_image.proofs.ReadingLaws.{all_used, at_stage, front_cut, not_used, same_lists, some_there}
use Rattle.map_image.proofs.WholeLaws.{whole}

-- ---- bytes

pub AreBytes-append : (first second : List ℕ) → AreBytes first → AreBytes second → AreBytes (first ++ second)
AreBytes-append [] second one two i = two i
AreBytes-append (b ∷ first) second one two zero = one 0
AreBytes-append (b ∷ first) second one two (suc i) = AreBytes-append first second (λ k. one (suc k)) two i

-- ---- a reader that took nothing

none_there : front_at [] ≡ Err faults.Short
unfolding front_at magic_at bytes_at
none_there = refl

pub opened : (r : Reading) → r.stage ≡ AtFront → r.entries.items ≡ [] → r.made.items ≡ [] → r.links.items ≡ [] → KnowsParents r → IsReading [] r []
opened r is es ms ls parents = record {
  are = λ i. omega arith;
  goes_on = λ more. whole more ∙ same_lists AtFront [] r.entries.items [] r.made.items [] r.links.items more es ms ls ∙ sym (at_stage r AtFront more is);
  cut = λ some. front_cut r [] is none_there;
  parents = parents;
}

-- ---- a piece more

pub fed : (old new : Reading) (taken tail piece rest : List ℕ) → IsReading taken old tail → AreBytes piece → GoesOn old (tail ++ piece) new rest → IsCut new rest → KnowsParents new → IsReading (taken ++ piece) new rest
fed old new taken tail piece rest is are on cut parents = record {
  are = AreBytes-append taken piece is.are are;
  goes_on = λ more.
      ap image_of_bytes (append_assoc taken piece more)
      ∙ is.goes_on (piece ++ more)
      ∙ ap (resumed old) (sym (append_assoc tail piece more))
      ∙ on more;
  cut = cut;
  parents = parents;
}

pub failed : (old : Reading) (taken tail piece : List ℕ) (fault : ImageFault) → IsReading taken old tail → AreBytes piece → IsRefused old (tail ++ piece) fault → IsFailed (taken ++ piece) fault
failed old taken tail piece fault is are refused = record {
  are = AreBytes-append taken piece is.are are;
  lasts = refused.lasts;
  fails = λ more.
      ap image_of_bytes (append_assoc taken piece more)
      ∙ is.goes_on (piece ++ more)
      ∙ ap (resumed old) (sym (append_assoc tail piece more))
      ∙ refused.fails more;
}

pub still_failed : (taken piece : List ℕ) (fault : ImageFault) → IsFailed taken fault → AreBytes piece → IsFailed (taken ++ piece) fault
still_failed taken piece fault is are = record {
  are = AreBytes-append taken piece is.are are;
  lasts = is.lasts;
  fails = λ more. ap image_of_bytes (append_assoc taken piece more) ∙ is.fails (piece ++ more);
}

pub same_resumed : (old new : Reading) → IsSame old new → (bytes : List ℕ) → resumed old bytes ≡ resumed new bytes
same_resumed old new same bytes =
    at_stage old old.stage bytes refl
    ∙ same_lists old.stage old.entries.items new.entries.items old.made.items new.made.items old.links.items new.links.items bytes same.entries same.made same.links
    ∙ sym (at_stage new old.stage bytes same.stage)

-- memory ran out: all is as it was
pub unchanged : (old new : Reading) (taken tail rest : List ℕ) → IsReading taken old tail → IsSame old new → rest ≡ tail → IsReading taken new rest
unchanged old new taken tail rest is same kept = record {
  are = is.are;
  goes_on = λ more. is.goes_on more ∙ same_resumed old new same (tail ++ more) ∙ ap (λ (t : List ℕ). resumed new (t ++ more)) (sym kept);
  cut = λ some.
      let before : is_whole old.stage tail ≡ false = ap (λ (s : Stage). is_whole s tail) (sym same.stage) ∙ ap (is_whole new.stage) (sym kept) ∙ some in
      ap (resumed new) kept ∙ sym (same_resumed old new same tail) ∙ is.cut before;
  parents = rw (same.entries, same.parents) is.parents;
}

-- ---- answers

not_whole : (s : Stage) (b : ℕ) (tail : List ℕ) → is_whole s (b ∷ tail) ≡ false
not_whole AtFront b tail = refl
not_whole (AtEntries form header left) b tail = refl
not_whole (AtMade header left) b tail = refl
not_whole (AtLinks header left) b tail = refl

-- the bytes that were taken, with more after them, give this
taken_gives : (r : Reading) (taken tail : List ℕ) → IsReading taken r tail → image_of_bytes taken ≡ resumed r tail
taken_gives r taken tail is = ap image_of_bytes (sym (append-nil taken)) ∙ is.goes_on [] ∙ ap (resumed r) (append-nil tail)

pub whole_or_short : (r : Reading) (stage : Stage) (tail : List ℕ) → r.stage ≡ stage → IsCut r tail → standing (resumed r tail) ≡ None
whole_or_short r AtFront tail is cut = ap standing (cut (ap (λ (s : Stage). is_whole s tail) is))
whole_or_short r (AtEntries form header left) tail is cut = ap standing (cut (ap (λ (s : Stage). is_whole s tail) is))
whole_or_short r (AtMade header left) tail is cut = ap standing (cut (ap (λ (s : Stage). is_whole s tail) is))
whole_or_short r (AtLinks header left) (b ∷ tail) is cut = ap standing (cut (ap (λ (s : Stage). is_whole s (b ∷ tail)) is))
whole_or_short r (AtLinks header left) [] is cut = by_left (eqb left 0) refl where
  by_use : (b : Bool) → are_of_use r.entries.items ≡ b → left ≡ 0 → standing (resumed r []) ≡ None
  by_use true used none = ap standing (all_used r header left is none used)
  by_use false used none = ap standing (not_used r header left is none used)

  by_left : (b : Bool) → eqb left 0 ≡ b → standing (resumed r []) ≡ None
  by_left true e = by_use (are_of_use r.entries.items) refl (eqb-true left 0 e)
  by_left false e = ap standing (cut (ap (λ (s : Stage). is_whole s []) is ∙ e))

pub none_stands : (r : Reading) (taken tail : List ℕ) → IsReading taken r tail → standing_fault taken ≡ None
none_stands r taken tail is = ap standing (taken_gives r taken tail is) ∙ whole_or_short r r.stage tail refl is.cut

failed_gives : (taken : List ℕ) (fault : ImageFault) → IsFailed taken fault → image_of_bytes taken ≡ Err fault
failed_gives taken fault is = ap image_of_bytes (sym (append-nil taken)) ∙ is.fails []

one_stands : (taken : List ℕ) (fault : ImageFault) → IsFailed taken fault → standing_fault taken ≡ Some fault
one_stands taken fault is = ap standing (failed_gives taken fault is) ∙ is.lasts

pub stands_at : (taken : List ℕ) (fault : ImageFault) → IsFailed taken fault → Stands taken fault
stands_at taken faults.NoMemory is = tt
stands_at taken faults.BadMagic is = one_stands taken faults.BadMagic is
stands_at taken faults.BadVersion is = one_stands taken faults.BadVersion is
stands_at taken faults.Short is = one_stands taken faults.Short is
stands_at taken faults.Rest is = one_stands taken faults.Rest is
stands_at taken faults.NotRising is = one_stands taken faults.NotRising is
stands_at taken faults.BadName is = one_stands taken faults.BadName is
stands_at taken faults.BadMark is = one_stands taken faults.BadMark is
stands_at taken faults.ZeroUse is = one_stands taken faults.ZeroUse is

-- a fault that lasts is another than NoMemory
pub is_other : (fault : ImageFault) → lasting fault ≡ Some fault → fault ≡ faults.NoMemory → ⊥
is_other fault lasts is =
    let none : lasting faults.NoMemory ≡ Some faults.NoMemory = subst (λ (f : ImageFault). lasting f ≡ Some f) is lasts in
    absurd cc

pub takes_at : (old piece new : List ℕ) (fault : ImageFault) → lasting fault ≡ Some fault → new ≡ old ++ piece → TakesAt old piece fault new
takes_at old piece new faults.NoMemory lasts is = absurd (is_other faults.NoMemory lasts refl)
takes_at old piece new faults.BadMagic lasts is = is
takes_at old piece new faults.BadVersion lasts is = is
takes_at old piece new faults.Short lasts is = is
takes_at old piece new faults.Rest lasts is = is
takes_at old piece new faults.NotRising lasts is = is
takes_at old piece new faults.BadName lasts is = is
takes_at old piece new faults.BadMark lasts is = is
takes_at old piece new faults.ZeroUse lasts is = is

-- a fault that stands is returned again
pub told_again : {X : Type 0} (taken : List ℕ) (fault other : ImageFault) → IsFailed taken fault → standing_fault taken ≡ Some other → (let told : Result X ImageFault = Err fault in told) ≡ Err other
told_again {X = X} taken fault other is stands =
    let same : Some fault ≡ Some other = sym (one_stands taken fault is) ∙ stands in
    let one : fault ≡ other = cc in
    ap (λ (f : ImageFault). Err f) one

pub none_told : (r : Reading) (taken tail : List ℕ) (fault : ImageFault) → IsReading taken r tail → standing_fault taken ≡ Some fault → ⊥
none_told r taken tail fault is stands =
    let same : None ≡ Some fault = sym (none_stands r taken tail is) ∙ stands in
    absurd cc

-- a fault other than NoMemory
pub fed_refused : (old new : Reading) (tail piece rest : List ℕ) (fault : ImageFault) → (fault ≡ faults.NoMemory → ⊥) → FeedsAt old tail piece new rest fault → IsRefused old (tail ++ piece) fault
fed_refused old new tail piece rest faults.NoMemory other feeds = absurd (other refl)
fed_refused old new tail piece rest faults.BadMagic other feeds = feeds
fed_refused old new tail piece rest faults.BadVersion other feeds = feeds
fed_refused old new tail piece rest faults.Short other feeds = feeds
fed_refused old new tail piece rest faults.Rest other feeds = feeds
fed_refused old new tail piece rest faults.NotRising other feeds = feeds
fed_refused old new tail piece rest faults.BadName other feeds = feeds
fed_refused old new tail piece rest faults.BadMark other feeds = feeds
fed_refused old new tail piece rest faults.ZeroUse other feeds = feeds

-- ---- readers

pub opened_reader : (r : Reading) (taken tail : List ℕ) → taken ≡ [] → tail ≡ [] → r.stage ≡ AtFront → (r.entries.items ≡ []) × (r.made.items ≡ []) × (r.links.items ≡ []) → KnowsParents r → IsReading taken r tail
opened_reader r taken tail none no_tail is lists parents = rw (none, no_tail) (opened r is lists.0 lists.1 lists.2 parents)

pub fed_reader : (old new : Reading) (taken tail piece rest grown : List ℕ) (fault : Option ImageFault) → fault ≡ None → grown ≡ taken ++ piece → IsReader taken old tail fault → AreBytes piece → GoesOn old (tail ++ piece) new rest × IsCut new rest → (KnowsParents old → KnowsParents new)
    → IsReading grown new rest
fed_reader old new taken tail piece rest grown fault none is reader are feeds parents =
    let reading : IsReading taken old tail = subst (IsReader taken old tail) none reader in
    rw is (fed old new taken tail piece rest reading are feeds.0 feeds.1 (parents reading.parents))

pub unchanged_reader : (old new : Reading) (taken tail piece rest : List ℕ) (fault : Option ImageFault) (told : ImageFault) → fault ≡ None → IsReader taken old tail fault → told ≡ faults.NoMemory → FeedsAt old tail piece new rest told → IsReading taken new rest
unchanged_reader old new taken tail piece rest fault told none reader wants feeds =
    let reading : IsReading taken old tail = subst (IsReader taken old tail) none reader in
    let same : IsSame old new × (rest ≡ tail) = subst (FeedsAt old tail piece new rest) wants feeds in
    unchanged old new taken tail rest reading same.0 same.1

pub failed_reader : (old new : Reading) (taken tail piece rest grown : List ℕ) (fault : Option ImageFault) (told : ImageFault) → fault ≡ None → grown ≡ taken ++ piece → IsReader taken old tail fault → AreBytes piece → (told ≡ faults.NoMemory → ⊥) → FeedsAt old tail piece new rest told
    → IsFailed grown told
failed_reader old new taken tail piece rest grown fault told none is reader are other feeds =
    let reading : IsReading taken old tail = subst (IsReader taken old tail) none reader in
    rw is (failed old taken tail piece told reading are (fed_refused old new tail piece rest told other feeds))

-- ---- the end

-- bytes that are cut off are no image
pub tail_is_short : (r : Reading) (taken tail : List ℕ) → IsReading taken r tail → 0 < length tail → image_of_bytes taken ≡ Err faults.Short
tail_is_short r taken [] is lt = absurd (omega arith)
tail_is_short r taken (b ∷ tail) is lt = taken_gives r taken (b ∷ tail) is ∙ is.cut (not_whole r.stage b tail)

pub ended : (r : Reading) (taken : List ℕ) → IsReading taken r [] → image_of_bytes taken ≡ resumed r []
ended r taken is = taken_gives r taken [] is

pub failed_ends : (taken : List ℕ) (fault : ImageFault) → IsFailed taken fault → (fault ≡ faults.NoMemory → ⊥) × (image_of_bytes taken ≡ Err fault)
failed_ends taken fault is = (is_other fault is.lasts, failed_gives taken fault is)

pub tail_ends : (r : Reading) (taken tail : List ℕ) (fault : Option ImageFault) (is_empty : Bool) → fault ≡ None → IsReader taken r tail fault → is_empty ≡ eqb (length tail) 0 → is_empty ≡ false → image_of_bytes taken ≡ Err faults.Short
tail_ends r taken tail fault is_empty none reader is not = tail_is_short r taken tail (subst (IsReader taken r tail) none reader) (some_there tail is_empty is not)

no_tail : (tail : List ℕ) (is_empty : Bool) → is_empty ≡ eqb (length tail) 0 → is_empty ≡ true → tail ≡ []
no_tail tail is_empty is so = nil_from_length tail (eqb-true (length tail) 0 (sym is ∙ so))

pub at_last : (r : Reading) (taken tail : List ℕ) (fault : Option ImageFault) (is_empty : Bool) → fault ≡ None → IsReader taken r tail fault → is_empty ≡ eqb (length tail) 0 → is_empty ≡ true → IsReading taken r []
at_last r taken tail fault is_empty none reader is so = subst (IsReading taken r) (no_tail tail is_empty is so) (subst (IsReader taken r tail) none reader)
