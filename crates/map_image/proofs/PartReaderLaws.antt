-- A reader of parts needs the last members alone: what it meets next depends on no others.
use Rattle.std.proofs.Common.{◌≡◌, ℕ, ◌+◌, ◌<◌, Bool, true, false, cond, List, [], ◌∷◌, ◌++◌, length, Option, Some, None, Result, Ok, Err, refl, sym, ap, subst, ◌∙◌, append_assoc, get_or, take}
use Rattle.std.specs.Prelude.{nat_lt}
use Rattle.std.specs.List.{concat}
use Rattle.std.specs.Option.{option_and_then}
use Rattle.std.proofs.lemmas.List.{append-nil, take_more}
use Rattle.byte_codec.specs.Field.{AreBytes}
use Rattle.byte_codec.specs.Reading.{◌>>=◌, number_at}
use Rattle.checkout.specs.declared.changes.Made.{Made}
use Rattle.manifest.specs.declared.link_change.LinkChange.{LinkChange}
use Rattle.entry_table.specs.declared.kept.Kept.{Kept}
use Rattle.map_image.specs.declared.fault.ImageFault.{ImageFault}
use Rattle.map_image.specs.declared.fault.ImageFault.TheVariants as faults
use Rattle.map_image.specs.declared.header.ImageHeader.{ImageHeader}
use Rattle.map_image.specs.declared.image.Image.{Image}
use Rattle.map_image.specs.declared.reading.Front.{Front}
use Rattle.map_image.specs.declared.reading.Reading.{Reading}
use Rattle.map_image.specs.declared.reading.Stage.{Stage}
use Rattle.map_image.specs.declared.reading.Stage.TheVariants.{AtFront, AtEntries, AtMade, AtLinks}
use Rattle.map_image.specs.declared.version.VersionForm.{VersionForm}
use Rattle.map_image.specs.ImageReading.{are_of_use, entry_at, image_of_bytes, image_with, last_of, link_at, made_at, members_at, seen_whole}
use Rattle.map_image.specs.Feeding.{FeedsAt, GoesOn, IsCut, IsFailed, IsReading, IsRefused, IsSame, KnowsParents, entries_on, front_at, is_whole, lasting, links_on, made_on, resumed, resumed_at, standing, standing_fault}
use Rattle.map_image.specs.PartReading.{IsPartReader, IsPartReading, KeepsLast, fault_before_whole}
use Rattle.map_image.specs.Versions.{length_width}
use Rattle.map_image.proofs.Loop.{with_front}
use Rattle.map_image.proofs.ReadingLaws.{at_stage}
use Rattle.map_image.proofs.FedLaws.{AreBytes-append, fed_refused, opened_reader, same_resumed, whole_or_short}

-- ---- the bytes of parts

concat_more : (parts : List (List ℕ)) (part : List ℕ) → concat (parts ++ part ∷ []) ≡ concat parts ++ part
concat_more [] part = append-nil part
concat_more (p ∷ parts) part = ap (λ (bytes : List ℕ). p ++ bytes) (concat_more parts part) ∙ sym (append_assoc p (concat parts) part)

pub grown_by : (old mid new : List (List ℕ)) (kept part : List ℕ) → mid ≡ old → new ≡ mid ++ kept ∷ [] → kept ≡ part → concat new ≡ concat old ++ part
grown_by old mid new kept part same more is =
    ap concat (more ∙ ap (λ (parts : List (List ℕ)). parts ++ kept ∷ []) same ∙ ap (λ (p : List ℕ). old ++ p ∷ []) is) ∙ concat_more old part

pub concat_taken : (parts : List (List ℕ)) (i : ℕ) (part : List ℕ) → i < length parts → part ≡ get_or parts i part → concat (take (i + 1) parts) ≡ concat (take i parts) ++ part
concat_taken parts i part lt is = ap concat (take_more parts i part lt ∙ ap (λ (p : List ℕ). take i parts ++ p ∷ []) (sym is)) ∙ concat_more (take i parts) part

-- ---- lists with the same last members

whole_alike : (b c d : Bool) (one other : Image) → fault_before_whole (cond b (Err faults.Rest) (cond c (Ok one) (Err faults.ZeroUse))) ≡ fault_before_whole (cond b (Err faults.Rest) (cond d (Ok other) (Err faults.ZeroUse)))
whole_alike true c d one other = refl
whole_alike false true true one other = refl
whole_alike false true false one other = refl
whole_alike false false true one other = refl
whole_alike false false false one other = refl

seen_alike : (one other : Image) (rest : List ℕ) → fault_before_whole (seen_whole (one, rest)) ≡ fault_before_whole (seen_whole (other, rest))
seen_alike one other rest = whole_alike (nat_lt 0 (length rest)) (are_of_use one.entries) (are_of_use other.entries) one other

abbrev image_of : ImageHeader → List Kept → List Made → List LinkChange → Image
image_of header es ms ls = image_with header es (record { made = ms; links = ls; next_file = record { 0 = header.next_file } })

abbrev links_by : ImageHeader → List Kept → List Made → List LinkChange → Result (List LinkChange × List ℕ) ImageFault → Result Image ImageFault
links_by header es ms ls read =
    with_front ls read >>= λ all. seen_whole (image_of header es ms all.0, all.1)

links_alike : (header : ImageHeader) (es es' : List Kept) (ms ms' : List Made) (ls ls' : List LinkChange) (count : ℕ) (bytes : List ℕ) → last_of ls' ≡ last_of ls → fault_before_whole (links_on header es ms ls count bytes) ≡ fault_before_whole (links_on header es' ms' ls' count bytes)
links_alike header es es' ms ms' ls ls' count bytes same =
    in_ (members_at link_at (last_of ls) count bytes) ∙ ap (λ (last : Option LinkChange). fault_before_whole (links_by header es' ms' ls' (members_at link_at last count bytes))) (sym same) where
      in_ : (read : Result (List LinkChange × List ℕ) ImageFault) → fault_before_whole (links_by header es ms ls read) ≡ fault_before_whole (links_by header es' ms' ls' read)
      in_ (Ok x) = seen_alike (image_of header es ms (ls ++ x.0)) (image_of header es' ms' (ls' ++ x.0)) x.1
      in_ (Err fault) = refl

abbrev made_by : ImageHeader → List Kept → List Made → List LinkChange → Result (List Made × List ℕ) ImageFault → Result Image ImageFault
made_by header es ms ls read =
    with_front ms read >>= λ all. number_at faults.Short length_width all.1 >>= λ next. links_on header es all.0 ls next.0 next.1

made_alike : (header : ImageHeader) (es es' : List Kept) (ms ms' : List Made) (ls ls' : List LinkChange) (count : ℕ) (bytes : List ℕ) → last_of ms' ≡ last_of ms → last_of ls' ≡ last_of ls → fault_before_whole (made_on header es ms ls count bytes) ≡ fault_before_whole (made_on header es' ms' ls' count bytes)
made_alike header es es' ms ms' ls ls' count bytes same links =
    in_ (members_at made_at (last_of ms) count bytes) ∙ ap (λ (last : Option Made). fault_before_whole (made_by header es' ms' ls' (members_at made_at last count bytes))) (sym same) where
      next : (mine others : List Made) (read : Result (ℕ × List ℕ) ImageFault) → fault_before_whole (read >>= λ n. links_on header es mine ls n.0 n.1) ≡ fault_before_whole (read >>= λ n. links_on header es' others ls' n.0 n.1)
      next mine others (Ok n) = links_alike header es es' mine others ls ls' n.0 n.1 links
      next mine others (Err fault) = refl

      in_ : (read : Result (List Made × List ℕ) ImageFault) → fault_before_whole (made_by header es ms ls read) ≡ fault_before_whole (made_by header es' ms' ls' read)
      in_ (Ok x) = next (ms ++ x.0) (ms' ++ x.0) (number_at faults.Short length_width x.1)
      in_ (Err fault) = refl

abbrev entries_by : ImageHeader → List Kept → List Made → List LinkChange → Result (List Kept × List ℕ) ImageFault → Result Image ImageFault
entries_by header es ms ls read =
    with_front es read >>= λ all. number_at faults.Short length_width all.1 >>= λ next. made_on header all.0 ms ls next.0 next.1

entries_alike : (form : VersionForm) (header : ImageHeader) (es es' : List Kept) (ms ms' : List Made) (ls ls' : List LinkChange) (count : ℕ) (bytes : List ℕ) → last_of es' ≡ last_of es → last_of ms' ≡ last_of ms → last_of ls' ≡ last_of ls → fault_before_whole (entries_on form header es ms ls count bytes) ≡ fault_before_whole (entries_on form header es' ms' ls' count bytes)
entries_alike form header es es' ms ms' ls ls' count bytes same made links =
    in_ (members_at (entry_at form) (last_of es) count bytes) ∙ ap (λ (last : Option Kept). fault_before_whole (entries_by header es' ms' ls' (members_at (entry_at form) last count bytes))) (sym same) where
      next : (mine others : List Kept) (read : Result (ℕ × List ℕ) ImageFault) → fault_before_whole (read >>= λ n. made_on header mine ms ls n.0 n.1) ≡ fault_before_whole (read >>= λ n. made_on header others ms' ls' n.0 n.1)
      next mine others (Ok n) = made_alike header mine others ms ms' ls ls' n.0 n.1 made links
      next mine others (Err fault) = refl

      in_ : (read : Result (List Kept × List ℕ) ImageFault) → fault_before_whole (entries_by header es ms ls read) ≡ fault_before_whole (entries_by header es' ms' ls' read)
      in_ (Ok x) = next (es ++ x.0) (es' ++ x.0) (number_at faults.Short length_width x.1)
      in_ (Err fault) = refl

front_alike : (es es' : List Kept) (ms ms' : List Made) (ls ls' : List LinkChange) (read : Result (Front × List ℕ) ImageFault) → last_of es' ≡ last_of es → last_of ms' ≡ last_of ms → last_of ls' ≡ last_of ls
    → fault_before_whole (read >>= λ front. entries_on front.0.form front.0.header es ms ls front.0.count front.1) ≡ fault_before_whole (read >>= λ front. entries_on front.0.form front.0.header es' ms' ls' front.0.count front.1)
front_alike es es' ms ms' ls ls' (Ok front) same made links = entries_alike front.0.form front.0.header es es' ms ms' ls ls' front.0.count front.1 same made links
front_alike es es' ms ms' ls ls' (Err fault) same made links = refl

resumed_alike : (stage : Stage) (es es' : List Kept) (ms ms' : List Made) (ls ls' : List LinkChange) (bytes : List ℕ) → last_of es' ≡ last_of es → last_of ms' ≡ last_of ms → last_of ls' ≡ last_of ls → fault_before_whole (resumed_at stage es ms ls bytes) ≡ fault_before_whole (resumed_at stage es' ms' ls' bytes)
resumed_alike AtFront es es' ms ms' ls ls' bytes same made links = front_alike es es' ms ms' ls ls' (front_at bytes) same made links
resumed_alike (AtEntries form header left) es es' ms ms' ls ls' bytes same made links = entries_alike form header es es' ms ms' ls ls' left bytes same made links
resumed_alike (AtMade header left) es es' ms ms' ls ls' bytes same made links = made_alike header es es' ms ms' ls ls' left bytes made links
resumed_alike (AtLinks header left) es es' ms ms' ls ls' bytes same made links = links_alike header es es' ms ms' ls ls' left bytes links

alike : (old new : Reading) → KeepsLast old new → (bytes : List ℕ) → fault_before_whole (resumed old bytes) ≡ fault_before_whole (resumed new bytes)
alike old new keeps bytes =
    ap fault_before_whole (at_stage old old.stage bytes refl)
    ∙ resumed_alike old.stage old.entries.items new.entries.items old.made.items new.made.items old.links.items new.links.items bytes keeps.entries keeps.made keeps.links
    ∙ ap fault_before_whole (sym (at_stage new old.stage bytes keeps.stage))

-- ---- faults

fault_is : (read : Result Image ImageFault) (fault : ImageFault) → fault_before_whole read ≡ Some fault → read ≡ Err fault
fault_is (Ok image) fault e = absurd cc
fault_is (Err faults.BadMagic) fault e = cc
fault_is (Err faults.BadVersion) fault e = cc
fault_is (Err faults.Short) fault e = cc
fault_is (Err faults.Rest) fault e = cc
fault_is (Err faults.NotRising) fault e = cc
fault_is (Err faults.BadName) fault e = cc
fault_is (Err faults.BadMark) fault e = cc
fault_is (Err faults.ZeroUse) fault e = absurd cc
fault_is (Err faults.NoMemory) fault e = cc

lasting_is : (fault : ImageFault) → lasting fault ≡ Some fault → fault_before_whole (Err fault) ≡ Some fault
lasting_is faults.BadMagic e = refl
lasting_is faults.BadVersion e = refl
lasting_is faults.Short e = refl
lasting_is faults.Rest e = refl
lasting_is faults.NotRising e = refl
lasting_is faults.BadName e = refl
lasting_is faults.BadMark e = refl
lasting_is faults.ZeroUse e = absurd cc
lasting_is faults.NoMemory e = refl

standing_is : (read : Result Image ImageFault) → standing read ≡ option_and_then lasting (fault_before_whole read)
standing_is (Ok image) = refl
standing_is (Err faults.BadMagic) = refl
standing_is (Err faults.BadVersion) = refl
standing_is (Err faults.Short) = refl
standing_is (Err faults.Rest) = refl
standing_is (Err faults.NotRising) = refl
standing_is (Err faults.BadName) = refl
standing_is (Err faults.BadMark) = refl
standing_is (Err faults.ZeroUse) = refl
standing_is (Err faults.NoMemory) = refl

-- ---- readers of parts

opened_parts : (r : Reading) (taken tail : List ℕ) → IsReading taken r tail → IsPartReading taken r tail
opened_parts r taken tail is = record { are = is.are; goes_on = λ more. ap fault_before_whole (is.goes_on more); cut = is.cut }

pub opened_part_reader : (r : Reading) (taken tail : List ℕ) → taken ≡ [] → tail ≡ [] → r.stage ≡ AtFront → (r.entries.items ≡ []) × (r.made.items ≡ []) × (r.links.items ≡ []) → KnowsParents r → IsPartReading taken r tail
opened_part_reader r taken tail none no_tail is lists parents = opened_parts r taken tail (opened_reader r taken tail none no_tail is lists parents)

-- what a reader resumes after a piece
after_piece : (old : Reading) (taken tail piece more : List ℕ) → IsPartReading taken old tail → fault_before_whole (image_of_bytes ((taken ++ piece) ++ more)) ≡ fault_before_whole (resumed old ((tail ++ piece) ++ more))
after_piece old taken tail piece more is =
    ap (λ (bytes : List ℕ). fault_before_whole (image_of_bytes bytes)) (append_assoc taken piece more)
    ∙ is.goes_on (piece ++ more)
    ∙ ap (λ (bytes : List ℕ). fault_before_whole (resumed old bytes)) (sym (append_assoc tail piece more))

pub fed_part_reader : (old mid new : Reading) (taken tail piece rest grown : List ℕ) (fault : Option ImageFault) → fault ≡ None → grown ≡ taken ++ piece → IsPartReader taken old tail fault → AreBytes piece → GoesOn old (tail ++ piece) mid rest × IsCut mid rest → KeepsLast mid new → IsPartReading grown new rest
fed_part_reader old mid new taken tail piece rest grown fault none is reader are feeds keeps =
    let reading : IsPartReading taken old tail = subst (IsPartReader taken old tail) none reader in
    let now : IsPartReading (taken ++ piece) new rest = record {
      are = AreBytes-append taken piece reading.are are;
      goes_on = λ more. after_piece old taken tail piece more reading ∙ ap fault_before_whole (feeds.0 more) ∙ alike mid new keeps (rest ++ more);
      cut = λ some.
          let before : is_whole mid.stage rest ≡ false = ap (λ (s : Stage). is_whole s rest) (sym keeps.stage) ∙ some in
          fault_is (resumed new rest) faults.Short (sym (alike mid new keeps rest) ∙ ap fault_before_whole (feeds.1 before));
    } in
    subst (λ (bytes : List ℕ). IsPartReading bytes new rest) (sym is) now

pub failed_part_reader : (old new : Reading) (taken tail piece rest grown : List ℕ) (fault : Option ImageFault) (told : ImageFault) → fault ≡ None → grown ≡ taken ++ piece → IsPartReader taken old tail fault → AreBytes piece → (told ≡ faults.NoMemory → ⊥) → FeedsAt old tail piece new rest told → IsFailed grown told
failed_part_reader old new taken tail piece rest grown fault told none is reader are other feeds =
    let reading : IsPartReading taken old tail = subst (IsPartReader taken old tail) none reader in
    let refused : IsRefused old (tail ++ piece) told = fed_refused old new tail piece rest told other feeds in
    let now : IsFailed (taken ++ piece) told = record {
      are = AreBytes-append taken piece reading.are are;
      lasts = refused.lasts;
      fails = λ more. fault_is _ told (after_piece old taken tail piece more reading ∙ ap fault_before_whole (refused.fails more) ∙ lasting_is told refused.lasts);
    } in
    subst (λ (bytes : List ℕ). IsFailed bytes told) (sym is) now

pub unchanged_part_reader : (old new : Reading) (taken tail piece rest : List ℕ) (fault : Option ImageFault) (told : ImageFault) → fault ≡ None → IsPartReader taken old tail fault → told ≡ faults.NoMemory → FeedsAt old tail piece new rest told → IsPartReading taken new rest
unchanged_part_reader old new taken tail piece rest fault told none reader wants feeds =
    let reading : IsPartReading taken old tail = subst (IsPartReader taken old tail) none reader in
    let same : IsSame old new × (rest ≡ tail) = subst (FeedsAt old tail piece new rest) wants feeds in
    record {
      are = reading.are;
      goes_on = λ more. reading.goes_on more ∙ ap fault_before_whole (same_resumed old new same.0 (tail ++ more)) ∙ ap (λ (t : List ℕ). fault_before_whole (resumed new (t ++ more))) (sym same.1);
      cut = λ some.
          let before : is_whole old.stage tail ≡ false = ap (λ (s : Stage). is_whole s tail) (sym same.0.stage) ∙ ap (is_whole new.stage) (sym same.1) ∙ some in
          ap (resumed new) same.1 ∙ sym (same_resumed old new same.0 tail) ∙ reading.cut before;
    }

-- ---- answers

pub none_stands_of_parts : (r : Reading) (taken tail : List ℕ) → IsPartReading taken r tail → standing_fault taken ≡ None
none_stands_of_parts r taken tail is =
    let gives : fault_before_whole (image_of_bytes taken) ≡ fault_before_whole (resumed r tail) =
    ap (λ (bytes : List ℕ). fault_before_whole (image_of_bytes bytes)) (sym (append-nil taken)) ∙ is.goes_on [] ∙ ap (λ (bytes : List ℕ). fault_before_whole (resumed r bytes)) (append-nil tail) in
    standing_is (image_of_bytes taken) ∙ ap (option_and_then lasting) gives ∙ sym (standing_is (resumed r tail)) ∙ whole_or_short r r.stage tail refl is.cut
