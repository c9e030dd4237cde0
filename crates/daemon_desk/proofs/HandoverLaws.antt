-- What is restored from frames knows what was handed over in them.
use Rattle.std.proofs.Common.{◌≡◌, ◌+◌, ℕ, ◌≤◌, true, List, [], ◌∷◌, ◌++◌, length, Some, IsSome, inl, inr, refl, sym, ap, subst, ◌∙◌, append_assoc, length-append, arith}
use Rattle.std.specs.Prelude.{map}
use Rattle.std.specs.Int.{w32, w64}
use Rattle.std.specs.List.{AllByRecursion, concat}
use Rattle.std.proofs.lemmas.Bool.{eqb-true, le-ltb}
use Rattle.std.proofs.lemmas.List.{append-nil}
use Rattle.byte_codec.specs.Field.{number_bytes}
use Rattle.byte_codec.proofs.WriteLemmas.{len_four, len_eight}
use Rattle.fuse_ops.specs.Served.{ServedState, plain}
use Rattle.map_image.specs.Parts.{AreCut, AreParts}
use Rattle.map_image.specs.Versions.{IsNoLonger, first_form, form_of, part_len}
use Rattle.map_image.specs.declared.version.VersionForm.{VersionForm}
use Rattle.map_image.proofs.LongestLaws.{no_longer}
use Rattle.map_codec.specs.Handover.{IsHandedOver, IsTakenOver, CannotBeTakenOver}
use Rattle.map_codec.proofs.HandedOver.{can_be_taken, taken_knows}
use Rattle.takeover_core.specs.Phases.{goes_whole}
use Rattle.takeover_core.specs.declared.message.Message.TheVariants.{Part}
use Rattle.frames.specs.declared.frame.Frame.{Frame}
use Rattle.frames.specs.declared.frame.Frame.TheVariants.{Takeover}
use Rattle.frames.specs.FrameText.{body_of, frame_text, longest_body}
use Rattle.frames.specs.Laws.{AreFirst, Rest}
use Rattle.frames.specs.Reading.{NotYet, First, said}
use Rattle.frames.proofs.PartingLaws.{one_parting, pieces_join}
use Rattle.frames.proofs.StreamLaws.{text_again}
use Rattle.daemon.specs.Talking.{numbered}
use Rattle.daemon_desk.specs.Handover.{AreTexts, Carry, IsRead, IsReadInPieces, data_frame, part_frames}

-- ---- how long it is

pub handed_is_short : (made : ServedState) (generation version : ℕ) (bytes : List ℕ) → IsHandedOver made generation version bytes → IsNoLonger version bytes
handed_is_short made generation version bytes handed = no_longer handed.image version bytes handed.text handed.accepted

whole_form : (version : ℕ) (form : VersionForm) → version ≡ 1 → form_of version ≡ Some form → form ≡ first_form
whole_form version form one is =
    let known : form_of 1 ≡ Some form = subst (λ (v : ℕ). form_of v ≡ Some form) one is in
    cc

pub handed_has_frame : (made : ServedState) (session generation version : ℕ) (bytes : List ℕ) → goes_whole version ≡ true → IsHandedOver made generation version bytes → IsSome (frame_text (data_frame session generation bytes))
handed_has_frame made session generation version bytes whole handed =
    let body : List ℕ = body_of (data_frame session generation bytes) in
    let short : IsNoLonger version bytes = handed_is_short made generation version bytes handed in
    let few : length bytes ≤ first_form.longest = subst (λ (form : VersionForm). length bytes ≤ form.longest) (whole_form version short.form (eqb-true version 1 whole) short.known) short.at_most in
    let has_room : length body ≤ longest_body = omega (arith, length-append (number_bytes w32 session) (number_bytes w64 generation ++ bytes), length-append (number_bytes w64 generation) bytes, len_four session, len_eight generation, few) in
    rw (le-ltb longest_body (length body) has_room) refl

part_has_frame : (session generation position count : ℕ) (part : List ℕ) → length part ≤ part_len → IsSome (frame_text (Takeover (Part session generation position count part)))
part_has_frame session generation position count part few =
    let body : List ℕ = body_of (Takeover (Part session generation position count part)) in
    let has_room : length body ≤ longest_body = omega (arith, length-append (number_bytes w32 session) (number_bytes w64 generation ++ (number_bytes w32 position ++ (number_bytes w32 count ++ part))), length-append (number_bytes w64 generation) (number_bytes w32 position ++ (number_bytes w32 count ++ part)), length-append (number_bytes w32 position) (number_bytes w32 count ++ part), length-append (number_bytes w32 count) part, len_four session, len_eight generation, len_four position, len_four count, few) in
    rw (le-ltb longest_body (length body) has_room) refl

each_has_frame : (session generation count position : ℕ) (parts : List (List ℕ)) → AreCut parts → AllByRecursion (λ frame. IsSome (frame_text frame)) (map Takeover (numbered session generation count position parts))
each_has_frame session generation count position [] cut = absurd cut
each_has_frame session generation count position (last ∷ []) cut = (part_has_frame session generation position count last cut.1, tt)
each_has_frame session generation count position (part ∷ next ∷ rest) cut =
    (part_has_frame session generation position count part (omega (arith, cut.0)), each_has_frame session generation count (position + 1) (next ∷ rest) cut.1)

pub parts_have_frames : (session generation : ℕ) (bytes : List ℕ) (parts : List (List ℕ)) → AreParts bytes parts → AllByRecursion (λ frame. IsSome (frame_text frame)) (part_frames session generation parts)
parts_have_frames session generation bytes parts are = each_has_frame session generation (length parts) 1 parts are.cut

-- ---- pieces

append_first : (bytes left rest : List ℕ) (frames others : List Frame) → AreFirst bytes frames left → AreFirst left others rest → AreFirst bytes (frames ++ others) rest
append_first bytes left rest [] others are then = subst (λ (b : List ℕ). AreFirst b others rest) (sym are) then
append_first bytes left rest (frame ∷ frames) others are then = (are.0, are.1, append_first are.0 left rest frames others are.2 then)

in_pieces : (pieces : List (List ℕ)) (unread : List ℕ) (frames : List Frame) (rest : List ℕ) → IsReadInPieces unread pieces frames rest → AreFirst (unread ++ concat pieces) frames rest × (said rest ≡ NotYet)
in_pieces [] unread frames rest read = (subst (λ (b : List ℕ). AreFirst b frames rest) (sym (append-nil unread)) read.0, read.1)
in_pieces (piece ∷ pieces) unread frames rest (taken, others, left, first, then, is) =
    let later = in_pieces pieces left others rest then in
    let front : AreFirst ((unread ++ piece) ++ concat pieces) taken (left ++ concat pieces) = pieces_join (unread ++ piece) left (concat pieces) taken first in
    let all : AreFirst ((unread ++ piece) ++ concat pieces) (taken ++ others) rest = append_first ((unread ++ piece) ++ concat pieces) (left ++ concat pieces) rest taken others front later.0 in
    (subst (λ (b : List ℕ). AreFirst b frames rest) (append_assoc unread piece (concat pieces)) (subst (λ (f : List Frame). AreFirst ((unread ++ piece) ++ concat pieces) f rest) (sym is) all), later.1)

nothing_yet : said [] ≡ NotYet
unfolding said
nothing_yet = refl

same_rest : (rest : List ℕ) → Rest rest ≡ Rest [] → rest ≡ []
same_rest rest e = cc

-- the texts of frames are read as these frames, and nothing is left
texts_first : (frames : List Frame) (bytes : List ℕ) → AreTexts frames bytes → AreFirst bytes frames []
texts_first [] bytes none = none
texts_first (frame ∷ frames) bytes (text, others, fits, is, are, joined) =
    (others, subst (λ (b : List ℕ). said b ≡ First frame others) (sym joined) (text_again frame text others fits is), texts_first frames others are)

pub frames_are_read : (frames read : List Frame) (pieces : List (List ℕ)) (rest : List ℕ) → AreTexts frames (concat pieces) → IsReadInPieces [] pieces read rest → (read ≡ frames) × (rest ≡ [])
frames_are_read frames read pieces rest come is_read =
    let same = one_parting (concat pieces) read frames (Rest rest) (Rest []) (in_pieces pieces [] read rest is_read) (texts_first frames (concat pieces) come, nothing_yet) in
    (same.0, same_rest rest same.1)

-- ---- what frames carry

no_parts : (session generation : ℕ) (bytes : List ℕ) (parts : List (List ℕ)) → (let one : List Frame = data_frame session generation bytes ∷ [] in one) ≡ part_frames session generation parts → ⊥
no_parts session generation bytes [] e = cc
no_parts session generation bytes (part ∷ parts) e = cc

same_numbered : (session generation count other position : ℕ) (xs ys : List (List ℕ)) → map Takeover (numbered session generation count position xs) ≡ map Takeover (numbered session generation other position ys) → xs ≡ ys
same_numbered session generation count other position [] [] e = refl
same_numbered session generation count other position [] (y ∷ ys) e = (let no : ⊥ = cc in absurd no)
same_numbered session generation count other position (x ∷ xs) [] e = (let no : ⊥ = cc in absurd no)
same_numbered session generation count other position (x ∷ xs) (y ∷ ys) e =
    let first : x ≡ y = cc in
    let others : xs ≡ ys = same_numbered session generation count other (position + 1) xs ys cc in
    cc

-- frames carry no other bytes than these
carried : (session generation : ℕ) (frames : List Frame) (bytes read : List ℕ) → Carry session generation frames bytes → Carry session generation frames read → read ≡ bytes
carried session generation frames bytes read (inl whole) (inl other) = (let e : (let one : List Frame = data_frame session generation bytes ∷ [] in one) ≡ data_frame session generation read ∷ [] = sym whole ∙ other in cc)
carried session generation frames bytes read (inl whole) (inr (parts, are, joined)) = absurd (no_parts session generation bytes parts (sym whole ∙ are))
carried session generation frames bytes read (inr (parts, are, joined)) (inl whole) = absurd (no_parts session generation read parts (sym whole ∙ are))
carried session generation frames bytes read (inr (parts, are, joined)) (inr (others, so, whole)) =
    let same : others ≡ parts = same_numbered session generation (length others) (length parts) 1 others parts (sym so ∙ are) in
    sym whole ∙ ap concat same ∙ joined

-- ---- what is known

same_bytes : (made : ServedState) (session generation : ℕ) (read : List ℕ) (is : IsRead made session generation read) → read ≡ is.bytes
same_bytes made session generation read is =
    carried session generation is.frames is.bytes read is.carry
    (subst (λ (frames : List Frame). Carry session generation frames read) (frames_are_read is.frames is.received is.pieces is.rest is.come is.is_read).0 is.bring)

pub read_knows : (made later : ServedState) (session generation limit : ℕ) (read : List ℕ) → IsRead made session generation read → IsTakenOver made.tree.manifest limit generation read later → plain later ≡ plain made
read_knows made later session generation limit read is taken =
    taken_knows made.tree.manifest limit generation generation is.version is.bytes made later is.sound is.tree is.is_manifest refl is.handed
    (subst (λ (b : List ℕ). IsTakenOver made.tree.manifest limit generation b later) (same_bytes made session generation read is) taken)

pub read_can_be_taken : (made : ServedState) (session generation : ℕ) (read : List ℕ) → IsRead made session generation read → CannotBeTakenOver made.tree.manifest generation read → ⊥
read_can_be_taken made session generation read is cannot =
    can_be_taken made.tree.manifest generation is.version is.bytes made is.sound is.tree is.is_manifest refl is.handed
    (subst (λ (b : List ℕ). CannotBeTakenOver made.tree.manifest generation b) (same_bytes made session generation read is) cannot)
