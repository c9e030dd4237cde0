-- What a stream says by the texts of frames is what is read of it.
use Rattle.std.proofs.Common.{◌≡◌, ◌≢◌, ℕ, ◌+◌, ◌<◌, ◌≤◌, Bool, false, cond, ltb, List, [], ◌∷◌, ◌++◌, length, take, drop, Option, Some, None, Result, Ok, Err, refl, sym, ap, subst, ◌∙◌, inl, inr, append_assoc, length-take, arith}
use Rattle.std.specs.Int.{w32}
use Rattle.std.specs.Prelude.{◌↔◌, slice_index}
use Rattle.std.proofs.lemmas.Bool.{cases_lt, le-ltb, lt-ltb}
use Rattle.std.proofs.lemmas.List.{take-append-drop, drop-drop, length-drop}
use Rattle.byte_codec.specs.Field.{AreBytes, number_bytes}
use Rattle.byte_codec.proofs.ByteLemmas.{AreBytes-drop, AreBytes-take}
use Rattle.byte_codec.proofs.FieldLaws.{four_back}
use Rattle.byte_codec.proofs.YieldLemmas.{faulted, yielded}
use Rattle.frames.specs.declared.fault.FrameFault.{FrameFault}
use Rattle.frames.specs.declared.fault.FrameFault.TheVariants.{TooLong, BadKind, BadBody, Torn, Read, Write, NoMemory}
use Rattle.frames.specs.declared.frame.Frame.{Frame}
use Rattle.frames.specs.declared.kind.FrameKind.{FrameKind}
use Rattle.frames.specs.FrameText.{body_of, framed, kind_of, longest_body}
use Rattle.frames.specs.Kind.{kind_with, number_of}
use Rattle.frames.specs.Reading.{Said, First, Faulty, NotYet, behind, body_in, body_len, frame_of, said}
use Rattle.frames.specs.Says.{HasKind, HasLength, IsFirst, IsNoBody, Says}
use Rattle.frames.proofs.FoundFrames.{IsFrameOf, frame_yields, number_found_again}
use Rattle.frames.proofs.FrameLaws.{body_again, kind_again}
use Rattle.frames.proofs.StreamLaws.{text_again}

are_body : (bytes : List ℕ) → AreBytes bytes → AreBytes (body_in bytes)
are_body bytes are = AreBytes-take (body_len bytes) (drop 5 bytes) (AreBytes-drop 5 bytes are)

-- ---- what is said is read

no_number : (n : ℕ) (found : Option FrameKind) → kind_with n ≡ found → ((kind : FrameKind) → n ≢ number_of kind) → kind_with n ≡ None
no_number n None e none = e
no_number n (Some kind) e none = absurd (none kind (number_found_again n kind e))

its_kind : (n : ℕ) (kind : FrameKind) → n ≡ number_of kind → kind_with n ≡ Some kind
its_kind n kind e = ap kind_with e ∙ kind_again kind

no_frame : (kind : FrameKind) (body : List ℕ) (read : Result Frame FrameFault) → frame_of kind body ≡ read → AreBytes body → IsNoBody kind body → frame_of kind body ≡ Err BadBody
no_frame kind body (Ok frame) e are none = let found = yielded (frame_of kind body) frame (frame_yields kind body are) e in absurd (none frame found.fits found.kind_is found.body_is)
no_frame kind body (Err fault) e are none = let is = faulted (frame_of kind body) fault (frame_yields kind body are) e in cc

too_long : (bytes : List ℕ) → 4 ≤ length bytes → longest_body < body_len bytes → said bytes ≡ Faulty TooLong
unfolding said
too_long bytes four over = rw (le-ltb (length bytes) 4 four, lt-ltb longest_body (body_len bytes) over) refl

bad_kind : (bytes : List ℕ) → HasLength bytes → 5 ≤ length bytes → kind_with (slice_index bytes 4) ≡ None → said bytes ≡ Faulty BadKind
unfolding said
bad_kind bytes len five none = rw (le-ltb (length bytes) 4 len.whole, le-ltb longest_body (body_len bytes) len.few, le-ltb (length bytes) 5 five, none) refl

bad_body : (bytes : List ℕ) (kind : FrameKind) → HasKind bytes kind → 5 + body_len bytes ≤ length bytes → frame_of kind (body_in bytes) ≡ Err BadBody → said bytes ≡ Faulty BadBody
unfolding said
bad_body bytes kind has whole none =
    rw (le-ltb (length bytes) 4 has.len.whole, le-ltb longest_body (body_len bytes) has.len.few, le-ltb (length bytes) 5 has.whole, its_kind (slice_index bytes 4) kind has.number, le-ltb (length bytes) (5 + body_len bytes) whole, none) refl

not_four : (bytes : List ℕ) → length bytes < 4 → said bytes ≡ NotYet
unfolding said
not_four bytes lt = rw (lt-ltb (length bytes) 4 lt) refl

just_four : (bytes : List ℕ) → HasLength bytes → length bytes ≡ 4 → said bytes ≡ NotYet
unfolding said
just_four bytes len is =
    rw (le-ltb (length bytes) 4 len.whole, le-ltb longest_body (body_len bytes) len.few, lt-ltb (length bytes) 5 (omega (arith, is))) refl

not_whole : (bytes : List ℕ) (kind : FrameKind) → HasKind bytes kind → length bytes < 5 + body_len bytes → said bytes ≡ NotYet
unfolding said
not_whole bytes kind has lt =
    rw (le-ltb (length bytes) 4 has.len.whole, le-ltb longest_body (body_len bytes) has.len.few, le-ltb (length bytes) 5 has.whole, its_kind (slice_index bytes 4) kind has.number, lt-ltb (length bytes) (5 + body_len bytes) lt) refl

pub is_said : (bytes : List ℕ) (what : Said) → AreBytes bytes → Says bytes what → said bytes ≡ what
is_said bytes (First frame rest) are is = ap said is.in_front ∙ text_again frame is.text rest is.fits is.is_text
is_said bytes (Faulty TooLong) are is = too_long bytes is.0 is.1
is_said bytes (Faulty BadKind) are is = bad_kind bytes is.0 is.1 (no_number (slice_index bytes 4) (kind_with (slice_index bytes 4)) refl is.2)
is_said bytes (Faulty BadBody) are is =
    bad_body bytes is.0 is.1 is.2 (no_frame is.0 (body_in bytes) (frame_of is.0 (body_in bytes)) refl (are_body bytes are) is.3)
is_said bytes (Faulty Torn) are is = absurd is
is_said bytes (Faulty Read) are is = absurd is
is_said bytes (Faulty Write) are is = absurd is
is_said bytes (Faulty NoMemory) are is = absurd is
is_said bytes NotYet are (inl lt) = not_four bytes lt
is_said bytes NotYet are (inr (inl four)) = just_four bytes four.0 four.1
is_said bytes NotYet are (inr (inr part)) = not_whole bytes part.0 part.1 part.2

-- ---- and something is said

five_parts : (bytes : List ℕ) → 5 ≤ length bytes → bytes ≡ take 4 bytes ++ (slice_index bytes 4 ∷ drop 5 bytes)
five_parts [] five = absurd (omega (arith, five))
five_parts (a ∷ []) five = absurd (omega (arith, five))
five_parts (a ∷ b ∷ []) five = absurd (omega (arith, five))
five_parts (a ∷ b ∷ c ∷ []) five = absurd (omega (arith, five))
five_parts (a ∷ b ∷ c ∷ d ∷ []) five = absurd (omega (arith, five))
five_parts (a ∷ b ∷ c ∷ d ∷ n ∷ bytes) five = refl

in_parts : (bytes : List ℕ) (kind : FrameKind) → AreBytes bytes → HasKind bytes kind → 5 + body_len bytes ≤ length bytes → bytes ≡ framed kind (body_in bytes) ++ behind bytes
in_parts bytes kind are has whole =
    let len = body_len bytes in
    let head = take 4 bytes in
    let body = body_in bytes in
    let long : length body ≡ len = omega (arith, length-take len (drop 5 bytes), length-drop 5 bytes, whole) in
    let spelled : number_bytes w32 len ≡ head = four_back.back head (omega (arith, length-take 4 bytes, has.len.whole)) (AreBytes-take 4 bytes are) in
    let tail : drop 5 bytes ≡ body ++ behind bytes = sym (take-append-drop len (drop 5 bytes)) ∙ ap (λ (t : List ℕ). body ++ t) (drop-drop len 5 bytes) in
    five_parts bytes has.whole
    ∙ ap (λ (t : List ℕ). head ++ (slice_index bytes 4 ∷ t)) tail
    ∙ ap (λ (n : ℕ). head ++ (n ∷ (body ++ behind bytes))) has.number
    ∙ ap (λ (t : List ℕ). t ++ (number_of kind ∷ (body ++ behind bytes))) (sym spelled ∙ ap (number_bytes w32) (sym long))
    ∙ sym (append_assoc (number_bytes w32 (length body)) (number_of kind ∷ body) (behind bytes))

first_is : (bytes : List ℕ) (kind : FrameKind) (frame : Frame) → AreBytes bytes → HasKind bytes kind → 5 + body_len bytes ≤ length bytes → IsFrameOf kind (body_in bytes) frame → IsFirst bytes frame (behind bytes)
first_is bytes kind frame are has whole found =
    let body = body_in bytes in
    let few : length body ≤ longest_body = omega (arith, length-take (body_len bytes) (drop 5 bytes), has.len.few) in
    let same : framed (kind_of frame) (body_of frame) ≡ framed kind body =
    ap (λ (k : FrameKind). framed k (body_of frame)) found.kind_is ∙ ap (framed kind) found.body_is in
    let short : ltb longest_body (length (body_of frame)) ≡ false = subst (λ (t : List ℕ). ltb longest_body (length t) ≡ false) (sym found.body_is) (le-ltb longest_body (length body) few) in
    record {
      text = framed (kind_of frame) (body_of frame);
      is_text = ap (λ (b : Bool). cond b None (Some (framed (kind_of frame) (body_of frame)))) short;
      in_front = in_parts bytes kind are has whole ∙ ap (λ (t : List ℕ). t ++ behind bytes) (sym same);
      fits = found.fits;
    }

abbrev Something : List ℕ → Type 0
Something bytes = (what : Said) × Says bytes what

by_frame : (bytes : List ℕ) (kind : FrameKind) (read : Result Frame FrameFault) → frame_of kind (body_in bytes) ≡ read → AreBytes bytes → HasKind bytes kind → 5 + body_len bytes ≤ length bytes → Something bytes
by_frame bytes kind (Ok frame) e are has whole =
    (First frame (behind bytes), first_is bytes kind frame are has whole (yielded (frame_of kind (body_in bytes)) frame (frame_yields kind (body_in bytes) (are_body bytes are)) e))
by_frame bytes kind (Err fault) e are has whole = (
  Faulty BadBody,
  (
    kind,
    has,
    whole,
    λ frame fits is its.
        let again : frame_of kind (body_in bytes) ≡ Ok frame = subst (λ (t : List ℕ). frame_of kind t ≡ Ok frame) its (subst (λ (k : FrameKind). frame_of k (body_of frame) ≡ Ok frame) is (body_again frame fits)) in
        absurd cc,
  ),
)

by_number : (bytes : List ℕ) (found : Option FrameKind) → kind_with (slice_index bytes 4) ≡ found → AreBytes bytes → HasLength bytes → 5 ≤ length bytes → Something bytes
by_number bytes None e are len five =
    (Faulty BadKind, (len, five, λ kind is. let again : kind_with (slice_index bytes 4) ≡ Some kind = its_kind (slice_index bytes 4) kind is in absurd cc))
by_number bytes (Some kind) e are len five =
    let has : HasKind bytes kind = record { len = len; whole = five; number = number_found_again (slice_index bytes 4) kind e } in
    elim (cases_lt (length bytes) (5 + body_len bytes)) [
      | inl lt ↦ (NotYet, inr (inr (kind, has, lt)))
      | inr whole ↦ by_frame bytes kind (frame_of kind (body_in bytes)) refl are has whole
    ]

something : (bytes : List ℕ) → AreBytes bytes → Something bytes
something bytes are = elim (cases_lt (length bytes) 4) [
  | inl lt ↦ (NotYet, inl lt)
  | inr four ↦
      elim (cases_lt longest_body (body_len bytes)) [
        | inl over ↦ (Faulty TooLong, (four, over))
        | inr few ↦
            elim (cases_lt (length bytes) 5) [
              | inl lt ↦ (NotYet, inr (inl (record { whole = four; few = few }, omega (arith, four, lt))))
              | inr five ↦ by_number bytes (kind_with (slice_index bytes 4)) refl are (record { whole = four; few = few }) five
            ]
      ]
]

pub says_it : (bytes : List ℕ) → AreBytes bytes → Says bytes (said bytes)
says_it bytes are =
    let some = something bytes are in
    subst (Says bytes) (sym (is_said bytes some.0 are some.1)) some.1

pub says_what_is_read : (bytes : List ℕ) (what : Said) → AreBytes bytes → (Says bytes what ↔ (said bytes ≡ what))
says_what_is_read bytes what are = (is_said bytes what are, λ e. subst (Says bytes) e (says_it bytes are))

-- a frame that was read stood in front as its text
pub first_says : (bytes : List ℕ) (frame : Frame) (rest : List ℕ) → AreBytes bytes → said bytes ≡ First frame rest → IsFirst bytes frame rest
first_says bytes frame rest are e = subst (Says bytes) e (says_it bytes are)
