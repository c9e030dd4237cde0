-- What a stream says: of a text in front, and of a stream to which bytes are added.
use Rattle.std.proofs.Common.{◌≡◌, ℕ, ◌+◌, ◌≤◌, Bool, true, false, cond, ltb, List, [], ◌∷◌, ◌++◌, length, take, drop, Option, Some, None, refl, sym, ap, subst, ◌∙◌, inl, inr, length-append, arith}
use Rattle.std.specs.Int.{w32}
use Rattle.std.proofs.lemmas.Bool.{cases_lt, le-ltb, lt-ltb, ltb-false}
use Rattle.std.proofs.lemmas.List.{take_at, drop_at, drop-drop}
use Rattle.byte_codec.specs.Field.{number_bytes, number_in}
use Rattle.byte_codec.proofs.FieldLaws.{four}
use Rattle.frames.specs.declared.fault.FrameFault.TheVariants.{TooLong, BadKind}
use Rattle.frames.specs.declared.frame.Frame.{Frame}
use Rattle.frames.specs.declared.kind.FrameKind.{FrameKind}
use Rattle.frames.specs.FrameText.{Fits, body_of, framed, frame_text, kind_of, longest_body}
use Rattle.frames.specs.Kind.{kind_with, number_of}
use Rattle.frames.specs.Reading.{Said, First, Faulty, NotYet, frame_of, said, said_by, said_frame}
use Rattle.frames.proofs.FrameLaws.{body_again, kind_again}

-- the number that four bytes are
abbrev pub of_four : ℕ → ℕ → ℕ → ℕ → ℕ
of_four a b c d = number_in w32 (a ∷ b ∷ c ∷ d ∷ [])

-- what follows the number of a kind, where a body has this length
abbrev pub said_behind : Option FrameKind → ℕ → List ℕ → Said
said_behind None len bytes = Faulty BadKind
said_behind (Some kind) len bytes = cond (ltb (length bytes) len) NotYet (said_frame (frame_of kind (take len bytes)) (drop len bytes))

-- what five bytes and more say
abbrev pub said_long : ℕ → ℕ → List ℕ → Said
said_long len number bytes = cond (ltb longest_body len) (Faulty TooLong) (said_behind (kind_with number) len bytes)

longer : (all bytes : List ℕ) (len : ℕ) → length all ≡ 5 + length bytes → ltb (length all) (5 + len) ≡ ltb (length bytes) len
longer all bytes len e = elim (cases_lt (length bytes) len) [
  | inl lt ↦ lt-ltb (length all) (5 + len) (omega (arith, lt, e)) ∙ sym (lt-ltb (length bytes) len lt)
  | inr le ↦ le-ltb (length all) (5 + len) (omega (arith, le, e)) ∙ sym (le-ltb (length bytes) len le)
]

by_kind : (kind : Option FrameKind) (a b c d n : ℕ) (bytes : List ℕ) → said_by kind (a ∷ b ∷ c ∷ d ∷ n ∷ bytes) ≡ said_behind kind (of_four a b c d) bytes
by_kind None a b c d n bytes = refl
by_kind (Some kind) a b c d n bytes =
    let len = of_four a b c d in
    let all = a ∷ b ∷ c ∷ d ∷ n ∷ bytes in
    let room : ltb (length all) (5 + len) ≡ ltb (length bytes) len = longer all bytes len (omega arith) in
    ap (λ (b : Bool). cond b NotYet (said_frame (frame_of kind (take len bytes)) (drop (5 + len) all))) room
    ∙ ap (λ (rest : List ℕ). cond (ltb (length bytes) len) NotYet (said_frame (frame_of kind (take len bytes)) rest)) (sym (drop-drop len 5 all))

pub is_long : (a b c d n : ℕ) (bytes : List ℕ) → said (a ∷ b ∷ c ∷ d ∷ n ∷ bytes) ≡ said_long (of_four a b c d) n bytes
unfolding said
is_long a b c d n bytes =
    let all = a ∷ b ∷ c ∷ d ∷ n ∷ bytes in
    let four_there = le-ltb (length all) 4 (omega arith) in
    let five_there = le-ltb (length all) 5 (omega arith) in
    rw (four_there, five_there, by_kind (kind_with n) a b c d n bytes) refl

-- ---- a text in front

pub front_is : (head body rest : List ℕ) (n : ℕ) (kind : FrameKind) → length head ≡ 4 → number_in w32 head ≡ length body → length body ≤ longest_body → kind_with n ≡ Some kind → said ((head ++ (n ∷ body)) ++ rest) ≡ said_frame (frame_of kind body) rest
front_is [] body rest n kind four e few is = absurd (omega (arith, four))
front_is (a ∷ []) body rest n kind four e few is = absurd (omega (arith, four))
front_is (a ∷ b ∷ []) body rest n kind four e few is = absurd (omega (arith, four))
front_is (a ∷ b ∷ c ∷ []) body rest n kind four e few is = absurd (omega (arith, four))
front_is (a ∷ b ∷ c ∷ d ∷ []) body rest n kind four e few is =
    let short = le-ltb longest_body (length body) few in
    let whole = le-ltb (length (body ++ rest)) (length body) (omega (arith, length-append body rest)) in
    is_long a b c d n (body ++ rest) ∙ rw (e, short, is, whole, take_at body rest (length body) refl, drop_at body rest (length body) refl) refl
front_is (a ∷ b ∷ c ∷ d ∷ x ∷ head) body rest n kind four e few is = absurd (omega (arith, four))

-- a text that was written is read as its frame, whatever is after it
pub framed_again : (frame : Frame) (rest : List ℕ) → Fits frame → length (body_of frame) ≤ longest_body → said (framed (kind_of frame) (body_of frame) ++ rest) ≡ First frame rest
framed_again frame rest fit few =
    let body = body_of frame in
    let head = number_bytes w32 (length body) in
    let told = four.again (length body) (omega (arith, few)) in
    front_is head body rest (number_of (kind_of frame)) (kind_of frame) (four.len (length body)) told few (kind_again (kind_of frame))
    ∙ ap (λ read. said_frame read rest) (body_again frame fit)

some_is : (b : Bool) (text frame : List ℕ) → cond b None (Some frame) ≡ Some text → (b ≡ false) × (frame ≡ text)
some_is true text frame e = absurd cc
some_is false text frame e = (refl, cc)

pub text_again : (frame : Frame) (text rest : List ℕ) → Fits frame → frame_text frame ≡ Some text → said (text ++ rest) ≡ First frame rest
text_again frame text rest fit e =
    let is = some_is (ltb longest_body (length (body_of frame))) text (framed (kind_of frame) (body_of frame)) e in
    subst (λ t. said (t ++ rest) ≡ First frame rest) is.1 (framed_again frame rest fit (ltb-false _ _ is.0))
