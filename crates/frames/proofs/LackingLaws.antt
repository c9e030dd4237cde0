-- What a stream says whose first frame lacks bytes.
use Rattle.std.proofs.Common.{◌≡◌, ℕ, ◌+◌, ◌-◌, ◌<◌, ◌≤◌, Bool, true, false, cond, ltb, List, [], ◌∷◌, ◌++◌, length, take, drop, Option, Some, None, Result, Ok, Err, refl, sym, ap, subst, ◌∙◌, inl, inr, append-nil, arith}
use Rattle.std.specs.Prelude.{slice_index}
use Rattle.std.proofs.lemmas.Bool.{cases_lt, le-ltb, lt-ltb, ltb-false}
use Rattle.std.proofs.lemmas.List.{take_at, drop_at, get_or_append_left, get_or-append_right}
use Rattle.byte_codec.specs.Field.{AreBytes}
use Rattle.frames.specs.declared.fault.FrameFault.{FrameFault}
use Rattle.frames.specs.declared.fault.FrameFault.TheVariants.{TooLong, BadKind}
use Rattle.frames.specs.declared.frame.Frame.{Frame}
use Rattle.frames.specs.declared.kind.FrameKind.{FrameKind}
use Rattle.frames.specs.FrameText.{longest_body}
use Rattle.frames.specs.Kind.{kind_with}
use Rattle.frames.specs.Lacking.{IsHeadFault, lacking, lacking_by}
use Rattle.frames.specs.Reading.{First, Faulty, NotYet, Said, frame_of, said, said_frame}
use Rattle.frames.specs.Says.{IsFirst}
use Rattle.frames.proofs.SaysLaws.{first_says}
use Rattle.frames.proofs.StreamLaws.{of_four, said_behind, is_long}

-- bytes without a whole length say nothing
pub few_say_nothing : (bytes : List ℕ) → length bytes < 4 → said bytes ≡ NotYet
unfolding said
few_say_nothing bytes few = rw (lt-ltb (length bytes) 4 few) refl

-- ---- five bytes and more

abbrev lacking_behind : Option FrameKind → ℕ → ℕ → Result ℕ FrameFault
lacking_behind None len count = Err BadKind
lacking_behind (Some kind) len count = Ok (len - count)

abbrev lacking_long : ℕ → ℕ → ℕ → Result ℕ FrameFault
lacking_long len n count = cond (ltb longest_body len) (Err TooLong) (lacking_behind (kind_with n) len count)

by_kind : (kind : Option FrameKind) (a b c d n : ℕ) (bytes : List ℕ) → lacking_by kind (a ∷ b ∷ c ∷ d ∷ n ∷ bytes) ≡ lacking_behind kind (of_four a b c d) (length bytes)
by_kind None a b c d n bytes = refl
by_kind (Some kind) a b c d n bytes =
    let same : 5 + of_four a b c d - length (a ∷ b ∷ c ∷ d ∷ n ∷ bytes) ≡ of_four a b c d - length bytes = omega arith in
    ap (λ (m : ℕ). Ok m) same

lacks_long : (a b c d n : ℕ) (bytes : List ℕ) → lacking (a ∷ b ∷ c ∷ d ∷ n ∷ bytes) ≡ lacking_long (of_four a b c d) n (length bytes)
unfolding lacking
lacks_long a b c d n bytes =
    let all = a ∷ b ∷ c ∷ d ∷ n ∷ bytes in
    let four_there = le-ltb (length all) 4 (omega arith) in
    let five_there = le-ltb (length all) 5 (omega arith) in
    rw (four_there, five_there, by_kind (kind_with n) a b c d n bytes) refl

-- ---- what is said where a count of bytes is lacking

-- a fault that a head can have is said
abbrev pub Shows : Said → FrameFault → Type 0
Shows what fault = (what ≡ Faulty fault) × IsHeadFault fault

fault_behind : (kind : Option FrameKind) (len : ℕ) (bytes : List ℕ) (fault : FrameFault) → lacking_behind kind len (length bytes) ≡ Err fault → Shows (said_behind kind len bytes) fault
fault_behind None len bytes fault e = let same : BadKind ≡ fault = cc in (ap Faulty same, subst IsHeadFault same tt)
fault_behind (Some kind) len bytes fault e = absurd cc

fault_long : (over : Bool) (kind : Option FrameKind) (len : ℕ) (bytes : List ℕ) (fault : FrameFault) → cond over (Err TooLong) (lacking_behind kind len (length bytes)) ≡ Err fault → Shows (cond over (Faulty TooLong) (said_behind kind len bytes)) fault
fault_long true kind len bytes fault e = let same : TooLong ≡ fault = cc in (ap Faulty same, subst IsHeadFault same tt)
fault_long false kind len bytes fault e = fault_behind kind len bytes fault e

some_behind : (kind : Option FrameKind) (len n : ℕ) (bytes : List ℕ) → lacking_behind kind len (length bytes) ≡ Ok n → 0 < n → said_behind kind len bytes ≡ NotYet
some_behind None len n bytes e some = absurd cc
some_behind (Some kind) len n bytes e some =
    let same : len - length bytes ≡ n = cc in
    ap (λ (b : Bool). cond b NotYet (said_frame (frame_of kind (take len bytes)) (drop len bytes))) (lt-ltb (length bytes) len (omega (arith, same, some)))

some_long : (over : Bool) (kind : Option FrameKind) (len n : ℕ) (bytes : List ℕ) → cond over (Err TooLong) (lacking_behind kind len (length bytes)) ≡ Ok n → 0 < n → cond over (Faulty TooLong) (said_behind kind len bytes) ≡ NotYet
some_long true kind len n bytes e some = absurd cc
some_long false kind len n bytes e some = some_behind kind len n bytes e some

-- what four bytes lack
abbrev four_lack : Bool → Result ℕ FrameFault
four_lack over = cond over (Err TooLong) (Ok 1)

four_faulty : (over : Bool) (fault : FrameFault) → four_lack over ≡ Err fault → Shows (cond over (Faulty TooLong) NotYet) fault
four_faulty true fault e = let same : TooLong ≡ fault = cc in (ap Faulty same, subst IsHeadFault same tt)
four_faulty false fault e = absurd cc

four_lacking : (over : Bool) (n : ℕ) → four_lack over ≡ Ok n → cond over (Faulty TooLong) NotYet ≡ NotYet
four_lacking true n e = absurd cc
four_lacking false n e = refl

-- a fault that shows before the body is whole is that of the stream, and one that a head can have
pub lacking_fault : (bytes : List ℕ) (fault : FrameFault) → lacking bytes ≡ Err fault → Shows (said bytes) fault
unfolding said lacking
lacking_fault [] fault e = absurd cc
lacking_fault (a ∷ []) fault e = absurd cc
lacking_fault (a ∷ b ∷ []) fault e = absurd cc
lacking_fault (a ∷ b ∷ c ∷ []) fault e = absurd cc
lacking_fault (a ∷ b ∷ c ∷ d ∷ []) fault e = four_faulty (ltb longest_body (of_four a b c d)) fault e
lacking_fault (a ∷ b ∷ c ∷ d ∷ n ∷ bytes) fault e =
    let is = fault_long (ltb longest_body (of_four a b c d)) (kind_with n) (of_four a b c d) bytes fault (sym (lacks_long a b c d n bytes) ∙ e) in
    (is_long a b c d n bytes ∙ is.0, is.1)

-- where bytes are lacking, nothing is said yet
pub lacking_some : (bytes : List ℕ) (n : ℕ) → lacking bytes ≡ Ok n → 0 < n → said bytes ≡ NotYet
unfolding said lacking
lacking_some [] n e some = refl
lacking_some (a ∷ []) n e some = refl
lacking_some (a ∷ b ∷ []) n e some = refl
lacking_some (a ∷ b ∷ c ∷ []) n e some = refl
lacking_some (a ∷ b ∷ c ∷ d ∷ []) n e some = four_lacking (ltb longest_body (of_four a b c d)) n e
lacking_some (a ∷ b ∷ c ∷ d ∷ x ∷ bytes) n e some =
    is_long a b c d x bytes
    ∙ some_long (ltb longest_body (of_four a b c d)) (kind_with x) (of_four a b c d) n bytes (sym (lacks_long a b c d x bytes) ∙ e) some

-- ---- how many, and of which kind

few_behind : (kind : Option FrameKind) (len n count : ℕ) → len ≤ longest_body → lacking_behind kind len count ≡ Ok n → n ≤ longest_body
few_behind None len n count few e = absurd cc
few_behind (Some kind) len n count few e = let same : len - count ≡ n = cc in omega (arith, same, few)

few_long : (len n count : ℕ) (kind : Option FrameKind) (over : Bool) → over ≡ ltb longest_body len → cond over (Err TooLong) (lacking_behind kind len count) ≡ Ok n → n ≤ longest_body
few_long len n count kind true is e = absurd cc
few_long len n count kind false is e = few_behind kind len n count (ltb-false longest_body len (sym is)) e

-- at most the longest body is lacking after a head
pub lacking_few : (bytes : List ℕ) (n : ℕ) → lacking bytes ≡ Ok n → 5 ≤ length bytes → n ≤ longest_body
lacking_few [] n e five = absurd (omega (arith, five))
lacking_few (a ∷ []) n e five = absurd (omega (arith, five))
lacking_few (a ∷ b ∷ []) n e five = absurd (omega (arith, five))
lacking_few (a ∷ b ∷ c ∷ []) n e five = absurd (omega (arith, five))
lacking_few (a ∷ b ∷ c ∷ d ∷ []) n e five = absurd (omega (arith, five))
lacking_few (a ∷ b ∷ c ∷ d ∷ x ∷ bytes) n e five =
    few_long (of_four a b c d) n (length bytes) (kind_with x) (ltb longest_body (of_four a b c d)) refl (sym (lacks_long a b c d x bytes) ∙ e)

none_long : (over : Bool) (len n count : ℕ) → cond over (Err TooLong) (lacking_behind None len count) ≡ Ok n → ⊥
none_long true len n count e = absurd cc
none_long false len n count e = absurd cc

-- a head that lacks a body has a kind
pub kind_there : (head : List ℕ) (n : ℕ) → length head ≡ 5 → lacking head ≡ Ok n → kind_with (slice_index head 4) ≡ None → ⊥
kind_there [] n five e none = absurd (omega (arith, five))
kind_there (a ∷ []) n five e none = absurd (omega (arith, five))
kind_there (a ∷ b ∷ []) n five e none = absurd (omega (arith, five))
kind_there (a ∷ b ∷ c ∷ []) n five e none = absurd (omega (arith, five))
kind_there (a ∷ b ∷ c ∷ d ∷ []) n five e none = absurd (omega (arith, five))
kind_there (a ∷ b ∷ c ∷ d ∷ x ∷ bytes) n five e none =
    let over = ltb longest_body (of_four a b c d) in
    let told : cond over (Err TooLong) (lacking_behind None (of_four a b c d) (length bytes)) ≡ Ok n =
    ap (λ (k : Option FrameKind). cond over (Err TooLong) (lacking_behind k (of_four a b c d) (length bytes))) (sym none) ∙ sym (lacks_long a b c d x bytes) ∙ e in
    none_long over (of_four a b c d) n (length bytes) told

-- ---- a head of five bytes, and a body after it

grown_behind : (kind : Option FrameKind) (len n : ℕ) (part : List ℕ) → lacking_behind kind len 0 ≡ Ok n → length part ≤ n → lacking_behind kind len (length part) ≡ Ok (n - length part)
grown_behind None len n part e few = absurd cc
grown_behind (Some kind) len n part e few =
    let told : len - 0 ≡ n = cc in
    let same : len ≡ n = omega (arith, told) in
    ap (λ (m : ℕ). Ok (m - length part)) same

grown_long : (over : Bool) (kind : Option FrameKind) (len n : ℕ) (part : List ℕ) → cond over (Err TooLong) (lacking_behind kind len 0) ≡ Ok n → length part ≤ n → cond over (Err TooLong) (lacking_behind kind len (length part)) ≡ Ok (n - length part)
grown_long true kind len n part e few = absurd cc
grown_long false kind len n part e few = grown_behind kind len n part e few

-- each byte that comes is one that is lacking less
pub lacking_less : (head part : List ℕ) (n : ℕ) → length head ≡ 5 → lacking head ≡ Ok n → length part ≤ n → lacking (head ++ part) ≡ Ok (n - length part)
lacking_less [] part n five e few = absurd (omega (arith, five))
lacking_less (a ∷ []) part n five e few = absurd (omega (arith, five))
lacking_less (a ∷ b ∷ []) part n five e few = absurd (omega (arith, five))
lacking_less (a ∷ b ∷ c ∷ []) part n five e few = absurd (omega (arith, five))
lacking_less (a ∷ b ∷ c ∷ d ∷ []) part n five e few = absurd (omega (arith, five))
lacking_less (a ∷ b ∷ c ∷ d ∷ x ∷ []) part n five e few =
    lacks_long a b c d x part
    ∙ grown_long (ltb longest_body (of_four a b c d)) (kind_with x) (of_four a b c d) n part (sym (lacks_long a b c d x []) ∙ e) few
lacking_less (a ∷ b ∷ c ∷ d ∷ x ∷ y ∷ head) part n five e few = absurd (omega (arith, five))

-- a body that is cut says nothing
pub part_says_nothing : (head part : List ℕ) (n : ℕ) → length head ≡ 5 → lacking head ≡ Ok n → length part < n → said (head ++ part) ≡ NotYet
part_says_nothing head part n five e few =
    lacking_some (head ++ part) (n - length part) (lacking_less head part n five e (omega (arith, few))) (omega (arith, few))

whole_behind : (kind : FrameKind) (len : ℕ) (body : List ℕ) → len ≡ length body → said_behind (Some kind) len body ≡ said_frame (frame_of kind body) []
whole_behind kind len body same =
    let whole = le-ltb (length body) len (omega (arith, same)) in
    let front : take len body ≡ body = sym (ap (λ (t : List ℕ). take len t) (append-nil body)) ∙ take_at body [] len (sym same) in
    let rest : drop len body ≡ [] = sym (ap (λ (t : List ℕ). drop len t) (append-nil body)) ∙ drop_at body [] len (sym same) in
    rw (whole, front, rest) refl

whole_long : (over : Bool) (kind : FrameKind) (len : ℕ) (body : List ℕ) → cond over (Err TooLong) (lacking_behind (Some kind) len 0) ≡ Ok (length body) → cond over (Faulty TooLong) (said_behind (Some kind) len body) ≡ said_frame (frame_of kind body) []
whole_long true kind len body e = absurd cc
whole_long false kind len body e =
    let told : len - 0 ≡ length body = cc in
    whole_behind kind len body (omega (arith, told))

-- a whole body says its frame, or its fault
pub body_says : (head body : List ℕ) (kind : FrameKind) → length head ≡ 5 → lacking head ≡ Ok (length body) → kind_with (slice_index head 4) ≡ Some kind → said (head ++ body) ≡ said_frame (frame_of kind body) []
body_says [] body kind five e is = absurd (omega (arith, five))
body_says (a ∷ []) body kind five e is = absurd (omega (arith, five))
body_says (a ∷ b ∷ []) body kind five e is = absurd (omega (arith, five))
body_says (a ∷ b ∷ c ∷ []) body kind five e is = absurd (omega (arith, five))
body_says (a ∷ b ∷ c ∷ d ∷ []) body kind five e is = absurd (omega (arith, five))
body_says (a ∷ b ∷ c ∷ d ∷ x ∷ []) body kind five e is =
    let over = ltb longest_body (of_four a b c d) in
    let told : cond over (Err TooLong) (lacking_behind (Some kind) (of_four a b c d) 0) ≡ Ok (length body) =
    ap (λ (k : Option FrameKind). cond over (Err TooLong) (lacking_behind k (of_four a b c d) 0)) (sym is) ∙ sym (lacks_long a b c d x []) ∙ e in
    is_long a b c d x body
    ∙ ap (λ (k : Option FrameKind). cond over (Faulty TooLong) (said_behind k (of_four a b c d) body)) is
    ∙ whole_long over kind (of_four a b c d) body told
body_says (a ∷ b ∷ c ∷ d ∷ x ∷ y ∷ head) body kind five e is = absurd (omega (arith, five))

-- ---- the text of a frame that was read in two parts

are_joined : (head body : List ℕ) → AreBytes head → AreBytes body → AreBytes (head ++ body)
are_joined head body are its i = elim (cases_lt i (length head)) [
  | inl lt ↦ rw (get_or_append_left head body 0 i lt) (are i)
  | inr le ↦ rw (get_or-append_right head body (length head) i 0 refl le) (its (i - length head))
]

pub parts_text : (head body : List ℕ) (frame : Frame) → AreBytes head → AreBytes body → said (head ++ body) ≡ First frame [] → IsFirst (head ++ body) frame []
parts_text head body frame are its is = first_says (head ++ body) frame [] (are_joined head body are its) is

-- ---- four bytes

four_some : (over : Bool) (n : ℕ) → four_lack over ≡ Ok n → 0 < n
four_some true n e = absurd cc
four_some false n e = let same : 1 ≡ n = cc in omega (arith, same)

-- a whole length that is not too long says nothing
pub length_says_nothing : (bytes : List ℕ) (n : ℕ) → length bytes ≡ 4 → lacking bytes ≡ Ok n → said bytes ≡ NotYet
unfolding lacking
length_says_nothing [] n four e = absurd (omega (arith, four))
length_says_nothing (a ∷ []) n four e = absurd (omega (arith, four))
length_says_nothing (a ∷ b ∷ []) n four e = absurd (omega (arith, four))
length_says_nothing (a ∷ b ∷ c ∷ []) n four e = absurd (omega (arith, four))
length_says_nothing (a ∷ b ∷ c ∷ d ∷ []) n four e = lacking_some (a ∷ b ∷ c ∷ d ∷ []) n e (four_some (ltb longest_body (of_four a b c d)) n e)
length_says_nothing (a ∷ b ∷ c ∷ d ∷ x ∷ bytes) n four e = absurd (omega (arith, four))
