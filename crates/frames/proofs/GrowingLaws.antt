-- What a stream says stays so when bytes are added to it.
use Rattle.std.proofs.Common.{◌≡◌, ◌≢◌, ℕ, Bool, true, false, cond, ltb, List, [], ◌∷◌, ◌++◌, length, take, drop, Option, Some, None, Result, Ok, Err, refl, sym, ap, ◌∙◌, inl, inr, length-append, arith}
use Rattle.std.proofs.lemmas.Bool.{cases_lt, le-ltb, lt-ltb}
use Rattle.std.proofs.lemmas.List.{take-append-le, drop-append-le}
use Rattle.frames.specs.declared.fault.FrameFault.{FrameFault}
use Rattle.frames.specs.declared.fault.FrameFault.TheVariants.{TooLong}
use Rattle.frames.specs.declared.frame.Frame.{Frame}
use Rattle.frames.specs.declared.kind.FrameKind.{FrameKind}
use Rattle.frames.specs.FrameText.{longest_body}
use Rattle.frames.specs.Kind.{kind_with}
use Rattle.frames.specs.Laws.{grown}
use Rattle.frames.specs.Reading.{Said, Faulty, NotYet, frame_of, said, said_frame}
use Rattle.frames.proofs.StreamLaws.{of_four, said_behind, said_long, is_long}

frame_grows : (read : Result Frame FrameFault) (rest more : List ℕ) → said_frame read (rest ++ more) ≡ grown (said_frame read rest) more
frame_grows (Ok frame) rest more = refl
frame_grows (Err fault) rest more = refl

abbrev Grows : (List ℕ → Said) → List ℕ → List ℕ → Type 0
Grows says bytes more = says bytes ≢ NotYet → says (bytes ++ more) ≡ grown (says bytes) more

behind_grows : (kind : Option FrameKind) (len : ℕ) (bytes more : List ℕ) → Grows (said_behind kind len) bytes more
behind_grows None len bytes more says = refl
behind_grows (Some kind) len bytes more says = elim (cases_lt (length bytes) len) [
  | inl lt ↦
      absurd (says (ap (λ (b : Bool). cond b NotYet (said_frame (frame_of kind (take len bytes)) (drop len bytes))) (lt-ltb (length bytes) len lt)))
  | inr le ↦
      let now = le-ltb (length bytes) len le in
      let later = le-ltb (length (bytes ++ more)) len (omega (arith, le, length-append bytes more)) in
      rw (now, later, take-append-le len bytes more le, drop-append-le len bytes more le) (frame_grows (frame_of kind (take len bytes)) (drop len bytes) more)
]

over_grows : (over : Bool) (says : List ℕ → Said) (bytes more : List ℕ) → Grows says bytes more → Grows (λ all. cond over (Faulty TooLong) (says all)) bytes more
over_grows true says bytes more inner is = refl
over_grows false says bytes more inner is = inner is

long_grows : (len n : ℕ) (bytes more : List ℕ) → Grows (said_long len n) bytes more
long_grows len n bytes more = over_grows (ltb longest_body len) (said_behind (kind_with n) len) bytes more (behind_grows (kind_with n) len bytes more)

pub four_are : (a b c d : ℕ) → said (a ∷ b ∷ c ∷ d ∷ []) ≡ cond (ltb longest_body (of_four a b c d)) (Faulty TooLong) NotYet
unfolding said
four_are a b c d = refl

over_is : (over : Bool) (rest : Said) → cond over (Faulty TooLong) NotYet ≢ NotYet → cond over (Faulty TooLong) rest ≡ grown (cond over (Faulty TooLong) NotYet) []
over_is true rest is = refl
over_is false rest is = absurd (is refl)

same_grown : (over : Bool) (more : List ℕ) → cond over (Faulty TooLong) NotYet ≡ grown (cond over (Faulty TooLong) NotYet) more
same_grown true more = refl
same_grown false more = refl

four_grow : (a b c d : ℕ) (more : List ℕ) → said (a ∷ b ∷ c ∷ d ∷ []) ≢ NotYet → said (a ∷ b ∷ c ∷ d ∷ more) ≡ grown (said (a ∷ b ∷ c ∷ d ∷ [])) more
four_grow a b c d [] is = rw (four_are a b c d) (same_grown (ltb longest_body (of_four a b c d)) [])
four_grow a b c d (n ∷ more) is =
    let over = ltb longest_body (of_four a b c d) in
    let not_yet : cond over (Faulty TooLong) NotYet ≢ NotYet = λ e. is (four_are a b c d ∙ e) in
    is_long a b c d n more
    ∙ over_is over (said_behind (kind_with n) (of_four a b c d) more) not_yet
    ∙ sym (same_grown over [])
    ∙ same_grown over (n ∷ more)
    ∙ sym (ap (λ what. grown what (n ∷ more)) (four_are a b c d))

pub grows : (bytes more : List ℕ) → said bytes ≢ NotYet → said (bytes ++ more) ≡ grown (said bytes) more
unfolding said
grows [] more is = absurd (is refl)
grows (a ∷ []) more is = absurd (is refl)
grows (a ∷ b ∷ []) more is = absurd (is refl)
grows (a ∷ b ∷ c ∷ []) more is = absurd (is refl)
grows (a ∷ b ∷ c ∷ d ∷ []) more is = four_grow a b c d more is
grows (a ∷ b ∷ c ∷ d ∷ n ∷ bytes) more is =
    let len = of_four a b c d in
    let long : said_long len n bytes ≢ NotYet = λ e. is (is_long a b c d n bytes ∙ e) in
    is_long a b c d n (bytes ++ more) ∙ long_grows len n bytes more long ∙ sym (ap (λ what. grown what more) (is_long a b c d n bytes))
