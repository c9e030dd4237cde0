-- Values and their texts: each text is read as its value, and what is read has these bytes as its text. The same holds
-- for one value after another.
use Rattle.std.proofs.Common.{◌≡◌, ℕ, List, ◌++◌, length, Bool, true, cond, Result, Ok, Err, refl, sym, ap, subst, ◌∙◌, append_assoc}
use Rattle.std.specs.Int.{Width}
use Rattle.byte_codec.specs.Field.{AreBytes, byte_text, number_bytes}
use Rattle.byte_codec.specs.Reading.{◌>>=◌, byte_at, bytes_at, number_at}
use Rattle.byte_codec.proofs.ByteLemmas.{both}
use Rattle.byte_codec.proofs.FieldLaws.{Found, IsBelow, IsSpelled, IsWidth, byte_again, byte_found, bytes_again, bytes_found, itself, number_again, number_found}
use Rattle.byte_codec.proofs.StepLemmas.{done}
use Rattle.byte_codec.proofs.YieldLemmas.{Any, Yields, Value, if_yields, then_yields, yields_as}

-- each value that fits is read from its text, and what is read fits and has these bytes as its text
pub record IsCodec {F X : Type 0} (text : X → List ℕ) (Fits : X → Type 0) (read : List ℕ → Result (X × List ℕ) F) : Type 0 where
  pub again : (x : X) (rest : List ℕ) → Fits x → read (text x ++ rest) ≡ Ok (x, rest)
  pub found : (bytes : List ℕ) → AreBytes bytes → Yields Any (Found text Fits bytes) (read bytes)

-- ---- fields

pub of_byte : {F : Type 0} (short : F) → IsCodec byte_text (IsBelow 256) (byte_at short)
of_byte short = record { again = λ b rest fits. byte_again short b rest; found = λ bytes are. byte_found short bytes tt are }

abbrev pub HasLen : ℕ → List ℕ → Type 0
HasLen n bytes = length bytes ≡ n

pub of_bytes : {F : Type 0} (short : F) (n : ℕ) → IsCodec itself (HasLen n) (bytes_at short n)
of_bytes short n = record {
  again = λ field rest len. bytes_again short n field rest len;
  found = λ bytes are. yields_as _ (bytes_found short n bytes tt are) (λ x found. record { parts = found.parts; good = found.good.len; rest = found.rest });
}

pub of_number : {F : Type 0} (short : F) (width : Width) (limit : ℕ) → IsWidth width limit → IsSpelled width limit → IsCodec (number_bytes width) (IsBelow limit) (number_at short width)
of_number short width limit is spelled = record {
  again = λ n rest lt. number_again short width limit n rest is lt;
  found = λ bytes are. number_found short bytes tt spelled are;
}

-- ---- the same codec in other words

pub codec_as : {F X : Type 0} {text : X → List ℕ} {Fits : X → Type 0} {read : List ℕ → Result (X × List ℕ) F} (new : X → List ℕ) (Good : X → Type 0) → IsCodec text Fits read
    → ((x : X) → Fits x → new x ≡ text x) → ((x : X) → Fits x → Good x) → ((x : X) → Good x → Fits x) → IsCodec new Good read
codec_as {read = read} new Good codec same good fits = record {
  again = λ x rest is. ap read (ap (λ (t : List ℕ). t ++ rest) (same x (fits x is))) ∙ codec.again x rest (fits x is);
  found = λ bytes are. yields_as _ (codec.found bytes are) (λ x found. record {
    parts = found.parts ∙ ap (λ (t : List ℕ). t ++ x.1) (sym (same x.0 found.good));
    good = good x.0 found.good;
    rest = found.rest;
  });
}

-- a reader that gives the same
pub read_as : {F X : Type 0} {text : X → List ℕ} {Fits : X → Type 0} {read new : List ℕ → Result (X × List ℕ) F} → IsCodec text Fits read → ((bytes : List ℕ) → new bytes ≡ read bytes) → IsCodec text Fits new
read_as {text = text} {Fits = Fits} codec same = record {
  again = λ x rest fits. same (text x ++ rest) ∙ codec.again x rest fits;
  found = λ bytes are. subst (Yields Any (Found text Fits bytes)) (sym (same bytes)) (codec.found bytes are);
}

-- ---- one value after another

-- what is read at once of a value that stands in front: a part of the whole, with nothing after it
pub seen : {F X Z : Type 0} {text : X → List ℕ} {Fits : X → Type 0} {read : List ℕ → Result (X × List ℕ) F} (Good : Z → Type 0) (part : Z → X) (see : X × List ℕ → Result (Z × List ℕ) F) → IsCodec text Fits read
    → ((x : X × List ℕ) → Fits x.0 → Yields Any (λ z. (part z.0 ≡ x.0) × (z.1 ≡ x.1) × Good z.0) (see x))
    → ((z : Z) (rest : List ℕ) → Good z → Fits (part z) × (see (part z, rest) ≡ Ok (z, rest)))
    → IsCodec (λ z. text (part z)) Good (λ bytes. read bytes >>= see)
seen {X = X} {text = text} Good part see first found again = record {
  again = λ z rest good.
      let back = again z rest good in
      rw (first.again (part z) rest back.0) back.1;
  found = λ bytes are.
      then_yields _ _ (first.found bytes are) (λ x front.
      yields_as _ (found x front.good) (λ z is. record {
        parts = front.parts ∙ ap (λ (y : X). text y ++ x.1) (sym is.0) ∙ ap (λ (r : List ℕ). text (part z.0) ++ r) (sym is.1);
        good = is.2;
        rest = subst AreBytes (sym is.1) front.rest;
      }));
}

-- the last part of a value, which is made once that is read
pub made : {F X Z : Type 0} {text : X → List ℕ} {Fits : X → Type 0} {read : List ℕ → Result (X × List ℕ) F} (Good : Z → Type 0) (part : Z → X) (make : X → Z) → IsCodec text Fits read
    → ((x : X) → Fits x → (part (make x) ≡ x) × Good (make x)) → ((z : Z) → Good z → Fits (part z) × (make (part z) ≡ z))
    → IsCodec (λ z. text (part z)) Good (λ bytes. read bytes >>= λ x. Ok (make x.0, x.1))
made {F = F} {Z = Z} Good part make last found again = seen Good part (λ x. Ok (make x.0, x.1)) last
    (λ x fits. let is = found x.0 fits in Value (is.0, refl, is.1))
    (λ z rest good. let back = again z good in (back.0, ap (λ (z : Z). done {F = F} (z, rest)) back.1))

-- a value in front that passes a test
pub tested : {F X : Type 0} {text : X → List ℕ} {Fits : X → Type 0} {read : List ℕ → Result (X × List ℕ) F} (test : X → Bool) (fault : F) → IsCodec text Fits read
    → IsCodec text (λ x. Fits x × (test x ≡ true)) (λ bytes. read bytes >>= λ x. cond (test x.0) (Ok x) (Err fault))
tested {X = X} {Fits = Fits} test fault first = seen (λ x. Fits x × (test x ≡ true)) (λ x. x) (λ x. cond (test x.0) (Ok x) (Err fault)) first
    (λ x fits. if_yields (test x.0) fault _ tt (λ passes. Value (refl, refl, (fits, passes))))
    (λ z rest good. (good.0, rw good.1 refl))

-- a value in front, and what is read after it with that value known: they are a pair of which both are read
pub pair : {F X Z : Type 0} {text : X → List ℕ} {Fits : X → Type 0} {read : List ℕ → Result (X × List ℕ) F} (part : Z → X) (others : Z → List ℕ) (Good : X → Z → Type 0) (behind : X → List ℕ → Result (Z × List ℕ) F)
    → IsCodec text Fits read → ((x : X) (z : Z) → Good x z → part z ≡ x) → ((x : X) → IsCodec others (Good x) (behind x))
    → IsCodec (λ z. text (part z) ++ others z) (λ z. Fits (part z) × Good (part z) z) (λ bytes. read bytes >>= λ x. behind x.0 x.1)
pair {X = X} {text = text} {Fits = Fits} {read = read} part others Good behind first is second = record {
  again = λ z rest good.
      ap (λ (t : List ℕ). read t >>= λ x. behind x.0 x.1) (append_assoc (text (part z)) (others z) rest)
      ∙ rw (first.again (part z) (others z ++ rest) good.0) ((second (part z)).again z rest good.1);
  found = λ bytes are.
      then_yields _ _ (first.found bytes are) (λ x front.
      yields_as _ ((second x.0).found x.1 front.rest) (λ z rest.
      let same = is x.0 z.0 rest.good in
      record {
        parts = both bytes (text (part z.0)) x.1 (others z.0) z.1 (front.parts ∙ ap (λ (y : X). text y ++ x.1) (sym same)) rest.parts;
        good = (subst Fits (sym same) front.good, subst (λ (y : X). Good y z.0) (sym same) rest.good);
        rest = rest.rest;
      }));
}
