-- Texts that are put one after the other, and their lengths.
use Rattle.std.proofs.Common.{◌≡◌, ℕ, ◌+◌, List, [], ◌∷◌, ◌++◌, length, refl, sym, ap, ◌∙◌, append_assoc, length-append, arith}
use Rattle.std.proofs.lemmas.List.{append-nil}
use Rattle.std.specs.Global.{Vec}
use Rattle.std.specs.Int.{w16, w32, w64}
use Rattle.byte_codec.specs.Field.{byte_text, number_bytes}
use Rattle.byte_codec.specs.Writing.{Puts}

pub len_one : (byte : ℕ) → length (byte_text byte) ≡ 1
unfolding byte_text
len_one byte = refl

pub len_two : (n : ℕ) → length (number_bytes w16 n) ≡ 2
unfolding number_bytes
len_two n = refl

pub len_four : (n : ℕ) → length (number_bytes w32 n) ≡ 4
unfolding number_bytes
len_four n = refl

pub len_eight : (n : ℕ) → length (number_bytes w64 n) ≡ 8
unfolding number_bytes
len_eight n = refl

pub ruleset field_lengths = (len_one, len_two, len_four, len_eight, length-append)

-- where nothing is put, the empty text is
pub none_put : (out : Vec ℕ) → Puts out out []
none_put out = record { items = sym (append-nil out.items); len = omega arith; capacity = omega arith }

-- two texts that are put one after the other are one text
pub both_put : (old mid new : Vec ℕ) (xs ys : List ℕ) → Puts mid new ys → Puts old mid xs → Puts old new (xs ++ ys)
both_put old mid new xs ys second first = record {
  items = second.items ∙ ap (λ (t : List ℕ). t ++ ys) first.items ∙ append_assoc old.items xs ys;
  len = omega (arith, length-append xs ys, first.len, second.len);
  capacity = omega (arith, first.capacity, second.capacity);
}

-- a byte and then a text that were written are written together
pub byte_put : (old mid new : Vec ℕ) (byte : ℕ) (ys : List ℕ) → Puts mid new ys → Puts old mid (byte_text byte) → Puts old new (byte ∷ ys)
unfolding byte_text
byte_put old mid new byte ys second first = both_put old mid new (byte ∷ []) ys second first

pub ruleset fields_written = (none_put, both_put, byte_put, field_lengths)
