-- The fields of a record, and the texts that git prints of them.
use Rattle.std.proofs.Common.{◌≡◌, ℕ, zero, suc, ◌+◌, ◌-◌, ◌/◌, ◌%◌, ◌<◌, ◌≤◌, ◌==◌, ◌&&◌, ◌||◌, Bool, true, false, not, cond, max, nat_lt, nat_le, List, [], ◌∷◌, ◌++◌, codes, length, drop, position, slice_index, Option, Some, None, refl, sym, ap, ◌∙◌, arith, if◌then◌else◌}
use Rattle.std.proofs.lemmas.Bool.{and_parts}
use Rattle.std.proofs.lemmas.Bool.Decides.{nat_tests, Decides-eqb}
use Rattle.std.proofs.lemmas.Fmt.{decimal_nonempty}
use Rattle.std.proofs.lemmas.Slice.Eq.{slice_eq-Decides}
use Rattle.std.specs.Fmt.{decimal}
use Rattle.std.specs.List.{list_all, position_or_len}
use Rattle.std.specs.Option.{option_and_then, option_map}
use Rattle.std.specs.Result.{result_ok}
use Rattle.hex.proofs.HexLemmas.{decode_sized-encode_lower}
use Rattle.hex.specs.Hex.{decode_sized, encode_lower, encode_with, lower_digits, IsBytes}
use Rattle.eden_base.specs.Limits.{greatest_size}
use Rattle.manifest.proofs.EntryForms.{append-after}
use Rattle.manifest.proofs.FieldForms.{size_of-decimal_text, size-without}
use Rattle.manifest.proofs.PartsLaws.{has}
use Rattle.manifest.specs.Text.{after, decimal as value_of, has_leading_zero, is_decimal, is_octal, size_of}
use Rattle.git_tree.specs.GitForm.{padded, size_printed, spaces}
use Rattle.git_tree.specs.GitMode.{file_mode, file_of, is_word, mode_of, rights_mode, size_in, size_text, unpadded}
use Rattle.git_tree.specs.GitObject.{is_lower_digit, object_named, object_of}
use Rattle.git_tree.specs.declared.mode.GitMode.{GitMode}
use Rattle.git_tree.specs.declared.mode.GitMode.TheVariants.{Tree, Submodule, Link, Executable, Regular}
use Rattle.git_tree.specs.declared.object_id.ObjectId.{ObjectId}

-- a text of bytes that pass a test has no byte that doesn't
without : (test : ℕ → Bool) (byte : ℕ) → test byte ≡ false → (ds : List ℕ) → list_all test ds ≡ true → has byte ds ≡ false
without test byte not_it [] h = refl
without test byte not_it (d ∷ ds) h =
    let p = and_parts (test d) (list_all test ds) h in
    let other : (d == byte) ≡ false = elim (d == byte) as (λ t. (d == byte) ≡ t → t ≡ false) [
      | false ↦ λ e. refl
      | true ↦ λ e. let same : d ≡ byte = grind (arith, nat_tests) in absurd (let here = ap test same in let passed = p.0 in cc)
    ] refl in
    rw other (without test byte not_it ds p.1)

-- ---- modes

word-is : (word text : List ℕ) → is_word word text ≡ true → text ≡ word
word-is word text h = (slice_eq-Decides Decides-eqb text word true (sym h)).0 refl

-- two words
pub record AreWords (mode object_type : List ℕ) : Type 0 where
  pub mode_without : has 32 mode ≡ false
  pub type_without : has 32 object_type ≡ false

words : (first second mode object_type : List ℕ) → has 32 first ≡ false → has 32 second ≡ false → (is_word first mode && is_word second object_type) ≡ true → AreWords mode object_type
words first second mode object_type a b h =
    let p = and_parts (is_word first mode) (is_word second object_type) h in
    record { mode_without = ap (has 32) (word-is first mode p.0) ∙ a; type_without = ap (has 32) (word-is second object_type p.1) ∙ b }

rights-octal : (rights : List ℕ) (m : GitMode) → rights_mode rights ≡ Some m → list_all is_octal rights ≡ true
rights-octal rights m h =
    elim (length rights == 3 && list_all is_octal rights) as (λ t. (length rights == 3 && list_all is_octal rights) ≡ t → (if not t then None else if slice_index rights 0 % 2 == 1 then Some Executable else Some Regular) ≡ Some m → list_all is_octal rights ≡ true) [
      | true ↦ λ e g. (and_parts (length rights == 3) (list_all is_octal rights) e).1
      | false ↦ λ e g. absurd (cc)
    ] refl h

file_mode-without : (mode : List ℕ) (m : GitMode) → file_mode mode ≡ Some m → has 32 mode ≡ false
file_mode-without mode m h =
    elim (after (codes "100") mode) as (λ o. after (codes "100") mode ≡ o → option_and_then rights_mode o ≡ Some m → has 32 mode ≡ false) [
      | None ↦ λ e g. absurd (cc)
      | Some rights ↦ λ e g. ap (has 32) (append-after (codes "100") mode rights e) ∙ without is_octal 32 refl rights (rights-octal rights m g)
    ] refl h

pub mode-words : (mode object_type : List ℕ) (m : GitMode) → mode_of mode object_type ≡ Some m → AreWords mode object_type
mode-words mode object_type m h =
    let tree = is_word (codes "040000") mode && is_word (codes "tree") object_type in
    let submodule = is_word (codes "160000") mode && is_word (codes "commit") object_type in
    let link = is_word (codes "120000") mode && is_word (codes "blob") object_type in
    let blob = is_word (codes "blob") object_type in
    elim tree as (λ t. tree ≡ t → (if t then Some Tree else if submodule then Some Submodule else if link then Some Link else if blob then file_mode mode else None) ≡ Some m → AreWords mode object_type) [
      | true ↦ λ e g. words (codes "040000") (codes "tree") mode object_type refl refl e
      | false ↦ λ _ g. elim submodule as (λ t. submodule ≡ t → (if t then Some Submodule else if link then Some Link else if blob then file_mode mode else None) ≡ Some m → AreWords mode object_type) [
        | true ↦ λ e k. words (codes "160000") (codes "commit") mode object_type refl refl e
        | false ↦ λ _ k. elim link as (λ t. link ≡ t → (if t then Some Link else if blob then file_mode mode else None) ≡ Some m → AreWords mode object_type) [
          | true ↦ λ e l. words (codes "120000") (codes "blob") mode object_type refl refl e
          | false ↦ λ _ l. elim blob as (λ t. blob ≡ t → (if t then file_mode mode else None) ≡ Some m → AreWords mode object_type) [
            | true ↦ λ e w. record { mode_without = file_mode-without mode m w; type_without = ap (has 32) (word-is (codes "blob") object_type e) }
            | false ↦ λ e w. absurd (cc)
          ] refl l
        ] refl k
      ] refl g
    ] refl h

-- ---- objects

abbrev all_lower : ℕ → Bool
all_lower zero = true
all_lower (suc n) = is_lower_digit (slice_index lower_digits n) && all_lower n

lower_at : (n k : ℕ) → all_lower n ≡ true → k < n → is_lower_digit (slice_index lower_digits k) ≡ true
lower_at zero k h lt = absurd (omega arith)
lower_at (suc n) k h lt =
    let p = and_parts (is_lower_digit (slice_index lower_digits n)) (all_lower n) h in
    elim (k == n) as (λ t. (k == n) ≡ t → is_lower_digit (slice_index lower_digits k) ≡ true) [
      | true ↦ λ e. let same : k ≡ n = grind (arith, nat_tests) in ap (λ x. is_lower_digit (slice_index lower_digits x)) same ∙ p.0
      | false ↦ λ e. lower_at n k p.1 (grind (arith, nat_tests))
    ] refl

lower_digit : (k : ℕ) → k < 16 → is_lower_digit (slice_index lower_digits k) ≡ true
lower_digit k lt = lower_at 16 k refl lt

encode-lower : (bytes : List ℕ) → IsBytes bytes → list_all is_lower_digit (encode_lower bytes) ≡ true
unfolding encode_with
encode-lower [] h = refl
encode-lower (b ∷ bs) h =
    let small : b < 256 = h 0 in
    let high = lower_digit (b / 16) (omega arith) in
    let low = lower_digit (b % 16) (omega arith) in
    rw (high, low) (encode-lower bs (λ i. h (suc i)))

pub object-without : (bytes : List ℕ) → IsBytes bytes → has 32 (encode_lower bytes) ≡ false
object-without bytes h = without is_lower_digit 32 refl (encode_lower bytes) (encode-lower bytes h)

pub object-read : (object : ObjectId) → length object.0 ≡ 20 → IsBytes object.0 → object_of (encode_lower object.0) ≡ Some object
object-read object twenty h =
    ap (λ t. if t then option_map object_named (result_ok (decode_sized (encode_lower object.0) 20)) else None) (encode-lower object.0 h)
    ∙ ap (λ r. option_map object_named (result_ok r)) (decode_sized-encode_lower object.0 20 twenty h)

-- ---- sizes

has-spaces : (byte n : ℕ) (text : List ℕ) → (32 == byte) ≡ false → has byte text ≡ false → has byte (spaces n ++ text) ≡ false
has-spaces byte zero text other h = h
has-spaces byte (suc n) text other h = rw other (has-spaces byte n text other h)

length-spaces : (n : ℕ) (text : List ℕ) → length (spaces n ++ text) ≡ n + length text
length-spaces zero text = omega arith
length-spaces (suc n) text = let e = length-spaces n text in omega arith

drop-spaces : (n : ℕ) (text : List ℕ) → drop n (spaces n ++ text) ≡ text
drop-spaces zero text = refl
drop-spaces (suc n) text = drop-spaces n text

first-other : (n d : ℕ) (ds : List ℕ) → (d == 32) ≡ false → position_or_len (λ b. not (b == 32)) (spaces n ++ d ∷ ds) ≡ n
first-other zero d ds other = rw other refl
first-other (suc n) d ds other = let e = first-other n d ds other in omega arith

position-spaces : (n d : ℕ) (ds : List ℕ) → (d == 32) ≡ false → position (λ b. not (b == 32)) (spaces n ++ d ∷ ds) ≡ Some n
position-spaces n d ds other =
    let at = first-other n d ds other in
    let long = length-spaces n (d ∷ ds) in
    let within : nat_lt n (length (spaces n ++ d ∷ ds)) ≡ true = grind (arith, nat_tests) in
    ap (λ k. cond (nat_lt k (length (spaces n ++ d ∷ ds))) (Some k) None) at ∙ ap (λ t. cond t (Some n) None) within

-- what follows a number of spaces, if the field is as long as the padded text
abbrev text_behind : List ℕ → ℕ → Option (List ℕ)
text_behind field i = if length field == max (length (drop i field)) 7 then Some (drop i field) else None

unpadded-padded : (text : List ℕ) → 0 < length text → has 32 text ≡ false → unpadded (padded text) ≡ Some text
unpadded-padded [] some h = absurd (omega arith)
unpadded-padded (d ∷ ds) some h =
    let text = d ∷ ds in
    let n = 7 - length text in
    let other : (d == 32) ≡ false = elim (d == 32) as (λ t. (t || has 32 ds) ≡ false → t ≡ false) [ true ↦ λ g. absurd (cc) | false ↦ λ g. refl ] h in
    let long = length-spaces n text in
    let fits : (length (padded text) == max (length text) 7) ≡ true = grind (arith, nat_tests) in
    ap (option_and_then (text_behind (padded text))) (position-spaces n d ds other)
    ∙ ap (λ x. if length (padded text) == max (length x) 7 then Some x else None) (drop-spaces n text) ∙ ap (λ t. if t then Some text else None) fits

size-digits : (ds : List ℕ) (n : ℕ) → size_of ds ≡ Some n → list_all is_decimal ds ≡ true
size-digits ds n h =
    elim (length ds == 0) as (λ t. (if t then None else if has_leading_zero ds then None else if not (list_all is_decimal ds) then None else if nat_le (value_of ds) greatest_size then Some (value_of ds) else None) ≡ Some n → list_all is_decimal ds ≡ true) [
      | true ↦ λ g. absurd (cc)
      | false ↦ λ g. elim (has_leading_zero ds) as (λ t. (if t then None else if not (list_all is_decimal ds) then None else if nat_le (value_of ds) greatest_size then Some (value_of ds) else None) ≡ Some n → list_all is_decimal ds ≡ true) [
        | true ↦ λ k. absurd (cc)
        | false ↦ λ k. elim (list_all is_decimal ds) as (λ t. (if not t then None else if nat_le (value_of ds) greatest_size then Some (value_of ds) else None) ≡ Some n → t ≡ true) [
          | true ↦ λ l. refl
          | false ↦ λ l. absurd (cc)
        ] k
      ] g
    ] h

-- a size that is printed: how it is read, and that no TAB is in it
pub record IsSizeRead (mode : GitMode) (size : ℕ) : Type 0 where
  pub read : ℕ
  pub is : size_in mode (padded (size_printed mode size)) ≡ Some read
  pub same_file : file_of mode read ≡ file_of mode size
  pub has_no_tab : has 9 (padded (size_printed mode size)) ≡ false

-- what no blob is has none
dash-read : (mode : GitMode) (size : ℕ) → size_printed mode size ≡ codes "-" → size_text mode (codes "-") ≡ Some 0 → file_of mode 0 ≡ file_of mode size → IsSizeRead mode size
dash-read mode size printed text same = record {
  read = 0;
  is = ap (λ t. size_in mode (padded t)) printed ∙ ap (option_and_then (size_text mode)) (unpadded-padded (codes "-") (omega arith) refl) ∙ text;
  same_file = same;
  has_no_tab = ap (λ t. has 9 (padded t)) printed ∙ has-spaces 9 6 (codes "-") refl refl;
}

blob-read : (mode : GitMode) (size : ℕ) → size ≤ greatest_size → size_printed mode size ≡ decimal size → ((text : List ℕ) → size_text mode text ≡ size_of text) → IsSizeRead mode size
blob-read mode size fits printed reads =
    let read = size_of-decimal_text size fits in
    let some = decimal_nonempty size (omega (arith, fits)) in
    record {
      read = size;
      is = ap (λ t. size_in mode (padded t)) printed ∙ ap (option_and_then (size_text mode)) (unpadded-padded (decimal size) some (size-without size fits)) ∙ reads (decimal size) ∙ read;
      same_file = refl;
      has_no_tab = ap (λ t. has 9 (padded t)) printed ∙ has-spaces 9 (7 - length (decimal size)) (decimal size) refl (without is_decimal 9 refl (decimal size) (size-digits (decimal size) size read));
    }

pub size-read : (mode : GitMode) (size : ℕ) → size ≤ greatest_size → IsSizeRead mode size
size-read Tree size fits = dash-read Tree size refl refl refl
size-read Submodule size fits = dash-read Submodule size refl refl refl
size-read Link size fits = blob-read Link size fits refl (λ _. refl)
size-read Executable size fits = blob-read Executable size fits refl (λ _. refl)
size-read Regular size fits = blob-read Regular size fits refl (λ _. refl)
