-- The words of a text, one after another, and the versions that they say.
use Rattle.std.proofs.Common.{◌≡◌, ℕ, ◌+◌, ◌==◌, Bool, true, false, cond, not, List, [], ◌∷◌, length, take, drop, nat_lt, Some, None, refl, ap, sym, ◌∙◌, arith}
use Rattle.std.specs.List.{onto_first, position_or_len, before_first, after_first}
use Rattle.std.specs.Option.{option_map, option_and_then}
use Rattle.std.proofs.lemmas.Bool.Decides.{nat_tests}
use Rattle.std.proofs.lemmas.List.Splits.{slice_split_first}
use Rattle.script_lines.specs.EventLine.{with_version, versions_after, start_of}
use Rattle.world.specs.declared.event.Event.TheVariants.{Start}
use Rattle.eden_base.specs.Text.{cut}
use Rattle.script_lines.specs.Words.{words_of}

abbrev is_space : ℕ → Bool
is_space byte = byte == 32

-- the index of the first space, or the length if there is none
abbrev first_space : List ℕ → ℕ
first_space text = position_or_len is_space text

-- ---- words

one-by : (byte : ℕ) (bytes : List ℕ) (b : Bool) → nat_lt (cond (not b) (1 + first_space bytes) 0) (length (byte ∷ bytes)) ≡ false → (nat_lt (first_space bytes) (length bytes) ≡ false → words_of bytes ≡ bytes ∷ []) →
    cond b ([] ∷ words_of bytes) (onto_first byte (words_of bytes)) ≡ (byte ∷ bytes) ∷ []
one-by byte bytes true none rest = let impossible : ⊥ = grind (arith, nat_tests) in absurd impossible
one-by byte bytes false none rest = ap (onto_first byte) (rest (grind (arith, nat_tests)))

one : (text : List ℕ) → nat_lt (first_space text) (length text) ≡ false → words_of text ≡ text ∷ []
one [] none = refl
one (byte ∷ bytes) none = one-by byte bytes (byte == 32) none (one bytes)

more : (text : List ℕ) → nat_lt (first_space text) (length text) ≡ true → words_of text ≡ before_first is_space text ∷ words_of (after_first is_space text)
more text some = slice_split_first is_space text 0 (grind (arith, nat_tests))

-- without a space the text is one word
one_word-by : (text : List ℕ) (b : Bool) → nat_lt (first_space text) (length text) ≡ b → option_map {U = List ℕ × List ℕ} (λ (i : ℕ). (take i text, drop (i + 1) text)) (cond b (Some (first_space text)) None) ≡ None → words_of text ≡ text ∷ []
one_word-by text true is none = let impossible : ⊥ = cc in absurd impossible
one_word-by text false is none = one text is

pub one_word : (text : List ℕ) → cut 32 text ≡ None → words_of text ≡ text ∷ []
one_word text none = one_word-by text (nat_lt (first_space text) (length text)) refl none

-- a text with a space is its first word, and the words of the rest
more_words-by : (text word behind : List ℕ) (b : Bool) → nat_lt (first_space text) (length text) ≡ b → option_map {U = List ℕ × List ℕ} (λ (i : ℕ). (take i text, drop (i + 1) text)) (cond b (Some (first_space text)) None) ≡ Some (word, behind) → words_of text ≡ word ∷ words_of behind
more_words-by text word behind true is some =
    let pair : (before_first is_space text, after_first is_space text) ≡ (word, behind) = cc in
    more text is ∙ ap (λ (p : List ℕ × List ℕ). p.0 ∷ words_of p.1) pair
more_words-by text word behind false is some = let impossible : ⊥ = cc in absurd impossible

pub more_words : (text word behind : List ℕ) → cut 32 text ≡ Some (word, behind) → words_of text ≡ word ∷ words_of behind
more_words text word behind some = more_words-by text word behind (nat_lt (first_space text) (length text)) refl some

-- ---- versions

-- one word more was cut off, and its version is next
pub more_versions : (text versions rest word behind : List ℕ) → versions_after versions (words_of rest) ≡ versions_after [] (words_of text) → cut 32 rest ≡ Some (word, behind) → versions_after versions (word ∷ words_of behind) ≡ versions_after [] (words_of text)
more_versions text versions rest word behind is some = sym (ap (versions_after versions) (more_words rest word behind some)) ∙ is

-- the last word is left, and its version is next
pub last_version : (text versions rest : List ℕ) → versions_after versions (words_of rest) ≡ versions_after [] (words_of text) → cut 32 rest ≡ None → versions_after versions (rest ∷ []) ≡ versions_after [] (words_of text)
last_version text versions rest is none = sym (ap (versions_after versions) (one_word rest none)) ∙ is

-- if a word is no version, the line has no event
pub no_start : (text versions word : List ℕ) (words : List (List ℕ)) → versions_after versions (word ∷ words) ≡ versions_after [] (words_of text) → with_version versions word ≡ None → start_of text ≡ None
no_start text versions word words is none = ap (option_map (λ (versions : List ℕ). Start versions)) (sym is ∙ ap (option_and_then (λ (longer : List ℕ). versions_after longer words)) none)

-- the version of one word more was appended
pub one_version : (text versions longer word : List ℕ) (words : List (List ℕ)) → versions_after versions (word ∷ words) ≡ versions_after [] (words_of text) → with_version versions word ≡ Some longer → versions_after longer words ≡ versions_after [] (words_of text)
one_version text versions longer word words is some = sym (ap (option_and_then (λ (longer : List ℕ). versions_after longer words)) some) ∙ is

-- if no word is left, the versions are those of the line
pub all_versions : (text versions : List ℕ) → versions_after versions [] ≡ versions_after [] (words_of text) → start_of text ≡ Some (Start versions)
all_versions text versions is = sym (ap (option_map (λ (versions : List ℕ). Start versions)) is)
