-- The words of a line. (This project's own.)
use Rattle.std.specs.Prelude.{ℕ, ◌==◌, Bool, List, nat_eq}
use Rattle.std.specs.Cmp.Lexicographic.{pointwise}
use Rattle.std.specs.List.{slice_split}

-- whether the bytes are this word
abbrev pub is_word : List ℕ → List ℕ → Bool
is_word bytes word = pointwise nat_eq bytes word

-- the words of a text, separated by one space each; a text without a space is one word, which may be empty
abbrev pub words_of : List ℕ → List (List ℕ)
words_of text = slice_split (λ byte. byte == 32) text
