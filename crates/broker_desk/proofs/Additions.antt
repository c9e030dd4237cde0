-- Directories that are noted one after another.
use Rattle.std.proofs.Common.{◌≡◌, ℕ, ◌+◌, ◌<◌, ◌||◌, Bool, true, false, List, cond, take, drop, length, get_or, refl, ap, sym, ◌∙◌}
use Rattle.std.proofs.lemmas.List.{take-append-drop}
use Rattle.std.proofs.lemmas.List.Folds.{list_any-append, list_any_more}
use Rattle.std.specs.BTreeMap.{is_at}
use Rattle.std.specs.Ordering.{nat_cmp}
use Rattle.eden_base.specs.declared.number.Number.{Number}
use Rattle.broker_desk.specs.Changed.{is_one_of}

-- the number of the test
abbrev pub no_number : Number
no_number = record { 0 = 0 }

one_more : (old before one : Bool) → cond one true (old || before) ≡ (old || (before || one))
one_more true before true = refl
one_more true before false = refl
one_more false true true = refl
one_more false true false = refl
one_more false false true = refl
one_more false false false = refl

-- one directory more is noted
pub added_one : (numbers : List Number) (i n : ℕ) (old mid new : Bool) → i < length numbers → mid ≡ (old || is_one_of n (take i numbers)) → new ≡ cond (is_at (nat_cmp (get_or numbers i no_number).0) n) true mid → new ≡ (old || is_one_of n (take (i + 1) numbers))
added_one numbers i n old mid new within so is =
    let test = λ (number : Number). is_at (nat_cmp number.0) n in
    is ∙ ap (λ (b : Bool). cond (test (get_or numbers i no_number)) true b) so
    ∙ one_more old (is_one_of n (take i numbers)) (test (get_or numbers i no_number))
    ∙ ap (λ (b : Bool). old || b) (sym (list_any_more test numbers i no_number within))

-- what the first ones make true all of them do
first_ones : (old first rest new : Bool) → new ≡ (old || first) → (old ≡ true → new ≡ true) × (new ≡ true → (old || (first || rest)) ≡ true)
first_ones true first rest new is = (λ t. is, λ t. refl)
first_ones false true rest new is = (λ t. is, λ t. refl)
first_ones false false rest new is = (λ t. cc, λ t. cc)

-- some directories are noted, and no others
pub added_some : (numbers : List Number) (i n : ℕ) (old new : Bool) → new ≡ (old || is_one_of n (take i numbers)) → (old ≡ true → new ≡ true) × (new ≡ true → (old || is_one_of n numbers) ≡ true)
added_some numbers i n old new is =
    let test = λ (number : Number). is_at (nat_cmp number.0) n in
    let all : is_one_of n numbers ≡ (is_one_of n (take i numbers) || is_one_of n (drop i numbers)) =
    ap (λ (xs : List Number). is_one_of n xs) (sym (take-append-drop i numbers)) ∙ list_any-append test (take i numbers) (drop i numbers) in
    let both = first_ones old (is_one_of n (take i numbers)) (is_one_of n (drop i numbers)) new is in
    (both.0, λ t. ap (λ (b : Bool). old || b) all ∙ both.1 t)
