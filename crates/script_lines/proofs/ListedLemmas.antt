-- Lemmas on the entries that bytes are.
use Rattle.std.proofs.Common.{◌≡◌, ℕ, zero, suc, ◌+◌, ◌-◌, ◌≤◌, List, [], ◌∷◌, ◌++◌, length, drop, Option, Some, None, Result, Ok, Err, refl, ap, sym, subst, ◌∙◌, length-append, length-drop, arith}
use Rattle.std.specs.Prelude.{⊤, OnOk, codes, option_map}
use Rattle.std.specs.Fmt.{decimal}
use Rattle.std.proofs.lemmas.List.{drop_at}
use Rattle.fuse_wire.specs.declared.fault.WireFault.{WireFault}
use Rattle.fuse_wire.specs.DirectoryEntries.{Dirent, FitsDirent, entries_text, entry_text, next_entry}
use Rattle.fuse_wire.proofs.DirectoryEntries.{length-entry_text, next_again}
use Rattle.std.specs.Io.KnownBytes.{Appends}
use Rattle.std.proofs.KnownBytes.{Appends-nil, Appends-trans}
use Rattle.script_lines.specs.Printed.{line, entry_line, entry_lines, buffer_lines}
use Rattle.script_lines.specs.Listed.{with_first, entries_within, listing_of}

-- each entry has a byte
entry_has : (entry : Dirent) → 1 ≤ length (entry_text entry)
entry_has entry = omega (arith, length-entry_text entry)

-- what stands behind the first entry has room in one less
within_both : (read : Result (Option Dirent) WireFault) (bytes : List ℕ) (n m : ℕ) → length bytes ≤ suc n → length bytes ≤ suc m →
    ((rest : List ℕ) → length rest ≤ n → length rest ≤ m → entries_within n rest ≡ entries_within m rest) →
    with_first read (λ entry. entries_within n (drop (length (entry_text entry)) bytes)) ≡ with_first read (λ entry. entries_within m (drop (length (entry_text entry)) bytes))
within_both (Ok None) bytes n m low high same = refl
within_both (Err fault) bytes n m low high same = refl
within_both (Ok (Some entry)) bytes n m low high same =
    let k = length (entry_text entry) in
    let left : length (drop k bytes) ≡ length bytes - k = length-drop k bytes in
    let has : 1 ≤ k = entry_has entry in
    let below : length (drop k bytes) ≤ n = omega (arith, left, has, low) in
    let under : length (drop k bytes) ≤ m = omega (arith, left, has, high) in
    ap (option_map (λ (entries : List Dirent). entry ∷ entries)) (same (drop k bytes) below under)

-- where all entries have room, more room changes nothing
enough : (n m : ℕ) (bytes : List ℕ) → length bytes ≤ n → length bytes ≤ m → entries_within n bytes ≡ entries_within m bytes
enough zero zero bytes low high = refl
enough zero (suc m) [] low high = refl
enough zero (suc m) (byte ∷ bytes) low high = let impossible : ⊥ = omega (arith, low) in absurd impossible
enough (suc n) zero [] low high = refl
enough (suc n) zero (byte ∷ bytes) low high = let impossible : ⊥ = omega (arith, high) in absurd impossible
enough (suc n) (suc m) bytes low high = within_both (next_entry bytes) bytes n m low high (enough n m)

behind_first : (bytes rest : List ℕ) (entry : Dirent) → bytes ≡ entry_text entry ++ rest → drop (length (entry_text entry)) bytes ≡ rest
behind_first bytes rest entry is = ap (drop (length (entry_text entry))) is ∙ drop_at (entry_text entry) rest (length (entry_text entry)) refl

one_more : (read : Result (Option Dirent) WireFault) (n : ℕ) (bytes rest : List ℕ) (entry : Dirent) → read ≡ Ok (Some entry) → bytes ≡ entry_text entry ++ rest → length bytes ≤ suc n →
    with_first read (λ entry. entries_within n (drop (length (entry_text entry)) bytes)) ≡ option_map (λ (entries : List Dirent). entry ∷ entries) (listing_of rest)
one_more read n bytes rest entry is text low =
    let behind = behind_first bytes rest entry text in
    let has : 1 ≤ length (entry_text entry) = entry_has entry in
    let lengths : length bytes ≡ length (entry_text entry) + length rest = ap length text ∙ length-append (entry_text entry) rest in
    ap (λ (it : Result (Option Dirent) WireFault). with_first it (λ entry. entries_within n (drop (length (entry_text entry)) bytes))) is
    ∙ ap (λ (left : List ℕ). option_map (λ (entries : List Dirent). entry ∷ entries) (entries_within n left)) behind
    ∙ ap (option_map (λ (entries : List Dirent). entry ∷ entries)) (enough n (length rest) rest (omega (arith, lengths, has, low)) (omega arith))

-- behind the first entry stand those of the rest
pub first_and_rest : (bytes rest : List ℕ) (entry : Dirent) → next_entry bytes ≡ Ok (Some entry) → bytes ≡ entry_text entry ++ rest → listing_of bytes ≡ option_map (λ (entries : List Dirent). entry ∷ entries) (listing_of rest)
first_and_rest [] rest entry is text =
    let lengths : 0 ≡ length (entry_text entry) + length rest = ap length text ∙ length-append (entry_text entry) rest in
    let has : 1 ≤ length (entry_text entry) = entry_has entry in
    let impossible : ⊥ = omega (arith, lengths, has) in absurd impossible
first_and_rest (byte ∷ bytes) rest entry is text = one_more (next_entry (byte ∷ bytes)) (length bytes) (byte ∷ bytes) rest entry is text (omega arith)

-- where nothing is left there are no entries
pub no_more : (bytes : List ℕ) → next_entry bytes ≡ Ok None → listing_of bytes ≡ Some []
no_more [] is = refl
no_more (byte ∷ bytes) is = ap (λ (it : Result (Option Dirent) WireFault). with_first it (λ entry. entries_within (length bytes) (drop (length (entry_text entry)) (byte ∷ bytes)))) is

-- where something else is next the bytes are no entries
pub no_entries : (bytes : List ℕ) (fault : WireFault) → next_entry bytes ≡ Err fault → listing_of bytes ≡ None
no_entries [] fault is = let impossible : ⊥ = cc in absurd impossible
no_entries (byte ∷ bytes) fault is = ap (λ (it : Result (Option Dirent) WireFault). with_first it (λ entry. entries_within (length bytes) (drop (length (entry_text entry)) (byte ∷ bytes)))) is

-- ---- how many

-- one entry was counted, and those of the rest are left
pub one_counted : (left rest all : Option (List Dirent)) (entry : Dirent) (count : ℕ) → left ≡ option_map (λ (entries : List Dirent). entry ∷ entries) rest →
    option_map (λ (entries : List Dirent). count + length entries) left ≡ option_map length all → option_map (λ (entries : List Dirent). count + 1 + length entries) rest ≡ option_map length all
one_counted left rest all entry count is counted = here rest ∙ ap (option_map (λ (entries : List Dirent). count + length entries)) (sym is) ∙ counted where
  here : (rest : Option (List Dirent)) → option_map (λ (entries : List Dirent). count + 1 + length entries) rest ≡ option_map (λ (entries : List Dirent). count + length entries) (option_map (λ (entries : List Dirent). entry ∷ entries) rest)
  here None = refl
  here (Some entries) = let same : count + 1 + length entries ≡ count + suc (length entries) = omega arith in ap Some same

-- ---- what is written

-- without entries there are no lines
pub no_lines : (left : List Dirent) (rest : Option (List Dirent)) (a : Option (List ℕ)) → rest ≡ Some left → rest ≡ Some [] → Appends a a (entry_lines left)
no_lines left rest a is none = let nothing : left ≡ [] = cc in subst (λ (entries : List Dirent). Appends a a (entry_lines entries)) (sym nothing) (Appends-nil a)

-- the first of the entries that are left, and the others
pub record FirstOf (left : List Dirent) (entry : Dirent) (rest : Option (List Dirent)) : Type 0 where
  pub others : List Dirent
  pub behind : rest ≡ Some others
  pub both : left ≡ entry ∷ others

pub first_of : (left : List Dirent) (all rest : Option (List Dirent)) (entry : Dirent) → all ≡ Some left → all ≡ option_map (λ (entries : List Dirent). entry ∷ entries) rest → FirstOf left entry rest
first_of left all None entry is more = let impossible : ⊥ = cc in absurd impossible
first_of left all (Some others) entry is more = let both : left ≡ entry ∷ others = cc in record { others = others; behind = refl; both = both }

-- one more line, and the lines that follow it
pub line_more : (left others : List Dirent) (entry : Dirent) (a b c : Option (List ℕ)) → left ≡ entry ∷ others → Appends a b (entry_line entry) → Appends b c (entry_lines others) → Appends a c (entry_lines left)
line_more left others entry a b c is one more = subst (λ (entries : List Dirent). Appends a c (entry_lines entries)) (sym is) (Appends-trans a b c _ _ one more)

-- so many bytes are left behind an entry
pub fewer : (bytes rest : List ℕ) (entry : Dirent) (count : ℕ) (all : List ℕ) → bytes ≡ entry_text entry ++ rest → count + length bytes ≤ length all → count + 1 + length rest ≤ length all
fewer bytes rest entry count all text most =
    let lengths : length bytes ≡ length (entry_text entry) + length rest = ap length text ∙ length-append (entry_text entry) rest in
    let has : 1 ≤ length (entry_text entry) = entry_has entry in
    omega (arith, lengths, has, most)

-- a listing is written if its count and its lines are
pub listing_written : {E : Type 0} (r : Result (Unit {0}) E) (bytes : List ℕ) (all : Option (List Dirent)) (count : ℕ) (a b c : Option (List ℕ)) → option_map length all ≡ Some count →
    Appends a b (line (codes "listing" ∷ decimal count ∷ [])) → ((listed : List Dirent) → all ≡ Some listed → OnOk r (Appends b c (entry_lines listed))) → OnOk r (Appends a c (buffer_lines bytes all))
listing_written (Err error) bytes all count a b c counted first lines = tt
listing_written (Ok done) bytes None count a b c counted first lines = let impossible : ⊥ = cc in absurd impossible
listing_written (Ok done) bytes (Some listed) count a b c counted first lines =
    let same : length listed ≡ count = cc in
    Appends-trans a b c _ _ (subst (λ (n : ℕ). Appends a b (line (codes "listing" ∷ decimal n ∷ []))) (sym same) first) (lines listed refl)

-- ---- what was written

-- each of the entries can be written
abbrev pub AllFit : List Dirent → Type 0
AllFit [] = ⊤
AllFit (entry ∷ entries) = FitsDirent entry × AllFit entries

-- entries that are written one after the other are read as these entries, and so each of them is printed
pub entries_again : (entries : List Dirent) → AllFit entries → listing_of (entries_text entries) ≡ Some entries
entries_again [] fit = refl
entries_again (entry ∷ entries) fit =
    first_and_rest (entries_text (entry ∷ entries)) (entries_text entries) entry (next_again entry _ _ fit.0 refl) refl
    ∙ ap (option_map (λ (others : List Dirent). entry ∷ others)) (entries_again entries fit.1)
