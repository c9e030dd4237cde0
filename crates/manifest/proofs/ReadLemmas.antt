-- The first faulty line.
use Rattle.std.proofs.Common.{◌≡◌, ℕ, suc, ◌+◌, ◌<◌, ◌≤◌, List, [], ◌∷◌, ◌++◌, length, Some, Result, Ok, Err, IsOk, IfErr, IsOkAnd, refl, sym, ap, ◌∙◌, arith}
use Rattle.std.proofs.lemmas.List.{length_push}
use Rattle.manifest.specs.declared.fault.ManifestFault.{ManifestFault}
use Rattle.manifest.specs.declared.fault.ManifestFaultKind.{ManifestFaultKind}
use Rattle.manifest.specs.declared.fault.ManifestFaultKind.TheVariants.{NoCommit, BadLine, BadMode, BadSize, BadPath, NoParent, Twice, TooManyLines, NoMemory}
use Rattle.manifest.specs.Manifest.{Line}
use Rattle.manifest.specs.ManifestText.{line_of_text, on_line, fault_at, lines_of, read_on, with_commit, after_commit, IsLineRefusal, IsRefusal, IsAmongLines}
use Rattle.manifest.proofs.TextLemmas.{some_part}

-- a line that is ended, and what comes after it
pub read_on-more : (lines : List Line) (n : ℕ) (text rest : List ℕ) → read_on lines n (text ∷ lines_of rest)
    ≡ on_line (line_of_text lines text) (λ (line : Line). read_on (lines ++ line ∷ []) (n + 1) (lines_of rest)) (λ fault. Err (fault_at n fault))
read_on-more lines n [] rest = let r = some_part 10 rest in rw r.2 refl
read_on-more lines n (b ∷ bs) rest = let r = some_part 10 rest in rw r.2 refl

-- what is told of a line may be told of an earlier one
later : (r : Result (List Line) ManifestFault) (n m : ℕ) → n ≤ m → IfErr r (λ (f : ManifestFault). m ≤ f.line) → IfErr r (λ (f : ManifestFault). n ≤ f.line)
later (Ok lines) n m le h = tt
later (Err f) n m le h = omega (arith, h)

-- no fault is told of an earlier line
read_on-later : (ps : List (List ℕ)) (lines : List Line) (n : ℕ) → IfErr (read_on lines n ps) (λ (f : ManifestFault). n ≤ f.line)
read_on-later [] lines n = tt
read_on-later ([] ∷ []) lines n = tt
read_on-later ((b ∷ bs) ∷ []) lines n = omega arith
read_on-later (text ∷ next ∷ more) lines n =
    let rest : (line : Line) → IfErr (read_on (lines ++ line ∷ []) (n + 1) (next ∷ more)) (λ (f : ManifestFault). n + 1 ≤ f.line) = λ line. read_on-later (next ∷ more) (lines ++ line ∷ []) (n + 1) in
    elim (line_of_text lines text) as (λ r. IfErr (on_line r (λ (line : Line). read_on (lines ++ line ∷ []) (n + 1) (next ∷ more)) (λ fault. Err (fault_at n fault))) (λ (f : ManifestFault). n ≤ f.line)) [
      | Ok line ↦ later _ n (n + 1) (omega arith) (rest line)
      | Err fault ↦ omega arith
    ]

-- what isn't ended is no line
pub read_on-unended : (lines : List Line) (n : ℕ) (text : List ℕ) → 0 < length text → read_on lines n (text ∷ []) ≡ Err (fault_at n BadLine)
read_on-unended lines n [] h = absurd (omega arith)
read_on-unended lines n (b ∷ bs) h = refl

-- where there is no memory for a line, no line up to it is faulty
no_memory : (lines : List Line) (n : ℕ) (text rest : List ℕ) → IsOk (line_of_text lines text) → IfErr (read_on lines n (text ∷ lines_of rest)) (λ (f : ManifestFault). n < f.line)
no_memory lines n text rest ok =
    rw (read_on-more lines n text rest) (elim (line_of_text lines text) as (λ r. IsOk r → IfErr (on_line r (λ (line : Line). read_on (lines ++ line ∷ []) (n + 1) (lines_of rest)) (λ fault. Err (fault_at n fault))) (λ (f : ManifestFault). n < f.line)) [
      | Ok line ↦ λ _. later _ (suc n) (n + 1) (omega arith) (read_on-later (lines_of rest) (lines ++ line ∷ []) (n + 1))
      | Err fault ↦ λ h. absurd (cc)
    ] ok)

fault_of_line : (lines : List Line) (n : ℕ) (text rest : List ℕ) (kind : ManifestFaultKind) → line_of_text lines text ≡ Err kind → read_on lines n (text ∷ lines_of rest) ≡ Err (fault_at n kind)
fault_of_line lines n text rest kind h =
    read_on-more lines n text rest ∙ ap (λ r. on_line r (λ (line : Line). read_on (lines ++ line ∷ []) (n + 1) (lines_of rest)) (λ fault. Err (fault_at n fault))) h

-- a refused line refuses the text
pub refusal_from_line : (lines : List Line) (n : ℕ) (text rest : List ℕ) (kind : ManifestFaultKind) → IsLineRefusal (line_of_text lines text) kind → IsRefusal (read_on lines n (text ∷ lines_of rest)) n kind
refusal_from_line lines n text rest NoMemory h = no_memory lines n text rest h
refusal_from_line lines n text rest NoCommit h = fault_of_line lines n text rest NoCommit h
refusal_from_line lines n text rest BadLine h = fault_of_line lines n text rest BadLine h
refusal_from_line lines n text rest BadMode h = fault_of_line lines n text rest BadMode h
refusal_from_line lines n text rest BadSize h = fault_of_line lines n text rest BadSize h
refusal_from_line lines n text rest BadPath h = fault_of_line lines n text rest BadPath h
refusal_from_line lines n text rest NoParent h = fault_of_line lines n text rest NoParent h
refusal_from_line lines n text rest Twice h = fault_of_line lines n text rest Twice h
refusal_from_line lines n text rest TooManyLines h = fault_of_line lines n text rest TooManyLines h

-- a line that is taken leaves the rest
pub read_on-taken : (lines : List Line) (n : ℕ) (text rest : List ℕ) (new : List Line) → IsOkAnd (line_of_text lines text) (λ (line : Line). new ≡ lines ++ line ∷ []) → read_on lines n (text ∷ lines_of rest) ≡ read_on new (n + 1) (lines_of rest)
read_on-taken lines n text rest new h =
    read_on-more lines n text rest ∙ (elim (line_of_text lines text) as (λ r. IsOkAnd r (λ (line : Line). new ≡ lines ++ line ∷ []) → on_line r (λ (line : Line). read_on (lines ++ line ∷ []) (n + 1) (lines_of rest)) (λ fault. Err (fault_at n fault)) ≡ read_on new (n + 1) (lines_of rest)) [
      | Ok line ↦ λ e. ap (λ ls. read_on ls (n + 1) (lines_of rest)) (sym e)
      | Err fault ↦ λ e. absurd e
    ] h)

pub length_taken : (lines : List Line) (text : List ℕ) (new : List Line) → IsOkAnd (line_of_text lines text) (λ (line : Line). new ≡ lines ++ line ∷ []) → length lines + 2 + 1 ≡ length new + 2
length_taken lines text new h =
    elim (line_of_text lines text) as (λ r. IsOkAnd r (λ (line : Line). new ≡ lines ++ line ∷ []) → length lines + 2 + 1 ≡ length new + 2) [
      | Ok line ↦ λ e. let l = ap length e in let p = length_push lines line in omega arith
      | Err fault ↦ λ e. absurd e
    ] h

-- a line after the first, and before the last, may have any fault
pub among_lines : (count line : ℕ) (kind : ManifestFaultKind) → 1 < line → line < count → IsAmongLines count line kind
among_lines count line NoMemory low high = (omega arith, high, λ first. absurd (omega (arith, first)))
among_lines count line NoCommit low high = (omega arith, omega arith)
among_lines count line BadLine low high = (omega arith, omega arith)
among_lines count line BadMode low high = (omega arith, omega arith)
among_lines count line BadSize low high = (omega arith, omega arith)
among_lines count line BadPath low high = (omega arith, omega arith)
among_lines count line NoParent low high = (omega arith, omega arith)
among_lines count line Twice low high = (omega arith, omega arith)
among_lines count line TooManyLines low high = (omega arith, omega arith)

-- a text has a first line
pub first_line : (text : List ℕ) → (0 < 1) × (1 ≤ length (lines_of text))
first_line text = let r = some_part 10 text in (omega arith, rw r.2 (omega arith))

pub after_commit-some : (digest commit rest : List ℕ) → after_commit digest (Some commit) (lines_of rest) ≡ with_commit digest commit (read_on [] 2 (lines_of rest))
after_commit-some digest commit rest = let r = some_part 10 rest in rw r.2 refl
