-- The parts of a text: there is one way to cut it, and its length tells how many there are.
use Rattle.std.proofs.Common.{◌≡◌, ◌≤◌, ℕ, ◌+◌, List, [], ◌∷◌, ◌++◌, length, sym, ap, subst, ◌∙◌, take, arith, length-append}
use Rattle.std.specs.List.{concat}
use Rattle.std.proofs.lemmas.List.{append-nil, append_cancel_left}
use Rattle.std.proofs.Math.Seq.{take-append_seam}
use Rattle.std.specs.Int.{w16}
use Rattle.byte_codec.specs.Field.{number_bytes}
use Rattle.map_image.specs.ImageText.{header_text, lists_text, magic, numbers_text}
use Rattle.map_image.specs.Parts.{AreCut, CountsParts, HasOneCutting, PartsAreCounted, PartsAreFew, TextsAreSome}
use Rattle.map_image.specs.Versions.{part_len}
use Rattle.map_image.proofs.Lengths.{length-magic}
use Rattle.map_image.proofs.VersionLaws.{row}

-- ---- how many

counted_by : (parts : List (List ℕ)) → AreCut parts → CountsParts (length (concat parts)) (length parts)
counted_by [] cut = absurd cut
counted_by (last ∷ []) cut =
    let len : length (last ++ []) ≡ length last = ap length (append-nil last) in
    record { hold = omega (arith, len, cut.1); least = omega (arith, len, cut.0) }
counted_by (part ∷ next ∷ rest) cut =
    let behind = counted_by (next ∷ rest) cut.1 in
    let len = length-append part (concat (next ∷ rest)) in
    record { hold = omega (arith, len, cut.0, behind.hold); least = omega (arith, len, cut.0, behind.least) }

pub counted : PartsAreCounted
counted text parts are = subst (λ (t : List ℕ). CountsParts (length t) (length parts)) are.joined (counted_by parts are.cut)

pub few : PartsAreFew
few version text parts short are =
    let count = counted text parts are in
    omega (arith, count.least, short.at_most, (row version short.form short.known).keeps.parts_are_few)

pub some : TextsAreSome
some image version text is =
    let form = is.form in
    let header = header_text version image in
    let fields = number_bytes w16 version ++ (image.name.bytes ++ numbers_text image) in
    let lists = lists_text form.count_width image in
    let len : length (header ++ lists) ≡ 4 + length fields + length lists = omega (arith, length-append header lists, length-append magic fields, length-magic) in
    subst (λ (t : List ℕ). 1 ≤ length t) (sym is.is) (omega (arith, len))

-- ---- one way

-- a front of the same length is the same
same_front : (a b : List ℕ) (x y : List ℕ) → length a ≡ length b → a ++ x ≡ b ++ y → a ≡ b
same_front a b x y len e =
    sym (take-append_seam a x) ∙ ap (λ (n : ℕ). take n (a ++ x)) len ∙ ap (take (length b)) e ∙ take-append_seam b y

-- one part is no longer than a part, and more parts are
one_is_short : (last : List ℕ) (part next : List ℕ) (rest : List (List ℕ)) → length last ≤ part_len → AreCut (part ∷ next ∷ rest) → last ++ [] ≡ part ++ concat (next ∷ rest) → ⊥
one_is_short last part next rest short cut e =
    let len : length (last ++ []) ≡ length (part ++ concat (next ∷ rest)) = ap length e in
    let behind = counted_by (next ∷ rest) cut.1 in
    omega (arith, len, length-append last [], length-append part (concat (next ∷ rest)), short, cut.0, behind.least)

same : (parts others : List (List ℕ)) → AreCut parts → AreCut others → concat parts ≡ concat others → parts ≡ others
same [] others cut other e = absurd cut
same (last ∷ []) [] cut other e = absurd other
same (last ∷ []) (end ∷ []) cut other e = ap (λ (x : List ℕ). x ∷ []) (sym (append-nil last) ∙ e ∙ append-nil end)
same (last ∷ []) (part ∷ next ∷ rest) cut other e = absurd (one_is_short last part next rest cut.1 other e)
same (part ∷ next ∷ rest) [] cut other e = absurd other
same (part ∷ next ∷ rest) (end ∷ []) cut other e = absurd (one_is_short end part next rest other.1 cut (sym e))
same (part ∷ next ∷ rest) (a ∷ b ∷ more) cut other e =
    let front : part ≡ a = same_front part a (concat (next ∷ rest)) (concat (b ∷ more)) (cut.0 ∙ sym other.0) e in
    let behind : concat (next ∷ rest) ≡ concat (b ∷ more) = append_cancel_left a (concat (next ∷ rest)) (concat (b ∷ more)) (ap (λ (x : List ℕ). x ++ concat (next ∷ rest)) (sym front) ∙ e) in
    let others = same (next ∷ rest) (b ∷ more) cut.1 other.1 behind in
    ap (λ (x : List ℕ). x ∷ next ∷ rest) front ∙ ap (λ (xs : List (List ℕ)). a ∷ xs) others

pub one_cutting : HasOneCutting
one_cutting text parts others are other = same parts others are.cut other.cut (are.joined ∙ sym other.joined)
