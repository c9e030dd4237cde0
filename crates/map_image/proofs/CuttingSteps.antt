-- A text that is cut: what is behind a full part is cut in the same way.
use Rattle.std.proofs.Common.{◌≡◌, ◌<◌, ℕ, List, [], ◌∷◌, ◌++◌, length, sym, ap, subst, ◌∙◌, append_assoc, arith}
use Rattle.std.specs.Prelude.{take, drop}
use Rattle.std.proofs.lemmas.List.{take-append-drop, length-take-le}
use Rattle.map_image.specs.Parts.{AreCut, AreParts}
use Rattle.map_image.specs.Versions.{part_len}

-- a full part before others is cut as they are
front_cut : (part : List ℕ) (later : List (List ℕ)) → length part ≡ part_len → AreCut later → AreCut (part ∷ later)
front_cut part [] full cut = absurd cut
front_cut part (next ∷ rest) full cut = (full, cut)

-- the parts of what is behind a full part, with that part before them
front_part : (rest : List ℕ) (later : List (List ℕ)) → part_len < length rest → AreParts (drop part_len rest) later → AreParts rest (take part_len rest ∷ later)
front_part rest later long are = record {
  joined = ap (λ (l : List ℕ). take part_len rest ++ l) are.joined ∙ take-append-drop part_len rest;
  cut = front_cut (take part_len rest) later (length-take-le part_len rest (omega (arith, long))) are.cut;
}

-- the parts go on with the parts of what is left, behind one more of them
pub goes_on : (text rest part behind : List ℕ) (parts more : List (List ℕ)) → part_len < length rest → part ≡ take part_len rest → behind ≡ drop part_len rest → more ≡ parts ++ part ∷ [] →
    ((later : List (List ℕ)) → AreParts rest later → AreParts text (parts ++ later)) → (later : List (List ℕ)) → AreParts behind later → AreParts text (more ++ later)
goes_on text rest part behind parts more long part_is behind_is more_is before later are =
    let behind_are : AreParts (drop part_len rest) later = subst (λ (l : List ℕ). AreParts l later) behind_is are in
    let here : AreParts text (parts ++ take part_len rest ∷ later) = before (take part_len rest ∷ later) (front_part rest later long behind_are) in
    let by_part : AreParts text (parts ++ part ∷ later) = subst (λ (p : List ℕ). AreParts text (parts ++ p ∷ later)) (sym part_is) here in
    subst (λ (ps : List (List ℕ)). AreParts text (ps ++ later)) (sym more_is)
    (subst (λ (ps : List (List ℕ)). AreParts text ps) (sym (append_assoc parts (part ∷ []) later)) by_part)
