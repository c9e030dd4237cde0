-- The body of a RENAME: what is read has these bytes as its body, and each body is read.
use Rattle.std.proofs.Common.{◌≡◌, ℕ, suc, ◌+◌, ◌<◌, ◌^◌, Bool, true, false, eqb, ltb, List, [], ◌∷◌, ◌++◌, length, take, drop, get_or, Option, Some, None, Ok, refl, sym, ap, subst, ◌∙◌, append_assoc, length-append, drop-cons, arith}
use Rattle.std.specs.List.{list_any, position, position_or_len}
use Rattle.std.specs.Option.{option_map}
use Rattle.std.proofs.lemmas.Bool.{or_parts, lt-ltb, le-ltb, ltb-false, eqb-true}
use Rattle.std.proofs.lemmas.Bool.Decides.{nat_tests}
use Rattle.std.proofs.lemmas.List.{take-append-drop, drop-drop, take_at, drop_at}
use Rattle.std.proofs.lemmas.List.Quantifiers.{position-Some}
use Rattle.eden_base.specs.declared.number.Number.{Number}
use Rattle.eden_base.specs.Name.{IsNameText, is_separator, name_fault}
use Rattle.eden_base.specs.Text.{cut}
use Rattle.fuse_wire.specs.declared.fault.WireFault.TheVariants.{BadBody}
use Rattle.fuse_wire.specs.Field.{u64_bytes, u64_at}
use Rattle.byte_codec.specs.Field.{AreBytes}
use Rattle.byte_codec.specs.Reading.{◌>>=◌}
use Rattle.byte_codec.proofs.StepLemmas.{bind_ok, guard_ok, ok_is}
use Rattle.fuse_wire.specs.RequestBody.{IsMoveBody, checked, both_checked, ended_by_nul, move_body, move_of, name_text, names_in, names_of}
use Rattle.fuse_wire.proofs.Bodies.{checked_ok, ended_found, ended_again}
use Rattle.fuse_wire.proofs.Fields.{u64_again, u64_front}
use Rattle.fuse_wire.proofs.Lengths.{length-u64_bytes}

-- ---- the first NUL

-- the byte is a NUL
abbrev is_nul : ℕ → Bool
is_nul b = eqb b 0

-- a name has no NUL
no_separator : (name : List ℕ) → IsNameText name → list_any is_separator name ≡ false
no_separator name is = grind (arith, nat_tests)

-- the first NUL stands behind bytes of which none is a NUL
at_nul : (first rest : List ℕ) → list_any is_separator first ≡ false → position_or_len is_nul (first ++ 0 ∷ rest) ≡ length first
at_nul [] rest none = refl
at_nul (b ∷ first) rest none =
    let parts = or_parts (is_separator b) (list_any is_separator first) none in
    let own = or_parts (eqb b 47) (eqb b 0) parts.0 in
    rw (own.1, at_nul first rest parts.1) (omega arith)

-- a name and what is behind its NUL are parted again
cut_again : (first rest : List ℕ) → IsNameText first → cut 0 (first ++ 0 ∷ rest) ≡ Some (first, rest)
cut_again first rest is =
    let at = at_nul first rest (no_separator first is) in
    let inside : ltb (length first) (length (first ++ 0 ∷ rest)) ≡ true = lt-ltb _ _ (omega (arith, length-append first (0 ∷ rest))) in
    let before : take (length first) (first ++ 0 ∷ rest) ≡ first = take_at first (0 ∷ rest) (length first) refl in
    let behind : drop (length first + 1) (first ++ 0 ∷ rest) ≡ rest = sym (drop-drop 1 (length first) (first ++ 0 ∷ rest)) ∙ ap (drop 1) (drop_at first (0 ∷ rest) (length first) refl) in
    rw (at, inside, before, behind) refl

-- what is parted at the first NUL has that NUL between its parts
cut_found : (bytes first rest : List ℕ) → cut 0 bytes ≡ Some (first, rest) → bytes ≡ first ++ 0 ∷ rest
cut_found bytes first rest e = found_at (position is_nul bytes) refl e where
  parts_at : ℕ → List ℕ × List ℕ
  parts_at i = (take i bytes, drop (i + 1) bytes)

  found_at : (o : Option ℕ) → position is_nul bytes ≡ o → option_map parts_at o ≡ Some (first, rest) → bytes ≡ first ++ 0 ∷ rest
  found_at (Some i) at is =
      let p = position-Some is_nul bytes i 0 at in
      let same : parts_at i ≡ (first, rest) = cc in
      let byte : get_or bytes i 0 ≡ 0 = eqb-true _ _ p.1 in
      let one : drop (suc i) bytes ≡ drop (i + 1) bytes = ap (λ (n : ℕ). drop n bytes) {x = suc i} {y = i + 1} (omega arith) in
      sym (take-append-drop i bytes)
      ∙ ap (λ (d : List ℕ). take i bytes ++ d) (drop-cons bytes i 0 p.0)
      ∙ ap (λ (b : ℕ). take i bytes ++ b ∷ drop (suc i) bytes) byte
      ∙ ap (λ (d : List ℕ). take i bytes ++ 0 ∷ d) one
      ∙ ap (λ (q : List ℕ × List ℕ). q.0 ++ 0 ∷ q.1) same
  found_at None at is = absurd cc

-- ---- two names

-- both names were checked
record BothNames (first second name to_name : List ℕ) : Type 0 where
  is_name : IsNameText name
  is_to_name : IsNameText to_name
  first_is : first ≡ name
  second_is : second ≡ to_name

both_found : (first second name to_name : List ℕ) → both_checked first second ≡ Ok (name, to_name) → BothNames first second name to_name
both_found first second name to_name e =
    let b = bind_ok (checked first (name_fault first)) (λ old. checked second (name_fault second) >>= λ new. Ok (old, new)) (name, to_name) e in
    let c = bind_ok (checked second (name_fault second)) (λ new. Ok (b.0, new)) (name, to_name) b.2 in
    let same : (b.0, c.0) ≡ (name, to_name) = ok_is (b.0, c.0) (name, to_name) c.2 in
    let old = checked_ok first b.0 (name_fault first) b.1 in
    let new = checked_ok second c.0 (name_fault second) c.1 in
    let first_is = old.1 ∙ ap (λ (p : List ℕ × List ℕ). p.0) same in
    let second_is = new.1 ∙ ap (λ (p : List ℕ × List ℕ). p.1) same in
    record {
      is_name = subst IsNameText first_is old.0;
      is_to_name = subst IsNameText second_is new.0;
      first_is = first_is;
      second_is = second_is;
    }

-- two names that were read have these bytes, each with its NUL
record TwoNames (bytes name to_name : List ℕ) : Type 0 where
  is_name : IsNameText name
  is_to_name : IsNameText to_name
  parts : bytes ≡ name_text name ++ name_text to_name

names_found : (bytes name to_name : List ℕ) → names_of bytes ≡ Ok (name, to_name) → TwoNames bytes name to_name
unfolding names_of
names_found bytes name to_name e = in_ (cut 0 bytes) refl e where
  in_ : (o : Option (List ℕ × List ℕ)) → cut 0 bytes ≡ o → names_in o ≡ Ok (name, to_name) → TwoNames bytes name to_name
  in_ (Some parts) at is =
      let b = bind_ok (ended_by_nul parts.1) (λ second. both_checked parts.0 second) (name, to_name) is in
      let both = both_found parts.0 b.0 name to_name b.2 in
      let whole : bytes ≡ parts.0 ++ 0 ∷ parts.1 = cut_found bytes parts.0 parts.1 at in
      let second : parts.1 ≡ name_text to_name = ended_found parts.1 b.0 b.1 ∙ ap name_text both.second_is in
      record {
        is_name = both.is_name;
        is_to_name = both.is_to_name;
        parts = whole ∙ ap (λ (d : List ℕ). parts.0 ++ 0 ∷ d) second ∙ ap (λ (d : List ℕ). d ++ 0 ∷ name_text to_name) both.first_is ∙ sym (append_assoc name (0 ∷ []) (name_text to_name));
      }
  in_ None at is = absurd cc

names_again : (name to_name : List ℕ) → IsNameText name → IsNameText to_name → names_of (name_text name ++ name_text to_name) ≡ Ok (name, to_name)
unfolding names_of
names_again name to_name is is_to =
    let whole : name_text name ++ name_text to_name ≡ name ++ 0 ∷ name_text to_name = append_assoc name (0 ∷ []) (name_text to_name) in
    let parted : cut 0 (name_text name ++ name_text to_name) ≡ Some (name, name_text to_name) = ap (cut 0) whole ∙ cut_again name (name_text to_name) is in
    rw (parted, ended_again to_name, is, is_to) refl

-- ---- the whole body

pub move_found : (body : List ℕ) (to_dir : Number) (name to_name : List ℕ) → AreBytes body → move_of body ≡ Ok (to_dir, name, to_name) → IsMoveBody to_dir name to_name body
unfolding move_of
move_found body to_dir name to_name are e =
    let read : Number = record { 0 = u64_at body } in
    let g = guard_ok (ltb (length body) 8) BadBody (names_of (drop 8 body) >>= λ names. Ok (read, names.0, names.1)) (to_dir, name, to_name) e in
    let b = bind_ok (names_of (drop 8 body)) (λ names. Ok (read, names.0, names.1)) (to_dir, name, to_name) g.1 in
    let same : (read, b.0.0, b.0.1) ≡ (to_dir, name, to_name) = ok_is (read, b.0.0, b.0.1) (to_dir, name, to_name) b.2 in
    let names = names_found (drop 8 body) b.0.0 b.0.1 b.1 in
    let word : u64_bytes (u64_at body) ++ drop 8 body ≡ body = u64_front body are (ltb-false _ _ g.0) in
    let whole : body ≡ move_body read b.0.0 b.0.1 = sym word ∙ ap (λ (d : List ℕ). u64_bytes (u64_at body) ++ d) names.parts ∙ sym (append_assoc (u64_bytes (u64_at body)) (name_text b.0.0) (name_text b.0.1)) in
    let got : IsMoveBody read b.0.0 b.0.1 body = record { is_name = names.is_name; is_to_name = names.is_to_name; parts = whole } in
    subst (λ (t : Number × List ℕ × List ℕ). IsMoveBody t.0 t.1 t.2 body) same got

pub move_again : (body : List ℕ) (to_dir : Number) (name to_name : List ℕ) → to_dir.0 < 2 ^ 64 → IsMoveBody to_dir name to_name body → move_of body ≡ Ok (to_dir, name, to_name)
unfolding move_of
move_again body to_dir name to_name fits is =
    let rest = name_text name ++ name_text to_name in
    let all : body ≡ u64_bytes to_dir.0 ++ rest = is.parts ∙ append_assoc (u64_bytes to_dir.0) (name_text name) (name_text to_name) in
    let number : u64_at body ≡ to_dir.0 = ap u64_at all ∙ u64_again to_dir.0 rest fits in
    let behind : drop 8 body ≡ rest = ap (drop 8) all ∙ drop_at (u64_bytes to_dir.0) rest 8 (length-u64_bytes to_dir.0) in
    let long : ltb (length body) 8 ≡ false = le-ltb _ _ (omega (arith, ap length all, length-append (u64_bytes to_dir.0) rest, length-u64_bytes to_dir.0)) in
    rw (long, behind, names_again name to_name is.is_name is.is_to_name, number) refl
