-- Bytes of a stream that are taken in one by one, or many of a body at once.
use Rattle.std.proofs.Common.{◌≡◌, ℕ, zero, suc, ◌+◌, ◌-◌, ◌<◌, ◌≤◌, Bool, true, false, ◌||◌, ◌&&◌, List, [], ◌∷◌, ◌++◌, length, take, drop, length-take, refl, sym, ap, ◌∙◌, append_assoc, arith}
use Rattle.std.specs.Prelude.{◌==◌, ◌*◌, nat_lt, slice_index, if◌then◌else◌}
use Rattle.std.proofs.lemmas.List.{append-nil, take-append-drop}
use Rattle.std.proofs.lemmas.Bool.Decides.{nat_tests}
use Rattle.sockets.specs.declared.passage.Passage.{Passage}
use Rattle.sockets.specs.Passage.{ends_in, is_between, lengthened, capped, passed, passed_all, PassesSome}

-- with fewer bytes still to come
abbrev pub less : Passage → ℕ → Passage
less passage count = record passage { left = passage.left - count }

-- a byte of a body
body-passed : (p : Passage) (byte : ℕ) → 0 < p.left → passed p byte ≡ less p 1
body-passed p byte some =
    let test : nat_lt 0 p.left ≡ true = grind (arith, nat_tests) in
    ap (λ (b : Bool). if b then less p 1 else lengthened (capped (p.came + 1)) (capped (capped (p.len * 256) + byte))) test

less-less : (p : Passage) (m n k : ℕ) → p.left - m - n ≡ p.left - k → less (less p m) n ≡ less p k
less-less p m n k e = ap (λ (left : ℕ). record p { left = left }) e

-- bytes of a body
pub body-passed_all : (bytes : List ℕ) (p : Passage) → length bytes ≤ p.left → passed_all p bytes ≡ less p (length bytes)
body-passed_all [] p le = ap (λ (left : ℕ). record p { left = left }) (omega arith)
body-passed_all (byte ∷ bytes) p le =
    ap (λ (q : Passage). passed_all q bytes) (body-passed p byte (omega arith))
    ∙ body-passed_all bytes (less p 1) (omega arith)
    ∙ less-less p 1 (length bytes) (suc (length bytes)) (omega arith)

-- within a body no frame ends
within : (p : Passage) → 0 < p.left → is_between p ≡ false
within p some = in_ (p.came == 0) (let test : (p.left == 0) ≡ false = grind (arith, nat_tests) in test) where
  in_ : (b : Bool) → (p.left == 0) ≡ false → (b && p.left == 0) ≡ false
  in_ true e = e
  in_ false e = refl

or-false : (b : Bool) → (b || false) ≡ b
or-false true = refl
or-false false = refl

pub body-ends : (bytes : List ℕ) (p : Passage) → 0 < length bytes → length bytes ≤ p.left → ends_in p bytes ≡ is_between (less p (length bytes))
body-ends [] p some le = absurd (omega arith)
body-ends (byte ∷ []) p some le =
    ap (λ (q : Passage). is_between q || false) (body-passed p byte (omega arith)) ∙ or-false (is_between (less p 1))
body-ends (byte ∷ next ∷ bytes) p some le =
    ap (λ (q : Passage). is_between q || ends_in q (next ∷ bytes)) (body-passed p byte (omega arith))
    ∙ ap (λ (b : Bool). b || ends_in (less p 1) (next ∷ bytes)) (within (less p 1) (omega arith))
    ∙ body-ends (next ∷ bytes) (less p 1) (omega arith) (omega arith)
    ∙ ap is_between (less-less p 1 (length (next ∷ bytes)) (suc (length (next ∷ bytes))) (omega arith))

-- what isn't 0 is above it
pub above-zero : (n : ℕ) → (n ≡ 0 → ⊥) → 0 < n
above-zero zero not = absurd (not refl)
above-zero (suc n) not = omega arith

-- one byte
pub one-passes : (old new : Passage) (bytes : List ℕ) → 0 < length bytes → new ≡ passed old (slice_index bytes 0) → PassesSome old bytes new (drop 1 bytes)
one-passes old new [] some e = absurd (omega arith)
one-passes old new (byte ∷ bytes) some e = record {
  taken = byte ∷ [];
  some = omega arith;
  parts = refl;
  passes = e;
  ends = or-false (is_between (passed old byte)) ∙ ap is_between (sym e);
}

-- bytes of a body
pub body-passes : (old new : Passage) (bytes : List ℕ) (count : ℕ) → 0 < count → count ≤ length bytes → count ≤ old.left → new ≡ less old count → PassesSome old bytes new (drop count bytes)
body-passes old new bytes count some within_bytes within_body e =
    let len : length (take count bytes) ≡ count = omega (arith, length-take count bytes) in record {
      taken = take count bytes;
      some = omega arith;
      parts = sym (take-append-drop count bytes);
      passes = e ∙ ap (less old) (sym len) ∙ sym (body-passed_all (take count bytes) old (omega arith));
      ends = body-ends (take count bytes) old (omega arith) (omega arith) ∙ ap (λ (n : ℕ). is_between (less old n)) len ∙ ap is_between (sym e);
    }

-- ---- some bytes, and then some more

pub passed_all-append : (xs ys : List ℕ) (p : Passage) → passed_all p (xs ++ ys) ≡ passed_all (passed_all p xs) ys
passed_all-append [] ys p = refl
passed_all-append (x ∷ xs) ys p = passed_all-append xs ys (passed p x)

pub ends_in-append : (xs ys : List ℕ) (p : Passage) → ends_in p (xs ++ ys) ≡ (ends_in p xs || ends_in (passed_all p xs) ys)
ends_in-append [] ys p = refl
ends_in-append (x ∷ xs) ys p = ap (λ (b : Bool). is_between (passed p x) || b) (ends_in-append xs ys (passed p x)) ∙ or-or (is_between (passed p x)) (ends_in (passed p x) xs) (ends_in (passed_all (passed p x) xs) ys) where
  or-or : (a b c : Bool) → (a || (b || c)) ≡ ((a || b) || c)
  or-or true b c = refl
  or-or false b c = refl

-- the first of these bytes were taken in, and `ended` says whether a frame ended in them
pub record Took (old : Passage) (bytes : List ℕ) (now : Passage) (left : List ℕ) (ended : Bool) : Type 0 where
  pub taken : List ℕ
  pub parts : bytes ≡ taken ++ left
  pub passes : now ≡ passed_all old taken
  pub ends : ended ≡ ends_in old taken

pub took-none : (old : Passage) (bytes : List ℕ) → Took old bytes old bytes false
took-none old bytes = record { taken = []; parts = refl; passes = refl; ends = refl }

pub took-more : (old now next : Passage) (bytes left rest : List ℕ) (ended : Bool) → Took old bytes now left ended → PassesSome now left next rest → Took old bytes next rest (ended || is_between next)
took-more old now next bytes left rest ended t s = record {
  taken = t.taken ++ s.taken;
  parts = t.parts ∙ ap (λ (l : List ℕ). t.taken ++ l) s.parts ∙ sym (append_assoc t.taken s.taken rest);
  passes = s.passes ∙ ap (λ (p : Passage). passed_all p s.taken) t.passes ∙ sym (passed_all-append t.taken s.taken old);
  ends = ap (λ (b : Bool). b || is_between next) t.ends
      ∙ ap (λ (b : Bool). ends_in old t.taken || b) (sym s.ends ∙ ap (λ (p : Passage). ends_in p s.taken) t.passes)
      ∙ sym (ends_in-append t.taken s.taken old);
}

-- all of them
pub took-all : (old now : Passage) (bytes : List ℕ) (ended : Bool) → Took old bytes now [] ended → (now ≡ passed_all old bytes) × (ended ≡ ends_in old bytes)
took-all old now bytes ended t =
    let all : t.taken ≡ bytes = sym (t.parts ∙ append-nil t.taken) in
    (t.passes ∙ ap (passed_all old) all, t.ends ∙ ap (ends_in old) all)
