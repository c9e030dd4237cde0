-- Readers of a field: more bytes after it change nothing of what was read, nor of a fault but `Short`.
use Rattle.std.proofs.Common.{◌≡◌, ℕ, ◌≤◌, Bool, true, false, cond, ltb, List, [], ◌∷◌, ◌++◌, length, take, drop, Some, Result, Ok, Err, ◌⊎◌, inl, inr, refl, sym, ap, ◌∙◌, length-append, arith}
use Rattle.std.specs.Int.{Width, byte_len}
use Rattle.std.specs.Cmp.Lexicographic.{pointwise}
use Rattle.std.proofs.Common.{nat_eq}
use Rattle.std.proofs.lemmas.Bool.{ltb-false, le-ltb}
use Rattle.std.proofs.lemmas.List.{take-append-le, drop-append-le}
use Rattle.byte_codec.specs.Field.{number_in}
use Rattle.byte_codec.specs.Reading.{◌>>=◌, byte_at, bytes_at, number_at}
use Rattle.byte_codec.proofs.StepLemmas.{bind_ok, guard_is, ok_is}
use Rattle.map_image.specs.declared.fault.ImageFault.{ImageFault}
use Rattle.map_image.specs.declared.fault.ImageFault.TheVariants.{BadMagic, Short}
use Rattle.map_image.specs.Feeding.{lasting}
use Rattle.map_image.specs.ImageText.{magic}
use Rattle.map_image.specs.ImageReading.{magic_at}

-- a reader of one field
abbrev pub Reader : Type 0 → Type 0
Reader X = List ℕ → Result (X × List ℕ) ImageFault

-- a fault that more bytes leave standing
pub record Lasts {X : Type 0} (read : Reader X) (bytes : List ℕ) (fault : ImageFault) : Type 0 where
  pub lasts : lasting fault ≡ Some fault
  pub fails : (more : List ℕ) → read (bytes ++ more) ≡ Err fault

pub record IsSteady {X : Type 0} (read : Reader X) : Type 0 where
  pub stays : (bytes : List ℕ) (x : X × List ℕ) → read bytes ≡ Ok x → (more : List ℕ) → read (bytes ++ more) ≡ Ok (x.0, x.1 ++ more)
  pub fault : (bytes : List ℕ) (fault : ImageFault) → read bytes ≡ Err fault → (fault ≡ Short) ⊎ Lasts read bytes fault

-- ---- how readers are joined

-- a step that failed, or the one after it
bind_err : {F A B : Type 0} (r : Result A F) (f : A → Result B F) (fault : F) → (r >>= f) ≡ Err fault → (r ≡ Err fault) ⊎ ((x : A) × (r ≡ Ok x) × (f x ≡ Err fault))
bind_err (Ok x) f fault e = inr (x, refl, e)
bind_err {F = F} (Err other) f fault e = let same : other ≡ fault = cc in inl (ap (λ (f : F). Err f) same)

pub steady_bind : {A B : Type 0} (r : Reader A) (f : A → Reader B) → IsSteady r → ((a : A) → IsSteady (f a)) → IsSteady (λ (bytes : List ℕ). r bytes >>= λ a. f a.0 a.1)
steady_bind {A = A} {B = B} r f first then = record {
  stays = λ bytes x e more.
      let b = bind_ok (r bytes) (λ a. f a.0 a.1) x e in
      rw (first.stays bytes b.0 b.1 more) ((then b.0.0).stays b.0.1 x b.2 more);
  fault = λ bytes fault e.
      elim (bind_err (r bytes) (λ a. f a.0 a.1) fault e) [
        | inl failed ↦ elim (first.fault bytes fault failed) [
          | inl short ↦ inl short
          | inr stands ↦ inr (record { lasts = stands.lasts; fails = λ more. rw (stands.fails more) refl })
        ]
        | inr b ↦ elim ((then b.0.0).fault b.0.1 fault b.2) [
          | inl short ↦ inl short
          | inr stands ↦ inr (record { lasts = stands.lasts; fails = λ more. rw (first.stays bytes b.0 b.1 more) (stands.fails more) })
        ]
      ];
}

-- a reader that reads nothing is steady
pub steady_ok : {X : Type 0} (x : X) → IsSteady (λ (bytes : List ℕ). Ok (x, bytes))
steady_ok {X = X} x = record {
  stays = λ bytes y e more. let same : (x, bytes) ≡ y = ok_is {F = ImageFault} (x, bytes) y e in ap (λ (y : X × List ℕ). Ok (y.0, y.1 ++ more)) same;
  fault = λ bytes fault e. absurd cc;
}

pub steady_err : {X : Type 0} (fault : ImageFault) → lasting fault ≡ Some fault → IsSteady {X = X} (λ (bytes : List ℕ). Err fault)
steady_err {X = X} fault lasts = record {
  stays = λ bytes y e more. absurd cc;
  fault = λ bytes other e. let same : fault ≡ other = cc in inr (record { lasts = rw (sym same) lasts; fails = λ more. ap (λ (f : ImageFault). Err f) same });
}

pub steady_cond : {X : Type 0} (b : Bool) (r s : Reader X) → IsSteady r → IsSteady s → IsSteady (λ (bytes : List ℕ). cond b (r bytes) (s bytes))
steady_cond true r s one other = one
steady_cond false r s one other = other

-- readers that agree
pub steady_as : {X : Type 0} (r s : Reader X) → ((bytes : List ℕ) → r bytes ≡ s bytes) → IsSteady r → IsSteady s
steady_as r s same is = record {
  stays = λ bytes x e more. sym (same (bytes ++ more)) ∙ is.stays bytes x (same bytes ∙ e) more;
  fault = λ bytes fault e. elim (is.fault bytes fault (same bytes ∙ e)) [
    | inl short ↦ inl short
    | inr stands ↦ inr (record { lasts = stands.lasts; fails = λ more. sym (same (bytes ++ more)) ∙ stands.fails more })
  ];
}

-- ---- fields

cut_off : {X : Type 0} (b : Bool) (x : X) (fault : ImageFault) → cond b (Err Short) (Ok x) ≡ Err fault → fault ≡ Short
cut_off true x fault e = cc
cut_off false x fault e = absurd cc

pub steady_bytes : (n : ℕ) → IsSteady (bytes_at Short n)
unfolding bytes_at
steady_bytes n = record {
  stays = λ bytes x e more.
      let g = guard_is (ltb (length bytes) n) Short (take n bytes, drop n bytes) x e in
      let long : n ≤ length bytes = ltb-false _ _ g.0 in
      let longer = le-ltb (length (bytes ++ more)) n (omega (arith, length-append bytes more)) in
      let same : (take n bytes, drop n bytes) ≡ x = g.1 in
      rw (longer, take-append-le n bytes more long, drop-append-le n bytes more long) (ap (λ (y : List ℕ × List ℕ). Ok (y.0, y.1 ++ more)) same);
  fault = λ bytes fault e. inl (cut_off (ltb (length bytes) n) (take n bytes, drop n bytes) fault e);
}

pub steady_byte : IsSteady (byte_at Short)
unfolding byte_at
steady_byte = record { stays = stays_; fault = fault_ } where
  stays_ : (bytes : List ℕ) (x : ℕ × List ℕ) → byte_at Short bytes ≡ Ok x → (more : List ℕ) → byte_at Short (bytes ++ more) ≡ Ok (x.0, x.1 ++ more)
  stays_ [] x e more = absurd cc
  stays_ (b ∷ rest) x e more = let same : (b, rest) ≡ x = ok_is {F = ImageFault} (b, rest) x e in ap (λ (y : ℕ × List ℕ). Ok (y.0, y.1 ++ more)) same

  fault_ : (bytes : List ℕ) (fault : ImageFault) → byte_at Short bytes ≡ Err fault → (fault ≡ Short) ⊎ Lasts (byte_at Short) bytes fault
  fault_ [] fault e = inl (cc)
  fault_ (b ∷ rest) fault e = absurd cc

pub steady_number : (width : Width) → IsSteady (number_at Short width)
unfolding number_at
steady_number width = steady_bind (bytes_at Short (byte_len width)) (λ field rest. Ok (number_in width field, rest)) (steady_bytes (byte_len width)) (λ field. steady_ok (number_in width field))

-- what follows `EDTK` is read, where that is there
abbrev behind_magic : {X : Type 0} → Reader X → List ℕ → Reader X
behind_magic r field rest = cond (pointwise nat_eq field magic) (r rest) (Err BadMagic)

test_first : {X : Type 0} (r : Reader X) (b : Bool) (rest : List ℕ) → cond b (r rest) (Err BadMagic) ≡ (cond b (Ok rest) (Err BadMagic) >>= r)
test_first r true rest = refl
test_first r false rest = refl

magic_first : {X : Type 0} (r : Reader X) (field : Result (List ℕ × List ℕ) ImageFault) → (field >>= λ f. behind_magic r f.0 f.1) ≡ ((field >>= λ f. cond (pointwise nat_eq f.0 magic) (Ok f.1) (Err BadMagic)) >>= r)
magic_first r (Ok f) = test_first r (pointwise nat_eq f.0 magic) f.1
magic_first r (Err fault) = refl

pub steady_magic : {X : Type 0} (r : Reader X) → IsSteady r → IsSteady (λ (bytes : List ℕ). magic_at bytes >>= r)
unfolding magic_at
steady_magic r is =
    steady_as (λ (bytes : List ℕ). bytes_at Short 4 bytes >>= λ field. behind_magic r field.0 field.1) (λ (bytes : List ℕ). magic_at bytes >>= r) (λ bytes. magic_first r (bytes_at Short 4 bytes))
    (steady_bind (bytes_at Short 4) (behind_magic r) (steady_bytes 4) (λ field. steady_cond (pointwise nat_eq field magic) r (λ rest. Err BadMagic) is (steady_err BadMagic refl)))
