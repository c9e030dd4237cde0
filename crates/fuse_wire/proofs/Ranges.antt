-- The body of a READ or a READDIR: what is read has these bytes as its body, and each body is read.
use Rattle.std.proofs.Common.{◌≡◌, ℕ, ◌<◌, ◌^◌, true, eqb, List, ◌++◌, length, take, drop, Ok, refl, sym, ap, subst, ◌∙◌, append_assoc, length-append, length-take, length-drop, arith}
use Rattle.std.proofs.lemmas.Bool.{eqb-true}
use Rattle.std.proofs.lemmas.List.{take-append-drop, drop-drop}
use Rattle.byte_codec.specs.Field.{AreBytes}
use Rattle.byte_codec.proofs.ByteLemmas.{AreBytes-drop}
use Rattle.byte_codec.proofs.StepLemmas.{test_ok, ok_is}
use Rattle.fuse_wire.specs.declared.fault.WireFault.TheVariants.{BadBody}
use Rattle.fuse_wire.specs.Field.{u32_bytes, u64_bytes, u32_at, u64_at, zeros}
use Rattle.fuse_wire.specs.RequestBody.{IsRangeBody, range_body, range_of}
use Rattle.fuse_wire.proofs.Bodies.{yes_eq}
use Rattle.fuse_wire.proofs.Fields.{u32_again, u64_again, u32_front, u64_front}
use Rattle.fuse_wire.proofs.Lengths.{length-u32_bytes, length-u64_bytes, length-zeros}
use Rattle.fuse_wire.proofs.ReplyLaws.{behind}

-- the body that is written
pub range_is_body : (offset size : ℕ) → IsRangeBody offset size (range_body offset size)
range_is_body offset size = record { before = zeros 8; behind = zeros 20; len_before = length-zeros 8; len_behind = length-zeros 20; parts = refl }

-- the parts of a body of forty bytes
range_front : (body : List ℕ) → AreBytes body → length body ≡ 40 →
    (take 8 body ++ u64_bytes (u64_at (drop 8 body)) ++ u32_bytes (u32_at (drop 16 body))) ++ drop 20 body ≡ body
range_front body are len =
    let a = take 8 body in
    let b = u64_bytes (u64_at (drop 8 body)) in
    let c = u32_bytes (u32_at (drop 16 body)) in
    let e16 : c ++ drop 20 body ≡ drop 16 body = ap (λ (t : List ℕ). c ++ t) (sym (drop-drop 4 16 body)) ∙ u32_front (drop 16 body) (AreBytes-drop 16 body are) (omega (arith, length-drop 16 body)) in
    let e8 : b ++ drop 16 body ≡ drop 8 body = ap (λ (t : List ℕ). b ++ t) (sym (drop-drop 8 8 body)) ∙ u64_front (drop 8 body) (AreBytes-drop 8 body are) (omega (arith, length-drop 8 body)) in
    let regrouped : (a ++ b ++ c) ++ drop 20 body ≡ a ++ (b ++ (c ++ drop 20 body)) = simp append_assoc in
    regrouped ∙ ap (λ (t : List ℕ). a ++ (b ++ t)) e16 ∙ ap (λ (t : List ℕ). a ++ t) e8 ∙ take-append-drop 8 body

pub range_found : (body : List ℕ) (offset size : ℕ) → AreBytes body → range_of body ≡ Ok (offset, size) → IsRangeBody offset size body
unfolding range_of
range_found body offset size are e =
    let read : ℕ × ℕ = (u64_at (drop 8 body), u32_at (drop 16 body)) in
    let t = test_ok (eqb (length body) 40) BadBody (Ok read) (offset, size) e in
    let len : length body ≡ 40 = eqb-true _ _ t.0 in
    let same : read ≡ (offset, size) = ok_is read (offset, size) t.1 in
    let got : IsRangeBody read.0 read.1 body = record {
      before = take 8 body;
      behind = drop 20 body;
      len_before = omega (arith, length-take 8 body);
      len_behind = omega (arith, length-drop 20 body);
      parts = sym (range_front body are len);
    } in
    subst (λ (r : ℕ × ℕ). IsRangeBody r.0 r.1 body) same got

pub range_again : (body : List ℕ) (offset size : ℕ) → (offset < 2 ^ 64) × (size < 2 ^ 32) → IsRangeBody offset size body → range_of body ≡ Ok (offset, size)
unfolding range_of
range_again body offset size fits is =
    let r2 = u32_bytes size ++ is.behind in
    let r1 = u64_bytes offset ++ r2 in
    let all : body ≡ is.before ++ r1 = is.parts ∙ simp append_assoc in
    let at8 : drop 8 body ≡ r1 = behind body is.before r1 0 8 8 all is.len_before refl in
    let at16 : drop 16 body ≡ r2 = behind body (u64_bytes offset) r2 8 8 16 at8 (length-u64_bytes offset) refl in
    let len : length body ≡ 40 = ap length all ∙ omega (arith, length-append is.before r1, length-append (u64_bytes offset) r2, length-append (u32_bytes size) is.behind, length-u64_bytes offset, length-u32_bytes size, is.len_before, is.len_behind) in
    let test : eqb (length body) 40 ≡ true = yes_eq _ _ len in
    let offset_is : u64_at (drop 8 body) ≡ offset = ap u64_at at8 ∙ u64_again offset r2 fits.0 in
    let size_is : u32_at (drop 16 body) ≡ size = ap u32_at at16 ∙ u32_again size is.behind fits.1 in
    rw (test, offset_is, size_is) refl
