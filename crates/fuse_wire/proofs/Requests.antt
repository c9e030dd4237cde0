-- Whole requests: the bytes that were read are a text of what is returned, and each text is read.
use Rattle.std.proofs.Common.{◌≡◌, ℕ, ◌+◌, ◌≤◌, true, false, cond, eqb, ltb, List, ◌++◌, length, take, drop, Result, Ok, Err, refl, sym, ap, subst, ◌∙◌, append_assoc, length-append, length-take, length-drop, arith}
use Rattle.std.specs.Prelude.{IfOk}
use Rattle.std.proofs.lemmas.Bool.{ltb-false, le-ltb, eqb-true}
use Rattle.std.proofs.lemmas.List.{drop-drop}
use Rattle.eden_base.specs.declared.number.Number.{Number}
use Rattle.byte_codec.specs.Field.{AreBytes}
use Rattle.byte_codec.proofs.ByteLemmas.{AreBytes-drop}
use Rattle.fuse_wire.specs.declared.request.Ask.{Ask}
use Rattle.fuse_wire.specs.declared.fault.WireFault.{WireFault}
use Rattle.fuse_wire.specs.declared.fault.WireFault.TheVariants.{Short, BadLength}
use Rattle.fuse_wire.specs.declared.header.InHeader.{InHeader}
use Rattle.fuse_wire.specs.declared.request.Opcode.{Opcode}
use Rattle.fuse_wire.specs.Field.{u32_bytes, u64_bytes, u32_at, u64_at}
use Rattle.byte_codec.specs.Reading.{◌>>=◌}
use Rattle.fuse_wire.specs.Reading.{Gives}
use Rattle.fuse_wire.specs.Request.{code, opcode_of, opcode, IsNodeid, IsSendable}
use Rattle.fuse_wire.specs.RequestBody.{what_of}
use Rattle.fuse_wire.specs.RequestReading.{WantsMemory, body_of, fields_of, header_of, request_of}
use Rattle.fuse_wire.specs.RequestText.{header, IsRequestText, FitsAsk}
use Rattle.byte_codec.proofs.StepLemmas.{bind_ok, guard_ok, test_ok, ok_is}
use Rattle.fuse_wire.proofs.Bodies.{yes_eq, parted}
use Rattle.fuse_wire.proofs.Fields.{u32_again, u64_again, u32_below, u32_front, u64_front}
use Rattle.fuse_wire.proofs.RequestKinds.{code-opcode_of, opcode_again, what_found, what_again, nodeid_read, is_sendable}
use Rattle.fuse_wire.proofs.Lengths.{length-u32_bytes, length-u64_bytes}
use Rattle.fuse_wire.proofs.ReplyLaws.{behind}

-- ---- headers

-- the parts of bytes that have a header
pub header_front : (bytes : List ℕ) → AreBytes bytes → 40 ≤ length bytes
    → (header (u32_at bytes) (u32_at (drop 4 bytes)) (u64_at (drop 8 bytes)) (u64_at (drop 16 bytes)) ++ take 16 (drop 24 bytes)) ++ drop 40 bytes ≡ bytes
header_front bytes are long =
    let a = u32_bytes (u32_at bytes) in
    let b = u32_bytes (u32_at (drop 4 bytes)) in
    let c = u64_bytes (u64_at (drop 8 bytes)) in
    let d = u64_bytes (u64_at (drop 16 bytes)) in
    let o = take 16 (drop 24 bytes) in
    let e0 : a ++ drop 4 bytes ≡ bytes = u32_front bytes are (omega arith) in
    let e4 : b ++ drop 8 bytes ≡ drop 4 bytes = ap (λ (t : List ℕ). b ++ t) (sym (drop-drop 4 4 bytes)) ∙ u32_front (drop 4 bytes) (AreBytes-drop 4 bytes are) (omega (arith, length-drop 4 bytes)) in
    let e8 : c ++ drop 16 bytes ≡ drop 8 bytes = ap (λ (t : List ℕ). c ++ t) (sym (drop-drop 8 8 bytes)) ∙ u64_front (drop 8 bytes) (AreBytes-drop 8 bytes are) (omega (arith, length-drop 8 bytes)) in
    let e16 : d ++ drop 24 bytes ≡ drop 16 bytes = ap (λ (t : List ℕ). d ++ t) (sym (drop-drop 8 16 bytes)) ∙ u64_front (drop 16 bytes) (AreBytes-drop 16 bytes are) (omega (arith, length-drop 16 bytes)) in
    let e24 : o ++ drop 40 bytes ≡ drop 24 bytes = parted bytes 24 16 in
    let regrouped : ((((a ++ b) ++ c) ++ d) ++ o) ++ drop 40 bytes ≡ a ++ (b ++ (c ++ (d ++ (o ++ drop 40 bytes)))) = simp append_assoc in
    regrouped ∙ ap (λ (t : List ℕ). a ++ (b ++ (c ++ (d ++ t)))) e24 ∙ ap (λ (t : List ℕ). a ++ (b ++ (c ++ t))) e16 ∙ ap (λ (t : List ℕ). a ++ (b ++ t)) e8 ∙ ap (λ (t : List ℕ). a ++ t) e4 ∙ e0

pub record HeaderIs (bytes : List ℕ) (h : InHeader) : Type 0 where
  pub long : 40 ≤ length bytes
  pub len : u32_at bytes ≡ length bytes
  pub is : h ≡ fields_of bytes

pub header_found : (bytes : List ℕ) (h : InHeader) → header_of bytes ≡ Ok h → HeaderIs bytes h
unfolding header_of
header_found bytes h e =
    let g = guard_ok (ltb (length bytes) 40) Short (cond (eqb (u32_at bytes) (length bytes)) (Ok (fields_of bytes)) (Err BadLength)) h e in
    let t = test_ok (eqb (u32_at bytes) (length bytes)) BadLength (Ok (fields_of bytes)) h g.1 in
    record { long = ltb-false _ _ g.0; len = eqb-true _ _ t.0; is = sym (ok_is (fields_of bytes) h t.1) }

-- ---- whole requests

pub request_found : (bytes : List ℕ) (ask : Ask) → AreBytes bytes → request_of bytes ≡ Ok ask → IsRequestText ask bytes
unfolding request_of fields_of
request_found bytes ask are e =
    let a = bind_ok (header_of bytes) (λ h. what_of (opcode_of h.opcode) h.node (body_of bytes) >>= λ what. Ok (record { unique = h.unique; what = what })) ask e in
    let b = bind_ok (what_of (opcode_of a.0.opcode) a.0.node (body_of bytes)) (λ what. Ok (record { unique = a.0.unique; what = what })) ask a.2 in
    let found = header_found bytes a.0 a.1 in
    let n = u32_at (drop 4 bytes) in
    let opcode_is : a.0.opcode ≡ n = ap (λ (h : InHeader). h.opcode) found.is in
    let unique_is : a.0.unique ≡ u64_at (drop 8 bytes) = ap (λ (h : InHeader). h.unique) found.is in
    let node_is : a.0.node.0 ≡ u64_at (drop 16 bytes) = ap (λ (h : InHeader). h.node.0) found.is in
    let what = what_found (opcode_of a.0.opcode) a.0.node (body_of bytes) b.0 (AreBytes-drop 40 bytes are) (ap opcode_of (code-opcode_of a.0.opcode)) b.1 in
    let code_is : code (opcode b.0) ≡ n = ap code what.opcode_is ∙ code-opcode_of a.0.opcode ∙ opcode_is in
    let made : Ask = record { unique = a.0.unique; what = b.0 } in
    let len : 40 + length (drop 40 bytes) ≡ u32_at bytes = omega (arith, length-drop 40 bytes, found.long, found.len) in
    let text : IsRequestText made bytes = record {
      node = a.0.node.0;
      others = take 16 (drop 24 bytes);
      rest = drop 40 bytes;
      is_nodeid = what.nodeid_is;
      sixteen = omega (arith, length-take 16 (drop 24 bytes), length-drop 24 bytes, found.long);
      len_fits = omega (arith, u32_below bytes are);
      is_body = what.body_is;
      parts = sym (header_front bytes are found.long) ∙ rw (len, code_is, unique_is, node_is) refl;
    } in
    subst (λ (r : Ask). IsRequestText r bytes) (ok_is made ask b.2) text

pub request_again : (ask : Ask) (bytes : List ℕ) → FitsAsk ask → IsRequestText ask bytes → request_of bytes ≡ Ok ask
unfolding request_of header_of fields_of
request_again ask bytes fits is =
    let n = code (opcode ask.what) in
    let r4 = is.others ++ is.rest in
    let r3 = u64_bytes is.node ++ r4 in
    let r2 = u64_bytes ask.unique ++ r3 in
    let r1 = u32_bytes n ++ r2 in
    let len = 40 + length is.rest in
    let all : bytes ≡ u32_bytes len ++ r1 = is.parts ∙ simp append_assoc in
    let at4 : drop 4 bytes ≡ r1 = behind bytes (u32_bytes len) r1 0 4 4 all (length-u32_bytes len) refl in
    let at8 : drop 8 bytes ≡ r2 = behind bytes (u32_bytes n) r2 4 4 8 at4 (length-u32_bytes n) refl in
    let at16 : drop 16 bytes ≡ r3 = behind bytes (u64_bytes ask.unique) r3 8 8 16 at8 (length-u64_bytes ask.unique) refl in
    let at24 : drop 24 bytes ≡ r4 = behind bytes (u64_bytes is.node) r4 16 8 24 at16 (length-u64_bytes is.node) refl in
    let at40 : drop 40 bytes ≡ is.rest = behind bytes is.others is.rest 24 16 40 at24 is.sixteen refl in
    let length_is : length bytes ≡ len = ap length all ∙ omega (arith, length-append (u32_bytes len) r1, length-append (u32_bytes n) r2, length-append (u64_bytes ask.unique) r3, length-append (u64_bytes is.node) r4, length-append is.others is.rest, length-u32_bytes len, length-u32_bytes n, length-u64_bytes ask.unique, length-u64_bytes is.node, is.sixteen) in
    let long : ltb (length bytes) 40 ≡ false = le-ltb _ _ (omega arith) in
    let len_is : u32_at bytes ≡ length bytes = ap u32_at all ∙ u32_again len r1 is.len_fits ∙ sym length_is in
    let same : eqb (u32_at bytes) (length bytes) ≡ true = yes_eq _ _ len_is in
    let code_is : u32_at (drop 4 bytes) ≡ n = ap u32_at at4 ∙ u32_again n r2 fits.opcode_fits in
    let unique_is : u64_at (drop 8 bytes) ≡ ask.unique = ap u64_at at8 ∙ u64_again ask.unique r3 fits.unique in
    let node : Number = record { 0 = u64_at (drop 16 bytes) } in
    let node_is : IsNodeid ask.what node.0 = nodeid_read ask.what is.node node.0 r4 fits.nodeid_fits is.is_nodeid (ap u64_at at16) in
    let what : what_of (opcode_of (u32_at (drop 4 bytes))) node (drop 40 bytes) ≡ Ok ask.what =
    ap (λ (k : ℕ). what_of (opcode_of k) node (drop 40 bytes)) code_is ∙ ap (λ (o : Opcode). what_of o node (drop 40 bytes)) (opcode_again ask.what is.rest is.is_body) ∙ ap (what_of (opcode ask.what) node) at40 ∙ what_again ask.what node is.rest fits.body_fits node_is is.is_body in
    rw (long, same, what, unique_is) refl

-- the bytes that a call read are a text of what it returned
pub is_text : (bytes : List ℕ) (r : Result Ask WireFault) → AreBytes bytes → Gives WantsMemory r (request_of bytes) → IfOk r (λ ask. IsRequestText ask bytes)
is_text bytes (Ok ask) are given = request_found bytes ask are given
is_text bytes (Err fault) are given = tt

pub may_be_sent : (bytes : List ℕ) (r : Result Ask WireFault) → IfOk r (λ ask. IsRequestText ask bytes) → IfOk r (λ ask. IsSendable ask.what)
may_be_sent bytes (Ok ask) text = is_sendable ask.what text.rest text.is_body
may_be_sent bytes (Err fault) text = tt
