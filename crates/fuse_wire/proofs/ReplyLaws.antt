-- A reply that was written is read again as itself.
use Rattle.std.proofs.Common.{◌≡◌, ℕ, ◌+◌, ◌%◌, ◌^◌, ◌<◌, ◌≤◌, ℤ, true, false, List, [], ◌++◌, length, drop, Some, refl, sym, ap, subst, ◌∙◌, append_assoc, length-append, arith}
use Rattle.std.specs.Int.{w32, cast_unsigned}
use Rattle.std.proofs.lemmas.Bool.Decides.{nat_tests}
use Rattle.std.proofs.lemmas.List.{append-nil, drop_at, drop-drop}
use Rattle.eden_base.specs.declared.attr.Attr.{Attr}
use Rattle.eden_base.specs.declared.attr.Kind.{Kind}
use Rattle.eden_base.specs.declared.attr.Kind.TheVariants.{File, Dir, Link}
use Rattle.eden_base.specs.declared.attr.Perm.{Perm}
use Rattle.eden_base.specs.declared.number.Number.{Number}
use Rattle.fuse_wire.specs.declared.reply.Answer.{Answer}
use Rattle.fuse_wire.specs.declared.reply.Answer.TheVariants.{Entry, Opened, Attrs, Done, Buffer, Extent, Error}
use Rattle.fuse_wire.specs.declared.reply.Reply.{Reply}
use Rattle.fuse_wire.specs.Field.{i32_bytes, u32_bytes, u64_bytes, i32_at, u32_at, u64_at, zeros}
use Rattle.fuse_wire.specs.Mode.{perm_of, type_bits}
use Rattle.fuse_wire.specs.ReplyReading.{kind_of, number_at, attr_at, answer_at}
use Rattle.fuse_wire.specs.ReplyText.{error_field, buffer_of, head_payload, is_buffer, is_fixed, mode, attributes, entry, payload, reply_head, reply_header, reply_text, FitsAttr, FitsAnswer, FitsReply}
use Rattle.fuse_wire.proofs.Errors.{error_fits, failure_is}
use Rattle.eden_base.proofs.PermLemmas.{same_perm}
use Rattle.fuse_wire.proofs.Fields.{i32_again, i32_word, u32_again, u64_again}
use Rattle.fuse_wire.proofs.Lengths.{lengths, length-i32_bytes, length-u32_bytes, length-u64_bytes, length-zeros, length-reply_header}

-- ---- modes

kind_of_sum : (kind : Kind) (bits : ℕ) → bits ≤ 4095 → kind_of (type_bits kind + bits) ≡ kind
kind_of_sum File bits le = grind (arith, nat_tests)
kind_of_sum Dir bits le = grind (arith, nat_tests)
kind_of_sum Link bits le = grind (arith, nat_tests)

low_of_sum : (kind : Kind) (bits : ℕ) → bits ≤ 4095 → (type_bits kind + bits) % 4096 ≡ bits
low_of_sum File bits le = omega arith
low_of_sum Dir bits le = omega arith
low_of_sum Link bits le = omega arith

pub kind_again : (attr : Attr) → kind_of (mode attr) ≡ attr.kind
kind_again attr = kind_of_sum attr.kind attr.perm.bits attr.perm.in_range

pub perm_again : (attr : Attr) → perm_of (mode attr) ≡ attr.perm
perm_again attr = same_perm (perm_of (mode attr)) attr.perm (low_of_sum attr.kind attr.perm.bits attr.perm.in_range)

pub mode_fits : (attr : Attr) → mode attr < 2 ^ 32
mode_fits attr = mode_of_fits attr.kind attr.perm.bits attr.perm.in_range where
  mode_of_fits : (kind : Kind) (bits : ℕ) → bits ≤ 4095 → type_bits kind + bits < 2 ^ 32
  mode_of_fits File bits le = omega arith
  mode_of_fits Dir bits le = omega arith
  mode_of_fits Link bits le = omega arith

-- ---- attributes

pub length-attributes : (number : Number) (attr : Attr) → length (attributes number attr) ≡ 88
length-attributes number attr = grind (arith, lengths)

-- a field further on
pub behind : (bytes field rest : List ℕ) (n m k : ℕ) → drop n bytes ≡ field ++ rest → length field ≡ m → n + m ≡ k → drop k bytes ≡ rest
behind bytes field rest n m k e len is = ap (λ (j : ℕ). drop j bytes) (sym is) ∙ sym (drop-drop m n bytes) ∙ ap (drop m) e ∙ drop_at field rest m len

made : ℕ → ℕ → ℕ → Attr
made m size nlink = record { kind = kind_of m; perm = perm_of m; size = size; nlink = nlink }

made_again : (attr : Attr) → made (mode attr) attr.size attr.nlink ≡ attr
unfolding made
made_again attr =
    ap (λ (k : Kind). record { kind = k; perm = perm_of (mode attr); size = attr.size; nlink = attr.nlink }) (kind_again attr)
    ∙ ap (λ (p : Perm). record { kind = attr.kind; perm = p; size = attr.size; nlink = attr.nlink }) (perm_again attr)

pub attributes_again : (number : Number) (attr : Attr) (after : List ℕ) → FitsAttr number attr
    → (number_at (attributes number attr ++ after) ≡ number) × (attr_at (attributes number attr ++ after) ≡ attr)
unfolding attr_at made
attributes_again number attr after fits =
    let bytes = attributes number attr ++ after in
    let ino = u64_bytes number.0 in
    let size = u64_bytes attr.size in
    let word = u32_bytes (mode attr) in
    let nlink = u32_bytes attr.nlink in
    let r5 = zeros 12 ++ (u32_bytes 4096 ++ (zeros 4 ++ after)) in
    let r4 = nlink ++ r5 in
    let r3 = word ++ r4 in
    let r2 = zeros 44 ++ r3 in
    let r1 = size ++ r2 in
    let all : bytes ≡ ino ++ r1 = simp append_assoc in
    let at8 : drop 8 bytes ≡ r1 = behind bytes ino r1 0 8 8 all (length-u64_bytes number.0) refl in
    let at16 : drop 16 bytes ≡ r2 = behind bytes size r2 8 8 16 at8 (length-u64_bytes attr.size) refl in
    let at60 : drop 60 bytes ≡ r3 = behind bytes (zeros 44) r3 16 44 60 at16 (length-zeros 44) refl in
    let at64 : drop 64 bytes ≡ r4 = behind bytes word r4 60 4 64 at60 (length-u32_bytes (mode attr)) refl in
    let n_is : u64_at bytes ≡ number.0 = ap u64_at all ∙ u64_again number.0 r1 fits.number_fits in
    let size_is : u64_at (drop 8 bytes) ≡ attr.size = ap u64_at at8 ∙ u64_again attr.size r2 fits.size_fits in
    let mode_is : u32_at (drop 60 bytes) ≡ mode attr = ap u32_at at60 ∙ u32_again (mode attr) r4 (mode_fits attr) in
    let nlink_is : u32_at (drop 64 bytes) ≡ attr.nlink = ap u32_at at64 ∙ u32_again attr.nlink r5 fits.nlink_fits in
    let same : made (u32_at (drop 60 bytes)) (u64_at (drop 8 bytes)) (u32_at (drop 64 bytes)) ≡ made (mode attr) attr.size attr.nlink =
    ap (λ (x : ℕ). made x (u64_at (drop 8 bytes)) (u32_at (drop 64 bytes))) mode_is ∙ ap (λ (x : ℕ). made (mode attr) x (u32_at (drop 64 bytes))) size_is ∙ ap (made (mode attr) attr.size) nlink_is in
    (ap (λ (x : ℕ). let n : Number = record { 0 = x } in n) n_is, same ∙ made_again attr)

-- ---- whole replies

abbrev header_is : Reply → List ℕ
header_is reply = reply_header (16 + length (payload reply.answer)) (error_field reply.answer) reply.unique

pub payload_fits : (answer : Answer) → length (buffer_of answer) ≤ 65512 → length (payload answer) ≤ 65512
payload_fits (Entry number attr) fits = grind (arith, lengths)
payload_fits (Opened number attr) fits = grind (arith, lengths)
payload_fits (Attrs number attr) fits = grind (arith, lengths)
payload_fits Done fits = grind (arith, lengths)
payload_fits (Buffer bytes) fits = fits
payload_fits (Extent extent) fits = grind (arith, lengths)
payload_fits (Error errno) fits = grind (arith, lengths)

pub length-reply_text : (reply : Reply) → length (reply_text reply) ≡ 16 + length (payload reply.answer)
length-reply_text reply =
    omega (arith, length-append (header_is reply) (payload reply.answer), length-reply_header (16 + length (payload reply.answer)) (error_field reply.answer) reply.unique)

-- without a buffer the head of a reply is the whole of it
pub head_is_whole : (reply : Reply) → is_buffer reply.answer ≡ false → reply_head reply ≡ reply_text reply
head_is_whole reply fixed =
    ap (λ (t : List ℕ). reply_header (16 + length (payload reply.answer)) (error_field reply.answer) reply.unique ++ t) (same reply.answer fixed) where
      same : (answer : Answer) → is_buffer answer ≡ false → head_payload answer ≡ payload answer
      same (Entry number attr) none = refl
      same (Opened number attr) none = refl
      same (Attrs number attr) none = refl
      same Done none = refl
      same (Buffer bytes) none = absurd cc
      same (Extent extent) none = refl
      same (Error errno) none = refl

pub no_buffer : (answer : Answer) → is_fixed answer ≡ true → is_buffer answer ≡ false
no_buffer (Entry number attr) fixed = refl
no_buffer (Opened number attr) fixed = refl
no_buffer (Attrs number attr) fixed = refl
no_buffer Done fixed = refl
no_buffer (Buffer bytes) fixed = absurd cc
no_buffer (Extent extent) fixed = refl
no_buffer (Error errno) fixed = refl

-- what follows the head of a reply is its buffer
pub head_and_buffer : (reply : Reply) → reply_text reply ≡ reply_head reply ++ buffer_of reply.answer
head_and_buffer reply =
    let header = reply_header (16 + length (payload reply.answer)) (error_field reply.answer) reply.unique in
    ap (λ (t : List ℕ). header ++ t) (parts reply.answer) ∙ sym (append_assoc header (head_payload reply.answer) (buffer_of reply.answer)) where
      parts : (answer : Answer) → payload answer ≡ head_payload answer ++ buffer_of answer
      parts (Entry number attr) = sym (append-nil (entry number attr))
      parts (Opened number attr) = sym (append-nil (entry number attr ++ zeros 16))
      parts (Attrs number attr) = sym (append-nil (zeros 16 ++ attributes number attr))
      parts Done = refl
      parts (Buffer bytes) = refl
      parts (Extent extent) = refl
      parts (Error errno) = refl

-- the fields of the header
pub record HeaderIs (reply : Reply) (bytes : List ℕ) : Type 0 where
  pub len : u32_at bytes ≡ 16 + length (payload reply.answer)
  pub error : i32_at (drop 4 bytes) ≡ error_field reply.answer
  pub word : u32_at (drop 4 bytes) ≡ cast_unsigned w32 (error_field reply.answer)
  pub unique : u64_at (drop 8 bytes) ≡ reply.unique
  pub rest : drop 16 bytes ≡ payload reply.answer

pub header_again : (reply : Reply) → FitsReply reply → HeaderIs reply (reply_text reply)
header_again reply fits =
    let bytes = reply_text reply in
    let rest = payload reply.answer in
    let len = 16 + length rest in
    let error = error_field reply.answer in
    let r2 = u64_bytes reply.unique ++ rest in
    let r1 = i32_bytes error ++ r2 in
    let all : bytes ≡ u32_bytes len ++ r1 = simp append_assoc in
    let at4 : drop 4 bytes ≡ r1 = behind bytes (u32_bytes len) r1 0 4 4 all (length-u32_bytes len) refl in
    let at8 : drop 8 bytes ≡ r2 = behind bytes (i32_bytes error) r2 4 4 8 at4 (length-i32_bytes error) refl in
    let at16 : drop 16 bytes ≡ rest = behind bytes (u64_bytes reply.unique) rest 8 8 16 at8 (length-u64_bytes reply.unique) refl in
    let short : len < 2 ^ 32 = omega (arith, payload_fits reply.answer fits.1.1) in
    record {
      len = ap u32_at all ∙ u32_again len r1 short;
      error = ap i32_at at4 ∙ i32_again error r2 (error_fits reply.answer);
      word = ap u32_at at4 ∙ i32_word error r2 (error_fits reply.answer);
      unique = ap u64_at at8 ∙ u64_again reply.unique rest fits.0;
      rest = at16;
    }

-- attributes at an offset of a payload
attributes_at : (bytes before : List ℕ) (number : Number) (attr : Attr) (after : List ℕ) (n k : ℕ) → drop 16 bytes ≡ before ++ (attributes number attr ++ after) → length before ≡ n → 16 + n ≡ k → FitsAttr number attr
    → (number_at (drop k bytes) ≡ number) × (attr_at (drop k bytes) ≡ attr)
attributes_at bytes before number attr after n k rest len is fits =
    let there : drop k bytes ≡ attributes number attr ++ after = behind bytes before (attributes number attr ++ after) 16 n k rest len is in
    rw there (attributes_again number attr after fits)

answer_is : (answer : Answer) (bytes : List ℕ) → is_fixed answer ≡ true → FitsAnswer answer → length bytes ≡ 16 + length (payload answer) → drop 16 bytes ≡ payload answer → answer_at (error_field answer) bytes ≡ Some answer
unfolding answer_at
answer_is (Entry number attr) bytes fixed fits len rest =
    let regrouped : entry number attr ≡ (u64_bytes number.0 ++ zeros 32) ++ (attributes number attr ++ []) = ap (λ (t : List ℕ). (u64_bytes number.0 ++ zeros 32) ++ t) (sym (append-nil (attributes number attr))) in
    let forty : length (u64_bytes number.0 ++ zeros 32) ≡ 40 = omega (arith, length-append (u64_bytes number.0) (zeros 32), length-u64_bytes number.0, length-zeros 32) in
    let there = attributes_at bytes (u64_bytes number.0 ++ zeros 32) number attr [] 40 56 (rest ∙ regrouped) forty refl fits in
    let long : length bytes ≡ 144 = omega (arith, length-append (u64_bytes number.0 ++ zeros 32) (attributes number attr), length-attributes number attr) in
    rw (long, there.0, there.1) refl
answer_is (Opened number attr) bytes fixed fits len rest =
    let regrouped : entry number attr ++ zeros 16 ≡ (u64_bytes number.0 ++ zeros 32) ++ (attributes number attr ++ zeros 16) = append_assoc (u64_bytes number.0 ++ zeros 32) (attributes number attr) (zeros 16) in
    let forty : length (u64_bytes number.0 ++ zeros 32) ≡ 40 = omega (arith, length-append (u64_bytes number.0) (zeros 32), length-u64_bytes number.0, length-zeros 32) in
    let there = attributes_at bytes (u64_bytes number.0 ++ zeros 32) number attr (zeros 16) 40 56 (rest ∙ regrouped) forty refl fits in
    let long : length bytes ≡ 160 = omega (arith, length-append (entry number attr) (zeros 16), length-zeros 16, length-append (u64_bytes number.0 ++ zeros 32) (attributes number attr), length-attributes number attr) in
    rw (long, there.0, there.1) refl
answer_is (Attrs number attr) bytes fixed fits len rest =
    let regrouped : zeros 16 ++ attributes number attr ≡ zeros 16 ++ (attributes number attr ++ []) = ap (λ (t : List ℕ). zeros 16 ++ t) (sym (append-nil (attributes number attr))) in
    let there = attributes_at bytes (zeros 16) number attr [] 16 32 (rest ∙ regrouped) (length-zeros 16) refl fits in
    let long : length bytes ≡ 120 = omega (arith, length-append (zeros 16) (attributes number attr), length-zeros 16, length-attributes number attr) in
    rw (long, there.0, there.1) refl
answer_is Done bytes fixed fits len rest = let long : length bytes ≡ 16 = omega arith in rw long refl
answer_is (Buffer buffer) bytes fixed fits len rest = absurd cc
answer_is (Extent extent) bytes fixed fits len rest = absurd cc
answer_is (Error errno) bytes fixed fits len rest = failure_is errno bytes

-- what is read of the text of a reply
pub record ReadAs (reply : Reply) (bytes : List ℕ) : Type 0 where
  pub long : 16 ≤ length bytes
  pub len : u32_at bytes ≡ length bytes
  pub unique : u64_at (drop 8 bytes) ≡ reply.unique
  pub answer : answer_at (i32_at (drop 4 bytes)) bytes ≡ Some reply.answer

pub reply_again : (reply : Reply) (bytes : List ℕ) → is_fixed reply.answer ≡ true → FitsReply reply → bytes ≡ reply_text reply → ReadAs reply bytes
reply_again reply bytes fixed fits is =
    let header : HeaderIs reply bytes = subst (HeaderIs reply) (sym is) (header_again reply fits) in
    let len : length bytes ≡ 16 + length (payload reply.answer) = ap length is ∙ length-reply_text reply in
    record {
      long = omega arith;
      len = header.len ∙ sym len;
      unique = header.unique;
      answer = ap (λ (e : ℤ). answer_at e bytes) header.error ∙ answer_is reply.answer bytes fixed fits.1.0 len header.rest;
    }
