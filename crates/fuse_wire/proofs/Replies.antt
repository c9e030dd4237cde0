-- A reply, read as a whole.
use Rattle.std.proofs.Common.{rules, ◌+◌, ap, ◌≡◌, ◌≢◌, ◌↔◌, ℕ, ◌≤◌, ◌<◌, Bool, true, false, cond, eqb, ltb, ℤ, List, length, drop, Option, Some, None, Result, Ok, Err, IfOk, IfErr, IsErrOf, refl, sym, subst, ◌∙◌, arith}
use Rattle.std.specs.Bool.{Decides}
use Rattle.std.specs.Int.{w32, cast_unsigned}
use Rattle.std.specs.Str.{bytes_eq}
use Rattle.std.proofs.lemmas.Bool.{ltb-true, ltb-false, le-ltb, eqb-true}
use Rattle.std.proofs.lemmas.Bool.Decides.{nat_tests}
use Rattle.std.proofs.lemmas.Slice.Eq.{bytes_eq-Decides}
use Rattle.eden_base.specs.declared.errno.Errno.{Errno}
use Rattle.eden_base.specs.declared.errno.Errno.TheVariants.{ENOENT, EIO, ENOMEM, EEXIST, ENOTDIR, EISDIR, EINVAL, ENOSPC, ENAMETOOLONG, ENOSYS, ENOTEMPTY, EOVERFLOW, ESTALE}
use Rattle.fuse_wire.specs.declared.fault.WireFault.{WireFault}
use Rattle.fuse_wire.specs.declared.fault.WireFault.TheVariants.{Short, BadLength, BadBody}
use Rattle.fuse_wire.specs.declared.form.Form.TheVariants.{ABuffer}
use Rattle.fuse_wire.specs.declared.reply.Answer.{Answer}
use Rattle.fuse_wire.specs.declared.reply.Answer.TheVariants.{Entry, Opened, Attrs, Done, Buffer, Extent, Error}
use Rattle.fuse_wire.specs.declared.reply.Reply.{Reply}
use Rattle.fuse_wire.specs.Field.{i32_at, u32_at, u64_at}
use Rattle.fuse_wire.specs.Form.{belongs}
use Rattle.fuse_wire.specs.ReplyReading.{answer_at, buffer_reply_of, if_spelled, is_success, reply_with, reply_of, IsReplyFault}
use Rattle.fuse_wire.specs.ReplyText.{error_field, is_fixed, reply_text, FitsReply}
use Rattle.fuse_wire.proofs.Bodies.{yes_eq}
use Rattle.fuse_wire.proofs.ReplyLaws.{header_again, length-reply_text, reply_again, HeaderIs}

-- bytes with a whole header whose answer is found
pub answered : (bytes : List ℕ) (unique : ℕ) (error : ℤ) (answer : Answer) → 16 ≤ length bytes → u32_at bytes ≡ length bytes → i32_at (drop 4 bytes) ≡ error → u64_at (drop 8 bytes) ≡ unique → answer_at error bytes ≡ Some answer
    → reply_of bytes ≡ if_spelled (record { unique = unique; answer = answer }) bytes
unfolding reply_of
answered bytes unique error answer long len is_error is_unique found =
    let whole : ltb (length bytes) 16 ≡ false = le-ltb _ _ long in
    let same : eqb (u32_at bytes) (length bytes) ≡ true = yes_eq _ _ len in
    rw (whole, same, is_error, is_unique, found) refl

-- a text is read as its reply
pub text_again : (reply : Reply) (bytes : List ℕ) → is_fixed reply.answer ≡ true → FitsReply reply → bytes ≡ reply_text reply → reply_of bytes ≡ Ok reply
text_again reply bytes fixed fits is =
    let read = reply_again reply bytes fixed fits is in
    let same : bytes_eq bytes (reply_text reply) ≡ true = grind (arith, bytes_eq-Decides) in
    answered bytes reply.unique (i32_at (drop 4 bytes)) reply.answer read.long read.len refl read.unique read.answer ∙ rw same refl

-- ---- a reply where a buffer was asked for

-- no error is the number 0
fails : (errno : Errno) → eqb (cast_unsigned w32 (error_field (Error errno))) 0 ≡ false
fails ENOENT = refl
fails EIO = refl
fails ENOMEM = refl
fails EEXIST = refl
fails ENOTDIR = refl
fails EISDIR = refl
fails EINVAL = refl
fails ENOSPC = refl
fails ENAMETOOLONG = refl
fails ENOSYS = refl
fails ENOTEMPTY = refl
fails EOVERFLOW = refl
fails ESTALE = refl

reply_is : ℕ → Answer → Reply
reply_is unique answer = record { unique = unique; answer = answer }

buffer_of_text : (unique : ℕ) (answer : Answer) (bytes : List ℕ) → belongs ABuffer answer ≡ true → FitsReply (reply_is unique answer)
    → bytes ≡ reply_text (reply_is unique answer) → buffer_reply_of bytes ≡ Ok (reply_is unique answer)
unfolding reply_is
buffer_of_text unique (Buffer buffer) bytes may fits is =
    let reply = reply_is unique (Buffer buffer) in
    let header : HeaderIs reply bytes = subst (HeaderIs reply) (sym is) (header_again reply fits) in
    let len : length bytes ≡ 16 + length buffer = ap length is ∙ length-reply_text reply in
    let short : length buffer ≤ 65512 = fits.1.1 in
    let whole : ltb 15 (length bytes) ≡ true = grind (arith, nat_tests) in
    let few : ltb (length bytes) 65529 ≡ true = grind (arith, nat_tests) in
    let same : eqb (u32_at bytes) (length bytes) ≡ true = yes_eq _ _ (header.len ∙ sym len) in
    let no_error : eqb (u32_at (drop 4 bytes)) 0 ≡ true = yes_eq _ _ header.word in
    rw (whole, few, same, no_error, header.unique, header.rest) refl
buffer_of_text unique (Error errno) bytes may fits is =
    let reply = reply_is unique (Error errno) in
    let header : HeaderIs reply bytes = subst (HeaderIs reply) (sym is) (header_again reply fits) in
    let error : eqb (u32_at (drop 4 bytes)) 0 ≡ false = ap (λ (k : ℕ). eqb k 0) header.word ∙ fails errno in
    let none : is_success bytes ≡ false = search rules in
    rw none (text_again reply bytes refl fits is)
buffer_of_text unique (Entry number attr) bytes may fits is = absurd cc
buffer_of_text unique (Opened number attr) bytes may fits is = absurd cc
buffer_of_text unique (Attrs number attr) bytes may fits is = absurd cc
buffer_of_text unique Done bytes may fits is = absurd cc
buffer_of_text unique (Extent extent) bytes may fits is = absurd cc

-- the text of a reply with a buffer, or an error in its place, is read as its reply
pub buffer_again : (reply : Reply) (bytes : List ℕ) → belongs ABuffer reply.answer ≡ true → FitsReply reply → bytes ≡ reply_text reply → buffer_reply_of bytes ≡ Ok reply
unfolding reply_is
buffer_again reply bytes may fits is = buffer_of_text reply.unique reply.answer bytes may fits is

-- ---- the bytes that were read are the text of what is returned; and the faults

-- what the clauses of a reading say
pub record IsReading (bytes : List ℕ) (r : Result Reply WireFault) : Type 0 where
  pub text : IfOk r (λ reply. bytes ≡ reply_text reply)
  pub short : IsErrOf r Short ↔ (length bytes < 16)
  pub bad_length : IsErrOf r BadLength ↔ ((16 ≤ length bytes) × (u32_at bytes ≢ length bytes))
  pub no_others : IfErr r IsReplyFault

bad_body : (bytes : List ℕ) → 16 ≤ length bytes → u32_at bytes ≡ length bytes → IsReading bytes (Err BadBody)
bad_body bytes long len = record { text = tt; short = (λ e. absurd cc, λ lt. absurd (omega arith)); bad_length = (λ e. absurd cc, λ b. absurd (b.1 len)); no_others = tt }

reading_if : (bytes : List ℕ) (reply : Reply) (b : Bool) → Decides b (bytes ≡ reply_text reply) → 16 ≤ length bytes → u32_at bytes ≡ length bytes → IsReading bytes (cond b (Ok reply) (Err BadBody))
reading_if bytes reply true is long len = record { text = is.0 refl; short = (λ e. absurd cc, λ lt. absurd (omega arith)); bad_length = (λ e. absurd cc, λ b. absurd (b.1 len)); no_others = tt }
reading_if bytes reply false is long len = bad_body bytes long len

reading_with : (bytes : List ℕ) (unique : ℕ) (answer : Option Answer) → 16 ≤ length bytes → u32_at bytes ≡ length bytes → IsReading bytes (reply_with unique answer bytes)
reading_with bytes unique (Some answer) long len =
    let reply : Reply = record { unique = unique; answer = answer } in reading_if bytes reply (bytes_eq bytes (reply_text reply)) (bytes_eq-Decides bytes (reply_text reply)) long len
reading_with bytes unique None long len = bad_body bytes long len

reading_whole : (bytes : List ℕ) (unique : ℕ) (answer : Option Answer) (same : Bool) → eqb (u32_at bytes) (length bytes) ≡ same → 16 ≤ length bytes → IsReading bytes (cond same (reply_with unique answer bytes) (Err BadLength))
reading_whole bytes unique answer true e long = reading_with bytes unique answer long (eqb-true _ _ e)
reading_whole bytes unique answer false e long = record {
  text = tt;
  short = (λ e. absurd cc, λ lt. absurd (omega arith));
  bad_length = (λ r. (long, λ len. let yes = yes_eq (u32_at bytes) (length bytes) len in absurd cc), λ b. refl);
  no_others = tt;
}

reading_of : (bytes : List ℕ) (rest : Result Reply WireFault) (short : Bool) → ltb (length bytes) 16 ≡ short → (16 ≤ length bytes → IsReading bytes rest) → IsReading bytes (cond short (Err Short) rest)
reading_of bytes rest true e given = record {
  text = tt;
  short = (λ r. ltb-true _ _ e, λ lt. refl);
  bad_length = (λ r. absurd cc, λ b. let lt : length bytes < 16 = ltb-true _ _ e in absurd (omega arith));
  no_others = tt;
}
reading_of bytes rest false e given = given (ltb-false _ _ e)

pub reading_is : (bytes : List ℕ) (r : Result Reply WireFault) → r ≡ reply_of bytes → IsReading bytes r
unfolding reply_of
reading_is bytes r is =
    subst (IsReading bytes) (sym is) (reading_of bytes _ (ltb (length bytes) 16) refl (reading_whole bytes (u64_at (drop 8 bytes)) (answer_at (i32_at (drop 4 bytes)) bytes) (eqb (u32_at bytes) (length bytes)) refl))
