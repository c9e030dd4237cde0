use Rattle.std.proofs.Common.{◌≡◌, ℕ, ℤ, FitsSigned, rules, drop, length, Some, sym, ap, ◌∙◌, arith}
use Rattle.std.specs.Int.{w32}
use Rattle.std.proofs.lemmas.Int.{to_z-of_z}
use Rattle.fuse_wire.specs.Field.{i32_at, u32_at, u64_at}
use Rattle.fuse_wire.specs.ReplyReading.{answer_at}
use Rattle.fuse_wire.proofs.Replies.{answered}
use Rattle.fuse_wire.proofs.reply_reader.read_spelled.Goals as goal

pub returns : goal.returns
returns c =
    let bytes = c.args.bytes.now in
    let start : drop c.new-fields.result.at c.new-fields.result.bytes.now ≡ bytes = ap (λ (n : ℕ). drop n c.new-fields.result.bytes.now) c.new-fields.ensures.at ∙ c.new-fields.ensures.bytes in
    let len : u32_at bytes ≡ length bytes = sym (ap u32_at start) ∙ sym c.u32.ensures.value ∙ c.if-u32-bytes.false in
    let at4 : c.u32.new.self.at ≡ 4 = omega arith in
    let at8 : c.i32-error.new.self.at ≡ 8 = omega arith in
    let error : i32_at (drop 4 bytes) ≡ c.i32-error.result = cc in
    let unique : u64_at (drop 8 bytes) ≡ c.u64-unique.result = cc in
    let fits : FitsSigned w32 c.i32-error.result = search rules in
    let passed = ap (λ (e : ℤ). answer_at e bytes) (to_z-of_z w32 c.i32-error.result fits) in
    let found : answer_at c.i32-error.result bytes ≡ c.answer_of.result = sym passed ∙ sym c.answer_of.ensures.answer in
    let some : c.answer_of.result ≡ Some c.in-Some.answer = c.in-Some.is in
    c.if_spelled.ensures ∙ sym (answered bytes c.u64-unique.result c.i32-error.result c.in-Some.answer (omega arith) len error unique (found ∙ some))
