-- The attributes in a reply stand within its head.
use Rattle.std.proofs.Common.{◌≡◌, ℕ, ◌+◌, ◌≤◌, true, false, List, ◌++◌, length, Some, length-append, ap, arith}
use Rattle.eden_base.specs.declared.attr.Attr.{Attr}
use Rattle.eden_base.specs.declared.number.Number.{Number}
use Rattle.fuse_wire.specs.declared.reply.Answer.{Answer}
use Rattle.fuse_wire.specs.declared.reply.Answer.TheVariants.{Entry, Opened, Attrs, Done, Buffer, Extent, Error}
use Rattle.fuse_wire.specs.Field.{u64_bytes, zeros}
use Rattle.fuse_wire.specs.ReplyText.{attributes, entry, error_field, head_payload, payload, reply_head, reply_header}
use Rattle.fuse_wire.proofs.Lengths.{length-reply_header, length-u64_bytes, length-zeros}
use Rattle.fuse_wire.proofs.ReplyLaws.{length-attributes}
use Rattle.mount_wire.specs.Told.{attributes_told, blocks_at}
use Rattle.mount_wire.specs.declared.told_answer.Shown.{Shown}

length-entry : (number : Number) (attr : Attr) → length (entry number attr) ≡ 128
length-entry number attr =
    omega (arith, length-append (u64_bytes number.0 ++ zeros 32) (attributes number attr), length-append (u64_bytes number.0) (zeros 32), length-u64_bytes number.0, length-zeros 32, length-attributes number attr)

-- what stands behind the header of a head with attributes
within_payload : (answer : Answer) (shown : Shown) → attributes_told answer ≡ Some shown → blocks_at shown.has_entry + 44 ≤ length (head_payload answer)
within_payload (Entry number attr) shown is =
    let is_entry : shown.has_entry ≡ true = cc in
    let at : blocks_at shown.has_entry ≡ 72 = ap blocks_at is_entry in omega (arith, length-entry number attr)
within_payload (Opened number attr) shown is =
    let is_entry : shown.has_entry ≡ true = cc in
    let at : blocks_at shown.has_entry ≡ 72 = ap blocks_at is_entry in omega (arith, length-append (entry number attr) (zeros 16), length-entry number attr)
within_payload (Attrs number attr) shown is =
    let is_entry : shown.has_entry ≡ false = cc in
    let at : blocks_at shown.has_entry ≡ 48 = ap blocks_at is_entry in omega (arith, length-append (zeros 16) (attributes number attr), length-zeros 16, length-attributes number attr)
within_payload Done shown is = absurd cc
within_payload (Buffer bytes) shown is = absurd cc
within_payload (Extent extent) shown is = absurd cc
within_payload (Error errno) shown is = absurd cc

pub within_head : (unique : ℕ) (answer : Answer) (shown : Shown) → attributes_told answer ≡ Some shown
    → blocks_at shown.has_entry + 60 ≤ length (reply_head (record { unique = unique; answer = answer }))
within_head unique answer shown is =
    let header : List ℕ = reply_header (16 + length (payload answer)) (error_field answer) unique in
    omega (arith, within_payload answer shown is, length-append header (head_payload answer), length-reply_header (16 + length (payload answer)) (error_field answer) unique)
