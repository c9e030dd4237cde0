-- How long the parts of a message are.
use Rattle.std.proofs.Common.{◌≡◌, ℕ, ◌+◌, ◌*◌, ◌≤◌, ◌<◌, ℤ, Bool, true, false, cond, ltb, List, [], ◌∷◌, ◌++◌, length, Option, Some, None, refl, sym, ap, ◌∙◌, length-append, arith}
use Rattle.std.specs.List.{flat_map}
use Rattle.std.proofs.lemmas.Bool.Decides.{nat_tests}
use Rattle.std.proofs.lemmas.List.{length-replicate}
use Rattle.std.proofs.lemmas.List.Concat.{flat_map-cons}
use Rattle.eden_base.specs.Name.{IsNameText}
use Rattle.fuse_wire.specs.declared.item.Item.{Item}
use Rattle.fuse_wire.specs.Field.{i32_bytes, u32_bytes, u64_bytes, zeros}
use Rattle.fuse_wire.specs.RequestBody.{item_text}
use Rattle.fuse_wire.specs.ReplyText.{reply_header}

pub length-u32_bytes : (n : ℕ) → length (u32_bytes n) ≡ 4
unfolding u32_bytes
length-u32_bytes n = refl

pub length-i32_bytes : (n : ℤ) → length (i32_bytes n) ≡ 4
unfolding i32_bytes u32_bytes
length-i32_bytes n = refl

pub length-u64_bytes : (n : ℕ) → length (u64_bytes n) ≡ 8
unfolding u64_bytes
length-u64_bytes n = refl

pub length-zeros : (n : ℕ) → length (zeros n) ≡ n
unfolding zeros
length-zeros n = length-replicate n 0

pub length-items : (items : List Item) → length (flat_map item_text items) ≡ 16 * length items
length-items [] = refl
length-items (item ∷ items) =
    ap length (flat_map-cons item_text item items) ∙ omega (arith, length-append (item_text item) (flat_map item_text items), length-append (u64_bytes item.node.0) (u64_bytes item.k), length-u64_bytes item.node.0, length-u64_bytes item.k, length-items items)

-- a name has at most 255 bytes
pub name_is_short : (name : List ℕ) → IsNameText name → length name ≤ 255
name_is_short name is = grind (arith, nat_tests)

pub length-reply_header : (len : ℕ) (error : ℤ) (unique : ℕ) → length (reply_header len error unique) ≡ 16
length-reply_header len error unique =
    omega (arith, length-append (u32_bytes len ++ i32_bytes error) (u64_bytes unique), length-append (u32_bytes len) (i32_bytes error), length-u32_bytes len, length-i32_bytes error, length-u64_bytes unique)

pub ruleset lengths = (length-u32_bytes, length-i32_bytes, length-u64_bytes, length-zeros, length-items, length-append)
