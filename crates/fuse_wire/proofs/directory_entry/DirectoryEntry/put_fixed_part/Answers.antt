use Rattle.std.proofs.Common.{◌≡◌, ◌≤◌, ◌∙◌, ℕ, length, sym, ap, subst, rules, arith}
use Rattle.fuse_wire.specs.DirectoryEntries.{Dirent, fixed_part}
use Rattle.fuse_wire.specs.Field.{u32_bytes}
use Rattle.fuse_wire.specs.Writing.{Puts}
use Rattle.fuse_wire.proofs.DirectoryEntries.{length-fixed_part}
use Rattle.fuse_wire.proofs.Written.{whole, Puts-then}
use Rattle.fuse_wire.proofs.directory_entry.DirectoryEntry.put_fixed_part.Goals as goal

pub returns-clause-text : goal.returns-clause-text
returns-clause-text c =
    let entry : Dirent = record { number = c.self.inside.number; next = c.self.inside.next; kind = c.self.inside.kind; name = c.self.inside.name.now } in
    let text = fixed_part entry in
    let old = c.new-fields.result in
    let fits : old.at ≤ length old.bytes.now = omega arith in
    let P : ℕ → Type 0 = λ n. Puts c.put_u32.new.self c.put_u32-2.new.self (u32_bytes n) in
    let last = subst P c.entry_type.ensures.value c.put_u32-2.ensures in
    let two = Puts-then old _ _ _ _ c.put_u64-2.ensures c.put_u64.ensures fits in
    let three = Puts-then old _ _ _ _ c.put_u32.ensures two fits in
    let put : Puts old c.put_u32-2.new.self text = Puts-then old _ _ _ _ last three fits in
    let len : length old.bytes.now ≡ length text = omega (arith, ap length c.new-fields.ensures.bytes, length-fixed_part entry) in
    let all : c.put_u32-2.new.self.bytes.now ≡ text = whole old c.put_u32-2.new.self text c.new-fields.ensures.at len put in
    let same = put.same ∙ c.new-fields.ensures.same in
    search (rules, all, sym same) ∙ all ∙ ap fixed_part c.self.view_is
