use Rattle.std.proofs.Common.{◌≡◌, Option, Some, Result, Ok, length, sym, ap, ◌∙◌}
use Rattle.fuse_wire.specs.declared.fault.WireFault.{WireFault}
use Rattle.fuse_wire.specs.DirectoryEntries.{Dirent, entry_at, entry_text}
use Rattle.fuse_wire.proofs.DirectoryEntries.{entry_again, rest_again}
use Rattle.fuse_wire.proofs.entry_reader.Entries.next_entry.Goals as goal

pub returns-in-Ok-clause-only : goal.returns-in-Ok-clause-only
returns-in-Ok-clause-only c = λ entry rest fits is.
    let read : entry_at c.self.inside.bytes.now ≡ Ok entry = ap entry_at (c.self.view_is ∙ is) ∙ entry_again entry rest fits in
    let whole = c.in-Ok.ensures.exact ∙ read in
    let same : c.in-Ok.entry ≡ entry = cc in
    let len : length (entry_text entry) ≡ c.text_len.result = ap (λ (e : Dirent). length (entry_text e)) (sym same) ∙ sym c.text_len.ensures.len in
    (ap (λ (e : Dirent). let r : Result (Option Dirent) WireFault = Ok (Some e) in r) same, c.split_at.ensures.back ∙ rest_again entry c.self.inside.bytes.now rest c.text_len.result (c.self.view_is ∙ is) len)

pub returns-in-Err-clause-only : goal.returns-in-Err-clause-only
returns-in-Err-clause-only c = λ entry rest fits is.
    let read : entry_at c.self.inside.bytes.now ≡ Ok entry = ap entry_at (c.self.view_is ∙ is) ∙ entry_again entry rest fits in
    let whole = c.in-Err.ensures.exact ∙ read in
    absurd (let none : ⊥ = cc in none)
