use Rattle.std.proofs.Common.{◌≡◌, ℕ, drop, Result, Ok, Err, Some, refl, sym, ap, subst, ◌∙◌, IfOk, arith}
use Rattle.fuse_wire.specs.declared.fault.WireFault.{WireFault}
use Rattle.fuse_wire.specs.DirectoryEntries.{Dirent, kind_typed, name_in, namelen_at}
use Rattle.fuse_wire.specs.Field.{u32_at, u64_at}
use Rattle.fuse_wire.proofs.DirectoryEntries.{IsFront, entry_found, read_of}
use Rattle.fuse_wire.proofs.entry_reader.entry_at.Goals as goal

pub returns-in-Ok-clause-exact : goal.returns-in-Ok-clause-exact
returns-in-Ok-clause-exact c =
    let bytes = c.args.bytes.now in
    let at8 : c.u64-number.new.self.at ≡ 8 = omega arith in
    let at16 : c.u64-next.new.self.at ≡ 16 = omega arith in
    let at20 : c.u32-name_len.new.self.at ≡ 20 = omega arith in
    let number : c.u64-number.result ≡ u64_at (drop 0 bytes) = cc in
    let next : c.u64-next.result ≡ u64_at (drop 8 bytes) = cc in
    let namelen : c.u32-name_len.result ≡ u32_at (drop 16 bytes) = cc in
    let typed : c.u32-kind.result ≡ u32_at (drop 20 bytes) = cc in
    let kind : kind_typed (u32_at (drop 20 bytes)) ≡ Some c.in-Some.kind = ap kind_typed (sym typed) ∙ sym c.kind_typed.ensures ∙ c.in-Some.is in
    let whole = read_of bytes c.in-Some.kind (omega arith) (omega arith) kind in
    let name : name_in (namelen_at bytes) (drop 24 bytes) ≡ Ok c.in-Ok.name.now =
    ap (λ (n : ℕ). name_in n (drop 24 bytes)) (sym namelen) ∙ ap (name_in c.u32-name_len.result) (sym c.split_at.ensures.back) ∙ c.in-Ok.ensures.name in
    sym (whole ∙ rw (name, sym number, sym next) refl)

pub returns-in-Ok-clause-text : goal.returns-in-Ok-clause-text
returns-in-Ok-clause-text c =
    let P : Result Dirent WireFault → Type 0 = λ r. IfOk r (IsFront c.args.bytes.now) in
    subst P (sym (returns-in-Ok-clause-exact c)) (entry_found c.args.bytes.now (λ i. omega (arith, c.type_inv.bytes i)))

pub returns-in-Err-clause-exact : goal.returns-in-Err-clause-exact
returns-in-Err-clause-exact c =
    let bytes = c.args.bytes.now in
    let at16 : c.u64-next.new.self.at ≡ 16 = omega arith in
    let at20 : c.u32-name_len.new.self.at ≡ 20 = omega arith in
    let namelen : c.u32-name_len.result ≡ u32_at (drop 16 bytes) = cc in
    let typed : c.u32-kind.result ≡ u32_at (drop 20 bytes) = cc in
    let kind : kind_typed (u32_at (drop 20 bytes)) ≡ Some c.in-Some.kind = ap kind_typed (sym typed) ∙ sym c.kind_typed.ensures ∙ c.in-Some.is in
    let whole = read_of bytes c.in-Some.kind (omega arith) (omega arith) kind in
    let fault : name_in (namelen_at bytes) (drop 24 bytes) ≡ Err c.in-Err.fault =
    ap (λ (n : ℕ). name_in n (drop 24 bytes)) (sym namelen) ∙ ap (name_in c.u32-name_len.result) (sym c.split_at.ensures.back) ∙ c.in-Err.ensures.fault in
    sym (whole ∙ rw fault refl)
