-- A name at fault is a fault of the whole.
use Rattle.std.proofs.Common.{◌≡◌, ℕ, List, Result, Err, subst, sym, rules}
use Rattle.eden_base.specs.declared.attr.Perm.{Perm}
use Rattle.fuse_wire.specs.declared.fault.WireFault.{WireFault}
use Rattle.fuse_wire.specs.Reading.{Gives, MayLack}
use Rattle.fuse_wire.specs.RequestBody.{IsLongName, name_of, made_of}
use Rattle.fuse_wire.proofs.Lacking.{fault_beside}
use Rattle.fuse_wire.proofs.body_form.read_made.Goals as goal

-- a name with permissions takes memory if the name does
abbrev made_takes : List ℕ × Perm → Type 0
made_takes made = IsLongName made.0

pub returns-in_err-name : goal.returns-in_err-name
returns-in_err-name g c =
    let may = g.M.Memory.may_lack in
    let fault = c.in_err-name.field-0.0 in
    let told : c.from_residual-in_err-name.result ≡ Err fault = search rules in
    let whole = subst (Gives (MayLack may made_takes) (Err fault)) (sym c.in_ok-perm.ensures.rest) (fault_beside may made_takes (λ (n : List ℕ). let pair : List ℕ × Perm = (n, c.in_ok-perm.perm) in pair) fault (name_of c.in_ok-perm.named.now) c.in_err-name.ensures) in
    subst (λ (r : Result (List ℕ × Perm) WireFault). Gives (MayLack may made_takes) r (made_of c.args.offset c.args.rest c.args.body.now)) (sym told) whole
