-- Names at fault are a fault of the whole.
use Rattle.std.proofs.Common.{◌≡◌, ℕ, false, ltb, List, length, drop, Result, Ok, Err, refl, subst, sym, rules}
use Rattle.eden_base.specs.declared.number.Number.{Number}
use Rattle.fuse_wire.specs.declared.fault.WireFault.{WireFault}
use Rattle.fuse_wire.specs.Field.{u64_at}
use Rattle.fuse_wire.specs.Reading.{Gives, MayLack}
use Rattle.fuse_wire.specs.RequestBody.{IsLongEither, names_of, move_of}
use Rattle.byte_codec.specs.Reading.{◌>>=◌}
use Rattle.fuse_wire.proofs.Lacking.{fault_beside}
use Rattle.fuse_wire.proofs.body_form.read_move.Goals as goal

-- a directory and two names
abbrev with_dir : Number → List ℕ × List ℕ → Number × List ℕ × List ℕ
with_dir dir names = (dir, names.0, names.1)

-- two names take memory if one of them does
abbrev names_take : List ℕ × List ℕ → Type 0
names_take names = IsLongEither names.0 names.1

-- so do they beside a directory
abbrev move_takes : Number × List ℕ × List ℕ → Type 0
move_takes move = IsLongEither move.1 move.2

-- what a long body is read as
long_move : (body : List ℕ) → ltb (length body) 8 ≡ false → move_of body ≡ (names_of (drop 8 body) >>= λ names. Ok (with_dir (record { 0 = u64_at body }) names))
unfolding move_of
long_move body long = rw long refl

pub returns-in_err-name : goal.returns-in_err-name
returns-in_err-name g c =
    let may = g.M.Memory.may_lack in
    let body = c.args.body.now in
    let fault = c.in_err-name.field-0.0 in
    let told : c.from_residual.result ≡ Err fault = search rules in
    let long : ltb (length body) 8 ≡ false = search rules in
    let names : Gives (MayLack may names_take) (Err fault) (names_of (drop 8 body)) = subst (λ (rest : List ℕ). Gives (MayLack may names_take) (Err fault) (names_of rest)) (search rules) c.in_err-name.ensures in
    let whole = subst (Gives (MayLack may move_takes) (Err fault)) (sym (long_move body long)) (fault_beside may move_takes (with_dir (record { 0 = u64_at body })) fault (names_of (drop 8 body)) names) in
    subst (λ (r : Result (Number × List ℕ × List ℕ) WireFault). Gives (MayLack may move_takes) r (move_of body)) (sym told) whole
