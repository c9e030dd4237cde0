-- A request of an operation that has no form of its own has a text of its own.
use Rattle.std.proofs.Common.{◌≡◌, ℕ, refl, sym, ap, ◌∙◌, subst}
use Rattle.std.specs.Prelude.{IfSome}
use Rattle.eden_base.specs.declared.number.Number.{Number}
use Rattle.fuse_wire.specs.Request.{code, opcode_of, other_by, other_of, IsSendable}
use Rattle.fuse_wire.specs.declared.request.Opcode.{Opcode}
use Rattle.fuse_wire.specs.declared.request.Opcode.TheVariants as opcodes
use Rattle.fuse_wire.proofs.RequestKinds.{code-opcode_of}

pub other-sendable : (n : ℕ) (node : Number) → IfSome (other_of n node) IsSendable
other-sendable n node = here (opcode_of n) refl where
  here : (o : Opcode) → opcode_of n ≡ o → IfSome (other_by o node) IsSendable
  here (opcodes.Other m) is =
      let same : n ≡ m = sym (code-opcode_of n) ∙ ap code is in
      subst (λ (k : ℕ). opcode_of k ≡ opcodes.Other m) same is
  here other is = tt
