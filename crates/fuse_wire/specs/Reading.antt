-- What a reader returns: a value or the first fault. Instead of a value that takes memory, it may return NoMemory.
use Rattle.std.specs.Prelude.{◌≡◌, Bool, IsTrue, IsOkAnd, Result, Ok, Err}
use Rattle.fuse_wire.specs.declared.fault.WireFault.{WireFault}
use Rattle.fuse_wire.specs.declared.fault.WireFault.TheVariants.{NoMemory}

-- a call returned what `read` is, a value or a fault, or it returned NoMemory instead of a value that takes memory
abbrev pub Gives : {X : Type 0} → (X → Type 0) → Result X WireFault → Result X WireFault → Type 0
Gives Takes (Ok x) read = read ≡ Ok x
Gives Takes (Err NoMemory) read = IsOkAnd read Takes
Gives Takes (Err fault) read = read ≡ Err fault

-- each value of this type takes memory, as each batch does
abbrev pub TakesSome : {X : Type 0} → X → Type 0
TakesSome x = Unit {0}

-- no value of this type takes memory
abbrev pub TakesNone : {X : Type 0} → X → Type 0
TakesNone x = ⊥

-- memory may be refused, and the value takes some
abbrev pub MayLack : {X : Type 0} → Bool → (X → Type 0) → X → Type 0
MayLack may_lack Takes x = IsTrue may_lack × Takes x
