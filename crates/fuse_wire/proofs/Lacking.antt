-- What a call gave that may lack memory.
use Rattle.std.proofs.Common.{◌≡◌, Bool, false, Result, Ok, Err, ap, sym}
use Rattle.std.specs.Prelude.{IsTrue}
use Rattle.fuse_wire.specs.declared.fault.WireFault.{WireFault}
use Rattle.fuse_wire.specs.declared.fault.WireFault.TheVariants.{Short, BadLength, BadBody, BadCount, BadName, NoMemory}
use Rattle.byte_codec.specs.Reading.{◌>>=◌}
use Rattle.fuse_wire.specs.Reading.{Gives, MayLack}

false_not : IsTrue false → ⊥
false_not e = cc

-- rooms never do
pub by_rooms : {X : Type 0} (Takes : X → Type 0) (r read : Result X WireFault) → Gives (MayLack false Takes) r read → r ≡ read
by_rooms Takes (Ok x) read given = sym given
by_rooms Takes (Err NoMemory) (Ok x) given = absurd (false_not given.0)
by_rooms Takes (Err NoMemory) (Err fault) given = absurd given
by_rooms Takes (Err Short) read given = sym given
by_rooms Takes (Err BadLength) read given = sym given
by_rooms Takes (Err BadBody) read given = sym given
by_rooms Takes (Err BadCount) read given = sym given
by_rooms Takes (Err (BadName name)) read given = sym given

-- what may lack memory only sometimes
pub as_given : {X : Type 0} (b : Bool) (Takes : X → Type 0) (r read : Result X WireFault) → Gives (MayLack b Takes) r read → Gives Takes r read
as_given b Takes (Ok x) read given = given
as_given b Takes (Err NoMemory) (Ok x) given = given.1
as_given b Takes (Err NoMemory) (Err fault) given = given
as_given b Takes (Err Short) read given = given
as_given b Takes (Err BadLength) read given = given
as_given b Takes (Err BadBody) read given = given
as_given b Takes (Err BadCount) read given = given
as_given b Takes (Err (BadName name)) read given = given

pub not_out_of_memory : {X : Type 0} (Takes : X → Type 0) (r read : Result X WireFault) → Gives (MayLack false Takes) r read → ¬ (r ≡ Err NoMemory)
not_out_of_memory Takes (Ok x) read given = λ e. cc
not_out_of_memory Takes (Err NoMemory) (Ok x) given = λ e. false_not given.0
not_out_of_memory Takes (Err NoMemory) (Err fault) given = λ e. given
not_out_of_memory Takes (Err Short) read given = λ e. cc
not_out_of_memory Takes (Err BadLength) read given = λ e. cc
not_out_of_memory Takes (Err BadBody) read given = λ e. cc
not_out_of_memory Takes (Err BadCount) read given = λ e. cc
not_out_of_memory Takes (Err (BadName name)) read given = λ e. cc

-- what is at fault, or lacks memory, is so beside something more
pub fault_beside : {X Y : Type 0} (may_lack : Bool) (Takes : Y → Type 0) (more : X → Y) (fault : WireFault) (read : Result X WireFault) → Gives (MayLack may_lack (λ x. Takes (more x))) (Err fault) read
    → Gives (MayLack may_lack Takes) (Err fault) (read >>= λ x. Ok (more x))
fault_beside may_lack Takes more NoMemory (Ok x) given = given
fault_beside may_lack Takes more NoMemory (Err fault) given = absurd given
fault_beside may_lack Takes more Short read given = ap (λ (r : Result _ WireFault). r >>= λ x. Ok (more x)) given
fault_beside may_lack Takes more BadLength read given = ap (λ (r : Result _ WireFault). r >>= λ x. Ok (more x)) given
fault_beside may_lack Takes more BadBody read given = ap (λ (r : Result _ WireFault). r >>= λ x. Ok (more x)) given
fault_beside may_lack Takes more BadCount read given = ap (λ (r : Result _ WireFault). r >>= λ x. Ok (more x)) given
fault_beside may_lack Takes more (BadName fault) read given = ap (λ (r : Result _ WireFault). r >>= λ x. Ok (more x)) given
