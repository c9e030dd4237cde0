-- A `&` to a stride tells the size too.
use base.Fml.{feq}
use Rattle.std.specs.Prelude.{ℕ}
use Rattle.std.specs.Mem.{type_size}
use denote.RattleType.{RattleType}
use denote.Param.Laws.{Laws}
use denote.Param.Shared.{copy_shared}
use denote.SharingLaws.{said_shr_laws}
use denote.Struct.Laws.{field_copy}
use denote.Struct.Lending.{of_Lends, Lends-said}
use Rattle.core.specs.contracts.marker.PhantomData as phantom
use Rattle.node_arena.specs.contracts.links.Stride as stride
use Rattle.node_arena.proofs.links.Stride.TheLaw.Statement.{statement}

pub shares : (N : RattleType) (laws : Laws N) → statement N laws
shares N laws =
    of_Lends (stride.struct N) (stride.the_codes N.Denot N.coded (phantom.the_row N).coded) (stride.the_heap N) (stride.the_lent N)
    (λ s p. said_shr_laws (feq ℕ s.bytes (type_size N)) tt)
    (copy_shared (phantom.the_field N) (field_copy (phantom.the_type N) tt), tt)
    (λ M 𝓤 𝓛 s p. Lends-said 𝓛 (feq ℕ s.bytes (type_size N)) tt (stride.the_row N).lives)
