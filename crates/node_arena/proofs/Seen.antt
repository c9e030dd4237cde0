-- What a `&` to a `Vec` tells: where its block is, that its values fit, and each of them.
use Rattle.std.proofs.Common.{ℕ, ◌*◌, ◌<◌, ◌^◌, List, ◌∷◌}
use seplogic.Ra.Ura.{Ura}
use base.Fml.{Lft, fhide}
use types.Logic.{Logic}
use types.Kit.{Goal, Item, Seq, ‵, raw, ◌⊛◌, ◌$◌, drop, split, use1, fsplit, flt_l}
use contract.Monad.{fact}
use denote.Memory.{hidden_shr}
use denote.Opens.{unhide}
use denote.RawPtr.{InBlock, block_of, count_of}
use denote.Slice.{elements_shared}
use denote.Steps.{heard}
use denote.Struct.Lending.{in_block_says, lent_out}
use denote.Struct.Owning.{shape}
use denote.Struct.Struct.{Struct}
use Rattle.std_alloc.specs.contracts.vec.Vec as vec
use Rattle.std_alloc.proofs.VecSteps.El.{El, R, P, Vr, sz, el_x, el_d, owning}

module _ (E : El) {M : Type 1} {𝓤 : Ura M} {𝓛 : Logic 𝓤} {K : Type 0} {Γ : List (Item 𝓤)} {G : Goal 𝓤 𝓛.H} where
  -- the `&` is used up, and its values are left
  pub sees : K → (v : el_d E) (κ : Lft) (rb ro : ℕ)
      → (InBlock v.ptr → v.cap * sz E < 2 ^ 63 → Seq K 𝓛 (‵ (elements_shared (R E) v.items (block_of v.ptr) (count_of v.ptr) κ) ∷ Γ) G)
      → Seq K 𝓛 (‵ (hidden_shr (Vr E) κ v rb ro) ∷ Γ) G
  sees t v κ rb ro rest =
      use1 𝓛 (‵ (hidden_shr (Struct (shape (owning E))) κ (v.ptr, (v.len, (v.cap, (v.alloc, tt)))) rb ro) ⊛ ‵ (fhide (vec.the_lent (R E) (P E) E.al.g v v.ptr κ)))
      (lent_out 𝓛 (vec.struct (R E) (P E) E.al.g) (vec.the_codes (el_x E) (P E).Denot (R E).coded (P E).coded) (vec.the_heap (R E) (P E) E.al.g) (vec.the_lent (R E) (P E) E.al.g) κ v rb ro) $
      split t $ drop t $ unhide t $ fsplit t $ flt_l t (λ fit. fsplit t $ use1 𝓛 (raw (fact 𝓤 (InBlock v.ptr))) (in_block_says 𝓛 v.ptr) $ heard t (InBlock v.ptr) (λ there.
      fsplit t $ drop t $ rest there fit))
