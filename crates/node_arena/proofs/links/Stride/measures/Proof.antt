-- `measures` reads what a `&` to a stride holds.
use Rattle.std.proofs.Common.{◌≡◌, [], ◌∷◌, refl}
use Rattle.std.proofs.raw_atomic.Walks.{proved, leaves}
use Rattle.std.specs.Mem.{type_size}
use base.Logic.{emp}
use base.Fml.{flft, fhide, ftrue}
use mir.Syntax.{named, a_type}
use mir.Val.{vptr, vunit}
use mir.MapTy.{inst_fn}
use types.Kit.{‵, raw, ◌⊛◌, ◌$◌, ◌∵◌, !, qed, by, move, keep, drop, split, use0, use1, fsplit, fjoin, feq_i, feq_l}
use types.Run.{of_opd, unit_lit, returns, enter}
use types.ByLocal.{alloc_all, pass_all, free_all, look_at, sets}
use contract.BorrowLft.{◌⊑◌}
use contract.Monad.{fact, fact_i}
use contract.Running.{tables}
use denote.Builtin.{RefOf}
use denote.Exit.{yes}
use denote.Memory.{hidden_shr}
use denote.Opens.{unhide}
use denote.Param.{param, layouts}
use denote.RattleType.{owns}
use denote.RawPtr.{block_ptr}
use denote.Ref.{ShrRef, shr_vals, shr_Tells}
use denote.Signature.{plain}
use denote.Steps.{nothing}
use denote.Struct.Lending.{lent_out}
use denote.Struct.Owning.{shape}
use denote.Struct.Struct.{Struct}
use denote.Triple.Walked.{Stays, stay_dropped, walk_of, Goes-dropped}
use Rattle.core.specs.contracts.marker.PhantomData as phantom
use Rattle.node_arena.specs.contracts.links.Stride as stride
use Rattle.node_arena.specs.contracts.links.Stride.measures as f
use Rattle.node_arena.specs.contracts.links.Stride.measures.Key.{name}
use Rattle.node_arena.proofs.links.Stride.measures.Code as code
use Rattle.node_arena.proofs.links.Stride.measures.Statement.{statement}

pub measures_spec : {M : Type 1} → statement M
measures_spec 𝓤 𝓛 𝓜 𝓡 wired N LN =
    let R = param 0 N in let S = stride.the_row R in let args = layouts (a_type ∷ []) (N, tt) in
    let T = f.ended N in let c = f.clauses N 𝓛 𝓜.mem 𝓡.returns in let fn = inst_fn args code.function in
    let stays : Stays T.signature.params T.kept = (stay_dropped (RefOf (0 ∷ []) tt (plain (λ _. S)) (λ _. tt)) yes, tt) in
    let 𝓣 = tables 𝓤 𝓛.H 𝓜 𝓡 𝓡.env in let W = walk_of 𝓛 T stays c in
    proved 𝓛 T stays c 𝓜 𝓡 (Goes-dropped 𝓛 2 (RefOf (0 ∷ []) tt (plain (λ _. S)) (λ _. tt)) yes (λ κs x w. refl), tt)
    (name args) fn (code.unfolded 𝓤 𝓛.H 𝓜 𝓡 wired (N, tt))
    (λ κs. (shr_vals, tt)) (λ κs. (shr_Tells (named 0) κs.0 S, tt)) (λ κs qs bounds a _ are.
    let κ = κs.0 in let it = a.0.now in let rb = a.0.ref_ptr.0 in let ro = a.0.ref_ptr.1 in
    let y : W.Ghost = ((κs, qs, bounds, a, (shr_vals a.0, tt)), tt) in
    qed 𝓛 (((‵ (flft κ qs.0) ⊛ ‵ (flft κs.1.0 qs.1.0) ⊛ ‵ ftrue) ⊛ ‵ (owns (ShrRef (named 0) κ S ∷ []) (a.0, tt) y.0.4))
    ∷ (raw (fact 𝓤 (κs.1.0 ⊑ N.lives)) ⊛ raw (emp 𝓤)) ∷ []) ∵
    split ! $ keep ! (0 ∷ 1 ∷ []) $
    enter ! 𝓣.C 𝓣.Λ fn (vptr rb ro ∷ []) _ $ alloc_all ! (λ l. pass_all ! refl ((tt, tt), tt) $
    move ! (1 ∷ []) $ fsplit ! $ fsplit ! $ drop ! $
    use1 𝓛 (‵ (hidden_shr (Struct (shape (stride.the_type R))) κ (tt, tt) rb ro) ⊛ ‵ (fhide (stride.the_lent R it (block_ptr rb ro) κ)))
    (lent_out 𝓛 (stride.struct R) (stride.the_codes R.Denot R.coded (phantom.the_row R).coded) (stride.the_heap R) (stride.the_lent R) κ it rb ro) $
    split ! $ drop ! $ unhide ! $ feq_l ! (λ known.
    sets ! (of_opd ! (unit_lit !)) refl (tt, tt) $
    feq_i ! _ (vunit ∷ []) _ refl $ use0 𝓛 (raw (fact 𝓤 (it.bytes ≡ type_size R))) (fact_i 𝓤 (it.bytes ≡ type_size R) (emp 𝓤) known) $ nothing ! $ nothing ! $ fjoin ! $
    returns ! (look_at ! 0 refl) $ free_all ! refl $ keep ! (4 ∷ 0 ∷ 2 ∷ 1 ∷ []) $ by ! (leaves 𝓛 T stays c y vunit tt (tt, tt) (tt, tt)))))
