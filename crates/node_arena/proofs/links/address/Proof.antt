-- `address` counts from the first value.
use Rattle.std.proofs.Common.{◌≡◌, ◌+◌, ◌*◌, ◌<◌, ◌^◌, List, [], ◌∷◌, refl, sym, ap, ◌∙◌, arith, w64}
use Rattle.std.proofs.raw_atomic.Walks.{proved, leaves}
use base.Fraction.{full_share}
use base.Logic.{emp}
use base.Fml.{ftrue, fat, flft}
use mir.Syntax.{named, ty_ptr}
use mir.Val.{Val, vptr, vint}
use mir.MapTy.{inst_fn}
use prog.Wp.{Env}
use types.Kit.{‵, raw, ◌⊛◌, at_ret, ◌$◌, ◌∵◌, !, qed, by, move, keep, drop, split, join, use0, rewrite, fsplit, fjoin, feq_i}
use types.Run.{of_opd, bin, size_lit, first, blocks, exec, returns, enter}
use types.ByLocal.{alloc_all, pass_all, free_all, look_at, get, sets, sets_last, take_at, give_at, env}
use contract.BorrowLft.{◌⊑◌}
use contract.Monad.{fact, fact_i}
use contract.Running.{tables}
use denote.Builtin.{RefOf, usize}
use denote.Exit.{yes}
use denote.Plain.{uint_vals, uint_Tells}
use denote.RattleType.{owns}
use denote.RawPtr.{Ptr, RawPtr, InBlock, block_ptr, block_of, count_of, at_block, ptr_val, rawptr_vals, rawptr_Tells, rawptr_Lawful}
use denote.Ref.{ShrRef, shr_vals, shr_Tells}
use denote.Signature.{plain}
use denote.Steps.{nothing, heard}
use denote.Triple.Walked.{Stays, stay_dropped, walk_of, Goes-dropped}
use Rattle.core.proofs.ptr.Rows.{one_below, times_below}
use Rattle.std_alloc.proofs.VecSteps.El.{El, args, wider, Vr, sz}
use Rattle.std_alloc.proofs.VecSteps.Shapes.{after}
use Rattle.node_arena.specs.Addresses.{address_of}
use Rattle.node_arena.specs.contracts.links.address as f
use Rattle.node_arena.specs.contracts.links.address.Key.{name}
use Rattle.node_arena.proofs.Seen.{sees}
use Rattle.node_arena.proofs.links.address.Code as code
use Rattle.node_arena.proofs.links.address.Statement.{statement}

pub address_spec : {M : Type 1} → statement M
address_spec 𝓤 𝓛 𝓜 𝓡 wired N A LN LA g d dd met glue =
    let E : El = record { row = N; laws = LN; al = record { row = A; laws = LA; g = g; d = d; drops = dd } } in
    let T = f.ended N A g d dd in let c = f.clauses N A g d dd 𝓛 𝓜.mem 𝓡.returns in let fn = inst_fn (args E) code.function in
    let stays : Stays T.signature.params T.kept = (stay_dropped (RefOf (0 ∷ []) tt (plain (λ _. Vr E)) (λ _. tt)) yes, (stay_dropped (plain (λ _. RawPtr)) yes, (stay_dropped (plain (λ _. usize)) yes, tt))) in
    let 𝓣 = tables 𝓤 𝓛.H 𝓜 𝓡 𝓡.env in let W = walk_of 𝓛 T stays c in
    proved 𝓛 T stays c 𝓜 𝓡 (Goes-dropped 𝓛 3 (RefOf (0 ∷ []) tt (plain (λ _. Vr E)) (λ _. tt)) yes (λ κs x w. refl), (Goes-dropped 𝓛 3 (plain (λ _. RawPtr)) yes (λ κs x w. refl), (Goes-dropped 𝓛 3 (plain (λ _. usize)) yes (λ κs x w. refl), tt)))
    (name (args E)) fn (code.unfolded 𝓤 𝓛.H 𝓜 𝓡 wired (N, (A, tt)) d dd)
    (λ κs. (shr_vals, (rawptr_vals, (uint_vals w64, tt)))) (λ κs. (shr_Tells (named 0) κs.0 (Vr E), (rawptr_Tells, (uint_Tells w64, tt)))) (λ κs qs bounds a _ are.
    let κ = κs.0 in let q = qs.0 in let v = a.0.now in let rb = a.0.ref_ptr.0 in let ro = a.0.ref_ptr.1 in let start = a.1.0 in let i = a.1.1.0 in
    let s = sz E in let b = block_of v.ptr in let o = count_of v.ptr in
    let y : W.Ghost = ((κs, qs, bounds, a, (shr_vals a.0, (rawptr_vals start, (uint_vals w64 i, tt)))), tt) in
    let Asks : Type 0 = (start ≡ v.ptr) × (i < v.cap) in
    qed 𝓛 (((‵ (flft κ q) ⊛ ‵ (flft κs.1.0 qs.1.0) ⊛ ‵ (flft κs.1.1.0 qs.1.1.0) ⊛ ‵ ftrue) ⊛ ‵ (owns (ShrRef (named 0) κ (Vr E) ∷ RawPtr ∷ usize ∷ []) (a.0, (start, (i, tt))) y.0.4))
    ∷ (raw (fact 𝓤 (κs.1.0 ⊑ N.lives)) ⊛ raw (fact 𝓤 (κs.1.1.0 ⊑ A.lives)) ⊛ raw (fact 𝓤 Asks)) ∷ []) ∵
    move ! (1 ∷ []) $ split ! $ drop ! $ split ! $ drop ! $ heard ! Asks (λ asked.
    split ! $ enter ! 𝓣.C 𝓣.Λ fn (vptr rb ro ∷ ptr_val start ∷ vint w64 i ∷ []) _ $
    alloc_all ! (λ l. pass_all ! refl ((tt, tt), (((rawptr_Lawful 𝓛).typed start _ refl).0, ((tt, record { fits = are.1.1.0.1 }), tt))) $ let En : Env 𝓤 𝓛.H = env fn.locals l in
    move ! (1 ∷ []) $ fsplit ! $ fsplit ! $ drop ! $ sees E ! v κ rb ro (λ there fit.
    -- [the values; the two words; the tokens; ..]
    let tiny : s < 2 ^ 64 = wider s (one_below v.cap s (2 ^ 63) (omega (arith, asked.1)) fit) in
    let far : i * s < 2 ^ 64 = wider (i * s) (times_below i v.cap s (2 ^ 63) (omega (arith, asked.1)) fit) in
    let p : Ptr = block_ptr b (i * s + o) in let is : p ≡ address_of v.ptr s i = sym (ap (λ z. address_of z s i) (at_block v.ptr there)) in
    take_at ! 2 $ rewrite ! 0 (λ (z : Ptr). ‵ (fat full_share ty_ptr (l 2) 0 (ptr_val z))) (asked.0 ∙ at_block v.ptr there) refl $ give_at ! 2 $
    first ! $ blocks ! $ sets ! (bin ! (get ! refl) (size_lit ! (record { fits = tiny })) (record { fits = far })) refl (tt, record { fits = far }) $
    sets_last ! (bin ! (get ! refl) (get ! refl) tt) refl (tt, tt) $ exec ! 𝓣.C 𝓣.Λ En (after 1 fn.body) (at_ret En (W.post y)) $
    sets ! (of_opd ! (get ! refl)) refl (tt, tt) $ sets ! (of_opd ! (get ! refl)) refl (tt, tt) $
    feq_i ! (List Val) (ptr_val p ∷ []) (ptr_val p ∷ []) refl $ use0 𝓛 (raw (fact 𝓤 (InBlock v.ptr))) (fact_i 𝓤 (InBlock v.ptr) (emp 𝓤) there) $
    use0 𝓛 (raw (fact 𝓤 (p ≡ address_of v.ptr s i))) (fact_i 𝓤 (p ≡ address_of v.ptr s i) (emp 𝓤) is) $ join ! $
    nothing ! $ nothing ! $ fjoin ! $ nothing ! $ fjoin ! $ nothing ! $ fjoin ! $
    returns ! (look_at ! 0 refl) $ free_all ! refl $ keep ! (5 ∷ 0 ∷ 2 ∷ 1 ∷ []) $ by ! (leaves 𝓛 T stays c y (ptr_val p) p (tt, (tt, (tt, tt))) (tt, (tt, (tt, tt))))))))
