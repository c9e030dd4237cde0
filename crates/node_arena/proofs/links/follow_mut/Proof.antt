-- `follow_mut` lends the value that the address leads to, and the `Vec` ends with what is written to it.
use Rattle.std.proofs.Common.{◌≡◌, ◌+◌, ◌*◌, ◌<◌, [], ◌∷◌, length, get_or, refl, ap, ◌∙◌, arith, Some}
use Rattle.std.proofs.lemmas.Option.{slice_get-get_or}
use Rattle.std.proofs.raw_atomic.Walks.{proved, leaves}
use Rattle.std.specs.Prelude.{slice_get}
use base.Fraction.{full_share}
use base.Logic.{emp}
use base.Fml.{GName, ftrue, fat, flft}
use mir.Syntax.{named, ty_ptr}
use mir.Val.{vptr}
use mir.MapTy.{inst_fn}
use prog.Wp.{Env}
use types.Kit.{‵, raw, ◌⊛◌, some, later, at_ret, ◌$◌, ◌∵◌, !, qed, by, move, keep, drop, split, join, group, use0, use1, pick, await, rewrite, fsplit, fsplit3, fjoin}
use types.Run.{stop, of_opd, addr, first, blocks, exec, returns, enter}
use types.ByLocal.{alloc_all, pass_all, free_all, look_at, get, through, sets, sets_last, take_at, give_at, env}
use contract.BorrowLft.{◌⊑◌}
use contract.Monad.{fact, fact_i}
use contract.Running.{tables}
use denote.Exit.{yes, no}
use denote.RattleType.{owns}
use denote.RawPtr.{Ptr, RawPtr, block_ptr, ptr_val, rawptr_vals, rawptr_Tells, rawptr_Lawful}
use denote.Ref.{MutBor, MutRef, mut_vals, mut_Tells}
use denote.Follow.{follows}
use denote.Signature.{plain, mut_ref_to}
use denote.Steps.{nothing, heard}
use denote.Triple.Walked.{Stays, stay_dropped, walk_of, Goes-dropped, Goes-spent_ref}
use Rattle.core.proofs.ptr.Rows.{hd}
use Rattle.std_alloc.specs.Vec.{with_item}
use Rattle.std_alloc.proofs.VecSteps.El.{El, args, el_x, el_heap, el_ok, R, Vr, sz}
use Rattle.std_alloc.proofs.VecSteps.Element.{lends}
use Rattle.std_alloc.proofs.VecSteps.Opens.{vec_opens⁰, blk_out}
use Rattle.std_alloc.proofs.VecSteps.Shapes.{after}
use Rattle.node_arena.specs.Addresses.{address_of, index_of, LeadsIn}
use Rattle.node_arena.specs.contracts.links.follow_mut as f
use Rattle.node_arena.specs.contracts.links.follow_mut.Key.{name}
use Rattle.node_arena.proofs.links.follow_mut.Code as code
use Rattle.node_arena.proofs.links.follow_mut.Statement.{statement}

pub follow_mut_spec : {M : Type 1} → statement M
follow_mut_spec 𝓤 𝓛 𝓜 𝓡 wired N A LN LA g d dd met glue =
    let E : El = record { row = N; laws = LN; al = record { row = A; laws = LA; g = g; d = d; drops = dd } } in
    let T = f.ended N A g d dd in let c = f.clauses N A g d dd 𝓛 𝓜.mem 𝓡.returns in let fn = inst_fn (args E) code.function in
    let stays : Stays T.signature.params T.kept = (stay_dropped (mut_ref_to (0 ∷ []) tt (plain (λ _. Vr E))) no, (stay_dropped (plain (λ _. RawPtr)) yes, tt)) in
    let 𝓣 = tables 𝓤 𝓛.H 𝓜 𝓡 𝓡.env in let W = walk_of 𝓛 T stays c in
    proved 𝓛 T stays c 𝓜 𝓡 (Goes-spent_ref 𝓛 3 (0 ∷ []) tt (plain (λ _. Vr E)), (Goes-dropped 𝓛 3 (plain (λ _. RawPtr)) yes (λ κs x w. refl), tt))
    (name (args E)) fn (code.unfolded 𝓤 𝓛.H 𝓜 𝓡 wired (N, (A, tt)) d dd)
    (λ κs. (mut_vals, (rawptr_vals, tt))) (λ κs. (mut_Tells (named 0) κs.0 (Vr E), (rawptr_Tells, tt))) (λ κs qs bounds a _ are.
    let κ = κs.0 in let q = qs.0 in let v = a.0.now in let γ = a.0.ghost_name in let rb = a.0.ref_ptr.0 in let ro = a.0.ref_ptr.1 in let to = a.1.0 in
    let s = sz E in let i = index_of v.ptr s to in let xs = v.items in
    let y : W.Ghost = ((κs, qs, bounds, a, (mut_vals a.0, (rawptr_vals to, tt))), tt) in
    qed 𝓛 (((‵ (flft κ q) ⊛ ‵ (flft κs.1.0 qs.1.0) ⊛ ‵ (flft κs.1.1.0 qs.1.1.0) ⊛ ‵ ftrue) ⊛ ‵ (owns (MutRef (named 0) κ (Vr E) ∷ RawPtr ∷ []) (a.0, (to, tt)) y.0.4))
    ∷ (raw (fact 𝓤 (κs.1.0 ⊑ N.lives)) ⊛ raw (fact 𝓤 (κs.1.1.0 ⊑ A.lives)) ⊛ raw (fact 𝓤 (LeadsIn v s to))) ∷ []) ∵
    move ! (1 ∷ []) $ split ! $ drop ! $ split ! $ drop ! $ heard ! (LeadsIn v s to) (λ asked.
    split ! $ enter ! 𝓣.C 𝓣.Λ fn (vptr rb ro ∷ ptr_val to ∷ []) _ $ alloc_all ! (λ l. pass_all ! refl ((tt, tt), (rawptr_Lawful 𝓛).typed to _ refl) $ let En : Env 𝓤 𝓛.H = env fn.locals l in
    move ! (1 ∷ []) $ fsplit ! $ fsplit3 ! $ drop ! $ move ! (3 ∷ []) $ split ! $ move ! (2 ∷ 3 ∷ 0 ∷ []) $
    vec_opens⁰ E ! tt v rb ro (λ b o hv at_b fl fc fit.
    -- [the block; the words; the open borrow; obs; auth; the other tokens; ..]
    let here : to ≡ block_ptr b (i * s + o) = asked.1 ∙ ap (λ p. address_of p s i) at_b in
    let li : i < v.len = asked.0 in let lens : v.len ≡ length xs = (el_ok E v).0 in let le = (el_ok E v).1 in let pos : 0 < v.cap = omega arith in
    let first_one : el_x E = hd xs (omega arith) in let x = get_or xs i first_one in
    blk_out E ! (el_heap E v) b o v.len v.cap xs pos $
    take_at ! 2 $ rewrite ! 0 (λ (p : Ptr). ‵ (fat full_share ty_ptr (l 2) 0 (ptr_val p))) here refl $ give_at ! 2 $
    sets ! (of_opd ! (get ! refl)) refl (tt, tt) $
    first ! $ blocks ! $ sets_last ! (addr ! (through ! refl (stop !))) refl (tt, tt) $ exec ! 𝓣.C 𝓣.Λ En (after 2 fn.body) (at_ret En (W.post y)) $
    sets ! (of_opd ! (get ! refl)) refl (tt, tt) $
    let lent : GName → MutBor (el_x E) = λ δ. record { ref_ptr = (b, i * s + o); ghost_name = δ; now = x } in
    group ! 7 $ use1 𝓛 (later (some (λ (δ : GName). ‵ ((MutRef (named 0) κ (R E)).own_val (lent δ) (vptr b (i * s + o) ∷ [])) ⊛ ‵ (flft κ q) ⊛ ‵ (follows (Vr E) (R E) γ δ (with_item v i)))))
    (lends E 𝓛 κ q rb ro γ v i b o at_b li fl fc fit pos first_one) $ await ! tt $ pick ! (λ δ. split ! $ move ! (1 ∷ []) $ split ! $
    -- [the token; the way back; the loan; the other tokens; ..]
    let found : slice_get xs i ≡ Some x = slice_get-get_or xs i first_one (omega arith) in
    returns ! (look_at ! 0 refl) $ free_all ! refl $ move ! (0 ∷ 3 ∷ []) $ join ! $
    use0 𝓛 (raw (fact 𝓤 (slice_get xs i ≡ Some x))) (fact_i 𝓤 (slice_get xs i ≡ Some x) (emp 𝓤) found) $ move ! (2 ∷ 0 ∷ []) $ join ! $
    nothing ! $ nothing ! $ fjoin ! $ nothing ! $ fjoin ! $ keep ! (2 ∷ 0 ∷ 3 ∷ 1 ∷ []) $
    by ! (leaves 𝓛 T stays c y (vptr b (i * s + o)) (lent δ) (tt, (tt, tt)) (tt, (tt, tt))))))))
