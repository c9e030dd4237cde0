-- `follow` shows the value that the address leads to.
use Rattle.std.proofs.Common.{◌≡◌, ℕ, ◌+◌, ◌*◌, ◌<◌, List, [], ◌∷◌, length, get_or, refl, ap, ◌∙◌, arith, Some}
use Rattle.std.proofs.lemmas.Option.{slice_get-get_or}
use Rattle.std.proofs.raw_atomic.Walks.{proved, leaves}
use Rattle.std.specs.Prelude.{slice_get}
use base.Fraction.{full_share}
use base.Logic.{emp}
use base.Fml.{ftrue, fat, flft}
use borrow.Table.Elements.{at, at_mul}
use borrow.Table.SharedPart.{each-one}
use mir.Syntax.{named, ty_ptr}
use mir.Val.{Val, vptr}
use mir.MapTy.{inst_fn}
use prog.Wp.{Env}
use types.Kit.{‵, raw, ◌⊛◌, at_ret, ◌$◌, ◌∵◌, !, qed, by, move, keep, drop, split, use0, use1, rewrite, fsplit, fjoin, feq_i}
use types.Run.{stop, of_opd, addr, first, blocks, exec, returns, enter}
use types.ByLocal.{alloc_all, pass_all, free_all, look_at, get, through, sets, sets_last, take_at, give_at, env}
use contract.BorrowLft.{◌⊑◌}
use contract.Monad.{fact, fact_i}
use contract.Running.{tables}
use denote.Builtin.{RefOf}
use denote.Exit.{yes}
use denote.Memory.{shared_of}
use denote.Opens.{hide}
use denote.RattleType.{owns}
use denote.RawPtr.{Ptr, RawPtr, block_ptr, block_of, count_of, at_block, ptr_val, rawptr_vals, rawptr_Tells, rawptr_Lawful}
use denote.Ref.{Bor, ShrRef, shr_vals, shr_Tells}
use denote.Signature.{plain}
use denote.Steps.{nothing, heard}
use denote.Triple.Walked.{Stays, stay_dropped, walk_of, Goes-dropped}
use Rattle.core.proofs.ptr.Rows.{hd}
use Rattle.std_alloc.proofs.VecSteps.El.{El, args, el_x, el_ok, R, Vr, sz}
use Rattle.std_alloc.proofs.VecSteps.Shapes.{after}
use Rattle.node_arena.specs.Addresses.{address_of, index_of, LeadsIn}
use Rattle.node_arena.specs.contracts.links.follow as f
use Rattle.node_arena.specs.contracts.links.follow.Key.{name}
use Rattle.node_arena.proofs.Seen.{sees}
use Rattle.node_arena.proofs.links.follow.Code as code
use Rattle.node_arena.proofs.links.follow.Statement.{statement}

pub follow_spec : {M : Type 1} → statement M
follow_spec 𝓤 𝓛 𝓜 𝓡 wired N A LN LA g d dd met glue =
    let E : El = record { row = N; laws = LN; al = record { row = A; laws = LA; g = g; d = d; drops = dd } } in
    let T = f.ended N A g d dd in let c = f.clauses N A g d dd 𝓛 𝓜.mem 𝓡.returns in let fn = inst_fn (args E) code.function in
    let stays : Stays T.signature.params T.kept = (stay_dropped (RefOf (0 ∷ []) tt (plain (λ _. Vr E)) (λ _. tt)) yes, (stay_dropped (plain (λ _. RawPtr)) yes, tt)) in
    let 𝓣 = tables 𝓤 𝓛.H 𝓜 𝓡 𝓡.env in let W = walk_of 𝓛 T stays c in
    proved 𝓛 T stays c 𝓜 𝓡 (Goes-dropped 𝓛 3 (RefOf (0 ∷ []) tt (plain (λ _. Vr E)) (λ _. tt)) yes (λ κs x w. refl), (Goes-dropped 𝓛 3 (plain (λ _. RawPtr)) yes (λ κs x w. refl), tt))
    (name (args E)) fn (code.unfolded 𝓤 𝓛.H 𝓜 𝓡 wired (N, (A, tt)) d dd)
    (λ κs. (shr_vals, (rawptr_vals, tt))) (λ κs. (shr_Tells (named 0) κs.0 (Vr E), (rawptr_Tells, tt))) (λ κs qs bounds a _ are.
    let κ = κs.0 in let q = qs.0 in let v = a.0.now in let rb = a.0.ref_ptr.0 in let ro = a.0.ref_ptr.1 in let to = a.1.0 in
    let s = sz E in let i = index_of v.ptr s to in let xs = v.items in let b = block_of v.ptr in let o = count_of v.ptr in
    let y : W.Ghost = ((κs, qs, bounds, a, (shr_vals a.0, (rawptr_vals to, tt))), tt) in
    qed 𝓛 (((‵ (flft κ q) ⊛ ‵ (flft κs.1.0 qs.1.0) ⊛ ‵ (flft κs.1.1.0 qs.1.1.0) ⊛ ‵ ftrue) ⊛ ‵ (owns (ShrRef (named 0) κ (Vr E) ∷ RawPtr ∷ []) (a.0, (to, tt)) y.0.4))
    ∷ (raw (fact 𝓤 (κs.1.0 ⊑ N.lives)) ⊛ raw (fact 𝓤 (κs.1.1.0 ⊑ A.lives)) ⊛ raw (fact 𝓤 (LeadsIn v s to))) ∷ []) ∵
    move ! (1 ∷ []) $ split ! $ drop ! $ split ! $ drop ! $ heard ! (LeadsIn v s to) (λ asked.
    split ! $ enter ! 𝓣.C 𝓣.Λ fn (vptr rb ro ∷ ptr_val to ∷ []) _ $ alloc_all ! (λ l. pass_all ! refl ((tt, tt), (rawptr_Lawful 𝓛).typed to _ refl) $ let En : Env 𝓤 𝓛.H = env fn.locals l in
    move ! (1 ∷ []) $ fsplit ! $ fsplit ! $ drop ! $ sees E ! v κ rb ro (λ there fit.
    -- [the values; the pointer; the tokens; ..]
    let here : to ≡ block_ptr b (i * s + o) = asked.1 ∙ ap (λ p. address_of p s i) (at_block v.ptr there) in
    let lens : v.len ≡ length xs = (el_ok E v).0 in let li : i < length xs = omega (arith, asked.0) in
    let x = get_or xs i (hd xs (omega arith)) in let r : Bor (el_x E) = record { ref_ptr = (b, i * s + o); now = x } in
    take_at ! 2 $ rewrite ! 0 (λ (p : Ptr). ‵ (fat full_share ty_ptr (l 2) 0 (ptr_val p))) here refl $ give_at ! 2 $
    use1 𝓛 (‵ (shared_of (R E) x b (at o s i) κ)) (each-one 𝓛 (shared_of (R E)) s κ b xs i (hd xs (omega arith)) o li) $
    rewrite ! 0 (λ (k : ℕ). ‵ (shared_of (R E) x b k κ)) (at_mul o s i) refl $ hide ! $
    sets ! (of_opd ! (get ! refl)) refl (tt, tt) $
    first ! $ blocks ! $ sets_last ! (addr ! (through ! refl (stop !))) refl (tt, tt) $ exec ! 𝓣.C 𝓣.Λ En (after 2 fn.body) (at_ret En (W.post y)) $
    sets ! (of_opd ! (get ! refl)) refl (tt, tt) $
    feq_i ! (List Val) (vptr b (i * s + o) ∷ []) (vptr b (i * s + o) ∷ []) refl $ fjoin ! $
    let found : slice_get xs i ≡ Some x = slice_get-get_or xs i (hd xs (omega arith)) li in
    use0 𝓛 (raw (fact 𝓤 (slice_get xs i ≡ Some x))) (fact_i 𝓤 (slice_get xs i ≡ Some x) (emp 𝓤) found) $
    nothing ! $ nothing ! $ fjoin ! $ nothing ! $ fjoin ! $
    returns ! (look_at ! 0 refl) $ free_all ! refl $ keep ! (4 ∷ 0 ∷ 2 ∷ 1 ∷ []) $ by ! (leaves 𝓛 T stays c y (vptr b (i * s + o)) r (tt, (tt, tt)) (tt, (tt, tt)))))))
