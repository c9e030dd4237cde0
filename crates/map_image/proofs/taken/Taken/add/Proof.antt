-- `add` does nothing: the borrow is opened, its mark is owned at more bytes, and the borrow is closed.
use Rattle.map_image.proofs.Ghosts.{keeps_contract, may_end, with_bytes}
use Rattle.map_image.proofs.taken.Taken.add.Code as code
use Rattle.map_image.proofs.taken.Taken.add.Statement as stated
use Rattle.map_image.specs.contracts.taken.Taken as Row
use Rattle.map_image.specs.contracts.taken.Taken.add as it
use Rattle.map_image.specs.contracts.taken.Taken.add.Key.{name as #it}
use Rattle.map_image.specs.declared.taken.Taken.{Taken}
use Rattle.std.proofs.Common.{Bor, MutBor, ℕ, List, [], length, ◌++◌, ◌<◌, ◌^◌, ◌∷◌, refl}
use denote.Triple.Walked.{AllGo, Goes-none_slice, Goes-ref, Stays, Walks, stay_none_slice, stay_ref, walk_of, walked}
use denote.Triple.Entry.{on_entry}
use denote.Slice.{ShrSlice, shr_slice_Tells, shr_slice_vals, slice_val}
use denote.Signature.{plain}
use denote.Steps.{closes, opens}
use denote.Ref.{MutRef, mut_Tells, mut_vals}
use denote.RattleType.{owns}
use denote.Builtin.{u8}
use denote.Exit.{yes}
use contract.Monad.{Fun, fact_i}
use contract.Running.{tables, tables_of}
use types.ByLocal.{alloc_all, free_all, look_at, pass_all, sets}
use types.Run.{enter, of_opd, returns, unit_lit}
use types.Kit.{ !, ‵, ◌$◌, ◌⊛◌, ◌∵◌, done, drop, feq_i, fjoin, fjoin3, fsplit, fsplit3, join, keep, move, qed, split, suffices}
use types.Logic.{Logic}
use prog.Memory.{Memory}
use prog.Routine.{Routine}
use prog.Wp.{Calls, Loops, WpFn}
use base.Fml.{GName, Lft, Share, flft, ftrue}
use base.Logic.{SProp, emp, ent, fst∗, via}
use mir.Syntax.{named}
use mir.Val.{Val, vptr, vunit}
use seplogic.Ra.Ura.{Ura}

-- both borrows are still owned at the end
abbrev both : Stays (it.ended).signature.params (it.ended).kept
both = (stay_ref (0 ∷ []) tt (plain (λ _. Row.the_row)), (stay_none_slice (1 ∷ []) tt (plain (λ _. u8)) yes, tt))

module _ {M : Type 1} {𝓤 : Ura M} (𝓛 : Logic 𝓤) (at_mem : Memory → SProp 𝓤) (run : Routine → Fun 𝓤) where
  module _ (C : Calls 𝓤 𝓛.H) (Λ : Loops 𝓤 𝓛.H) where
    module _ (κ κ' : Lft) (q q' : Share) (b o : ℕ) (γ : GName) (taken : Taken) (piece : Bor (List ℕ)) where
      abbrev passed : MutBor Taken × (Bor (List ℕ) × Unit {0})
      passed = (record { ref_ptr = (b, o); ghost_name = γ; now = taken }, (piece, tt))

      abbrev words : List Val × (List Val × Unit {0})
      words = (vptr b o ∷ [], (slice_val piece.ref_ptr (length piece.now) ∷ [], tt))

      abbrev more : Taken
      more = record { bytes = taken.bytes ++ piece.now; mark = taken.mark }

      from_entry : length piece.now < 2 ^ 64 → ent 𝓤 (on_entry 𝓛 it.signature (κ, (κ', tt)) (q, (q', tt)) passed words)
          (WpFn 𝓤 𝓛.H C Λ code.function (vptr b o ∷ slice_val piece.ref_ptr (length piece.now) ∷ [])
          ((walk_of 𝓛 it.ended both (it.clauses 𝓛 at_mem run)).post (((κ, (κ', tt)), (q, (q', tt)), tt, passed, words), tt)))
      from_entry fits =
          -- what is owned at the entry, in its parts: the lifetimes' shares, the borrow's own two, and the piece
          qed 𝓛 ((‵ (flft κ q) ⊛ (‵ (flft κ' q') ⊛ ‵ ftrue)) ∷ ‵ (owns (MutRef (named 0) κ Row.the_row ∷ ShrSlice (named 1) κ' u8 ∷ []) passed words) ∷ []) ∵
          split ! $ move ! (2 ∷ []) $ fsplit ! $ fsplit3 ! $ drop ! $ move ! (0 ∷ 1 ∷ 3 ∷ []) $
          enter ! C Λ code.function (vptr b o ∷ slice_val piece.ref_ptr (length piece.now) ∷ []) _ $
          alloc_all ! (λ l. pass_all ! refl ((tt, tt), ((tt, (tt, (record { fits = fits }, tt))), tt)) $
          sets ! (of_opd ! (unit_lit !)) refl (tt, tt) $
          -- the borrow is opened, and closed at more bytes
          move ! (0 ∷ 1 ∷ 2 ∷ []) $ opens ! tt Row.the_row {h = taken} b o (λ vs.
          move ! (1 ∷ []) $ with_bytes ! taken (taken.bytes ++ piece.now) vs $ move ! (1 ∷ 0 ∷ []) $ closes ! tt Row.the_row more vs b o $
          returns ! (look_at ! 0 refl) $ free_all ! refl $ keep ! (0 ∷ 1 ∷ 2 ∷ 3 ∷ 4 ∷ []) $
          suffices ! _ (may_end 𝓛 it.ended both (it.clauses 𝓛 at_mem run) (((κ, (κ', tt)), (q, (q', tt)), tt, passed, words), tt) vunit tt (more, (tt, tt)) (tt, (tt, tt)) (fact_i 𝓤 _ (emp 𝓤) refl)) $
          -- both borrows together, then the shares, and the unit that is returned
          feq_i ! (List Val) (vptr b o ∷ []) (vptr b o ∷ []) refl $ fjoin3 ! $ move ! (0 ∷ 2 ∷ []) $ fjoin ! $
          move ! (1 ∷ 2 ∷ []) $ join ! $ feq_i ! (List Val) (vunit ∷ []) (vunit ∷ []) refl $ move ! (1 ∷ 2 ∷ 0 ∷ []) $ done !))

    to_end : Walks 𝓛 it.ended both (WpFn 𝓤 𝓛.H C Λ code.function) (it.clauses 𝓛 at_mem run)
    to_end = walked 𝓛 it.ended both (it.clauses 𝓛 at_mem run) (WpFn 𝓤 𝓛.H C Λ code.function) (λ κs. (mut_vals, (shr_slice_vals, tt)))
        (λ κs. (mut_Tells (named 0) κs.0 Row.the_row, (shr_slice_Tells (named 1) κs.1.0 u8, tt)))
        (λ κs qs bounds a g are. via 𝓤 _ (fst∗ 𝓤 _ (emp 𝓤))
        (from_entry κs.0 κs.1.0 qs.0 qs.1.0 a.0.ref_ptr.0 a.0.ref_ptr.1 a.0.ghost_name a.0.now a.1.0 are.1.0.0.1.0))

  each_goes : AllGo 𝓛 2 (it.signature).params (it.ended).kept both
  each_goes = (Goes-ref 𝓛 2 0 tt (plain (λ _. Row.the_row)), (Goes-none_slice 𝓛 2 (1 ∷ []) tt (plain (λ _. u8)) yes, tt))

pub add_spec : {M : Type 1} → stated.statement M
unfolding tables_of
add_spec 𝓤 𝓛 𝓜 𝓡 wired =
    keeps_contract 𝓛 it.ended both (it.clauses 𝓛 𝓜.mem 𝓡.returns) (each_goes 𝓛 𝓜.mem 𝓡.returns) (tables_of 𝓤 𝓛.H 𝓜 (tables 𝓤 𝓛.H 𝓜 𝓡 𝓡.env)) #it code.function
    (code.unfolded 𝓤 𝓛.H 𝓜 𝓡 wired) (to_end 𝓛 𝓜.mem 𝓡.returns (tables 𝓤 𝓛.H 𝓜 𝓡 𝓡.env).C (tables 𝓤 𝓛.H 𝓜 𝓡 𝓡.env).Λ)
