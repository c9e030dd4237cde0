-- What the calls on a value that carries ghost bytes share: the value as it lies in memory, the end of a call, and the way into a body.
use denote.Triple.Walked.{AllGo, Fit, Stays, Walks, ends_at, on_exit, walk_Meets, walk_of}
use denote.Triple.Clauses.{Clauses, Ended, Lasts, at_exit, closing}
use denote.Triple.Statement.{Triple}
use denote.Triple.Spec.{triple_of}
use denote.Triple.Entry.{Res}
use denote.Triple.Table.{entered}
use denote.Shadow.{pure_i}
use Rattle.map_image.specs.contracts.taken.Taken as Row
use Rattle.map_image.specs.declared.taken.Taken.{Taken}
use Rattle.std.proofs.Common.{ℕ, List, [], ◌∷◌, refl}
use types.Kit.{Goal, Item, Step, use1, ‵}
use types.Logic.{Logic}
use sound.WpLaws.{WpFn-mono}
use prog.Wp.{Closed, Tables, WpFn}
use prog.Routine.{Callee}
use base.Logic.{SProp, comm∗, emp, emp∗, ent, id⊢, mono_l, sep, via}
use mir.Syntax.{Fn}
use mir.Val.{Val, vcons, vnil, vstruct}
use seplogic.Ra.Ura.{Ura}

-- the mark alone, which has no bytes
abbrev pub bare : Val
bare = vstruct (vcons (vstruct vnil) vnil)

-- the value at these ghost bytes
abbrev pub of_bytes : List ℕ → Taken
of_bytes bs = record { bytes = bs; mark = record {} }

module _ {M : Type 1} {𝓤 : Ura M} where
  -- A mark may be owned at whichever bytes: nothing in memory says which they are.
  pub at_bytes : {𝓛 : Logic 𝓤} {K : Type 0} {Γ : List (Item 𝓤)} {G : Goal 𝓤 𝓛.H} → K → (bs : List ℕ)
      → Step K 𝓛 (‵ ((Row.the_row).own_val (of_bytes bs) (bare ∷ [])) ∷ Γ) G Γ G
  at_bytes t bs =
      pure_i t ((Row.the_row).own_val (of_bytes bs) (bare ∷ [])) ((λ fields. (tt, ((λ inner. (tt, tt)), tt))), tt)
      (((vstruct vnil ∷ [], tt), (refl, ((tt, (refl, tt)), tt))), tt)

  -- So it may be owned at other bytes at any time.
  pub with_bytes : {𝓛 : Logic 𝓤} {K : Type 0} {Γ : List (Item 𝓤)} {G : Goal 𝓤 𝓛.H} → K → (taken : Taken) (bs : List ℕ) (vs : List Val)
      → Step K 𝓛 (‵ ((Row.the_row).own_val (record { bytes = bs; mark = taken.mark }) vs) ∷ Γ) G (‵ ((Row.the_row).own_val taken vs) ∷ Γ) G
  with_bytes {𝓛 = 𝓛} t taken bs vs = use1 𝓛 (‵ ((Row.the_row).own_val (record { bytes = bs; mark = taken.mark }) vs)) (id⊢ 𝓤 _)

  module _ (𝓛 : Logic 𝓤) (T : Ended) (stays : Stays T.signature.params T.kept) (c : Clauses 𝓤 T) where
    -- A call may end once the result and what stays are owned, where its clauses hold of them with nothing owned.
    pub may_end : (y : (walk_of 𝓛 T stays c).Ghost) (v : Val) (r : Res T.signature y.0.0) (ws : Lasts T y.0.0 y.0.3) → Fit T stays y.0.0 y.0.3 ws
        → ent 𝓤 (emp 𝓤) ((c y.0.0 y.0.3).ensures y.1 r (at_exit T y.0.0 y.0.3 ws))
        → ent 𝓤 (on_exit 𝓛 T stays y.0.0 y.0.1 y.0.4 v r y.0.3 ws) ((walk_of 𝓛 T stays c).post y v)
    may_end y v r ws fits clauses =
        let owned : SProp 𝓤 = on_exit 𝓛 T stays y.0.0 y.0.1 y.0.4 v r y.0.3 ws in
        let said : SProp 𝓤 = (c y.0.0 y.0.3).ensures y.1 r (at_exit T y.0.0 y.0.3 ws) in
        via 𝓤 (sep 𝓤 (emp 𝓤) owned) (emp∗ 𝓤 owned)
        (via 𝓤 (sep 𝓤 said owned) (mono_l 𝓤 owned clauses)
        (via 𝓤 (sep 𝓤 owned said) (comm∗ 𝓤 said owned) (ends_at 𝓛 T stays c y v r ws fits)))

    -- A callee keeps its contract where its body, walked from its entry, comes to such an end.
    pub keeps_contract : AllGo 𝓛 T.signature.lifetimes T.signature.params T.kept stays → (𝓣 : Tables 𝓤 𝓛.H) (callee : Callee) (body : Fn)
        → Closed 𝓤 𝓛.H 𝓣.C 𝓣.Λ callee body → Walks 𝓛 T stays (WpFn 𝓤 𝓛.H 𝓣.C 𝓣.Λ body) c
        → Triple 𝓤 (𝓣.C callee) (triple_of 𝓛 T.signature (closing 𝓛 T c))
    keeps_contract goes 𝓣 callee body closed walks =
        entered 𝓤 𝓛.H (triple_of 𝓛 T.signature (closing 𝓛 T c)) 𝓣.C 𝓣.Λ callee body closed
        (walk_Meets 𝓛 T stays goes c (WpFn 𝓤 𝓛.H 𝓣.C 𝓣.Λ body) (WpFn-mono 𝓤 𝓛.H 𝓛.laws 𝓣 body) walks)
