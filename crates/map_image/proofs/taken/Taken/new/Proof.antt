-- `new` returns the mark, owned at no bytes.
use Rattle.map_image.proofs.Ghosts.{at_bytes, bare, keeps_contract, may_end, of_bytes}
use Rattle.map_image.proofs.taken.Taken.new.Code as code
use Rattle.map_image.proofs.taken.Taken.new.Statement as stated
use Rattle.map_image.specs.contracts.taken.Taken.new as it
use Rattle.map_image.specs.contracts.taken.Taken.new.Key.{name as #it}
use Rattle.std.proofs.Common.{[], ◌∷◌, refl}
use denote.Triple.Walked.{Walks, walked}
use denote.Triple.Entry.{on_entry}
use denote.Steps.{nothing}
use contract.Monad.{Fun, fact_i}
use contract.Running.{tables, tables_of}
use types.ByLocal.{alloc_all, free_all, get, look_at, pass_all, sets}
use types.Run.{and_then, enter, no_more, returns}
use types.Part.{agg}
use types.Kit.{ !, ◌$◌, ◌∵◌, done, join, keep, qed, raw, suffices}
use types.Logic.{Logic}
use prog.Memory.{Memory}
use prog.Routine.{Routine}
use prog.Wp.{Calls, Loops, WpFn}
use base.Logic.{SProp, emp}
use seplogic.Ra.Ura.{Ura}

to_end : {M : Type 1} {𝓤 : Ura M} (𝓛 : Logic 𝓤) (at_mem : Memory → SProp 𝓤) (run : Routine → Fun 𝓤) (C : Calls 𝓤 𝓛.H) (Λ : Loops 𝓤 𝓛.H)
    → Walks 𝓛 it.ended tt (WpFn 𝓤 𝓛.H C Λ code.function) (it.clauses 𝓛 at_mem run)
to_end {𝓤 = 𝓤} 𝓛 at_mem run C Λ = walked 𝓛 it.ended tt (it.clauses 𝓛 at_mem run) (WpFn 𝓤 𝓛.H C Λ code.function) (λ κs. tt) (λ κs. tt) (λ κs qs bounds a g are.
    -- nothing is owned at the entry that the body needs
    qed 𝓛 (raw (on_entry 𝓛 it.signature κs qs a tt) ∷ raw ((it.clauses 𝓛 at_mem run κs a).requires g) ∷ []) ∵ keep ! [] $
    enter ! C Λ code.function [] _ $ alloc_all ! (λ l. pass_all ! refl tt $
    -- the mark, and then the struct around it
    sets ! (agg ! (no_more !)) refl (tt, tt) $
    sets ! (agg ! (and_then ! (get ! refl) (no_more !))) refl (tt, (tt, tt)) $
    returns ! (look_at ! 0 refl) $ free_all ! refl $
    -- the clause is an equation, and both of its sides are the empty list
    suffices ! _ (may_end 𝓛 it.ended tt (it.clauses 𝓛 at_mem run) ((κs, qs, bounds, a, tt), g) bare (of_bytes []) tt tt (fact_i 𝓤 _ (emp 𝓤) refl)) $
    at_bytes ! [] $ nothing ! $ join ! $ nothing ! $ done !))

pub new_spec : {M : Type 1} → stated.statement M
unfolding tables_of
new_spec 𝓤 𝓛 𝓜 𝓡 wired =
    keeps_contract 𝓛 it.ended tt (it.clauses 𝓛 𝓜.mem 𝓡.returns) tt (tables_of 𝓤 𝓛.H 𝓜 (tables 𝓤 𝓛.H 𝓜 𝓡 𝓡.env)) #it code.function
    (code.unfolded 𝓤 𝓛.H 𝓜 𝓡 wired) (to_end 𝓛 𝓜.mem 𝓡.returns (tables 𝓤 𝓛.H 𝓜 𝓡 𝓡.env).C (tables 𝓤 𝓛.H 𝓜 𝓡 𝓡.env).Λ)
