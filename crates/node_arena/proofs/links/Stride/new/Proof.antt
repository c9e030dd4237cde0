-- `new` takes the size for what an invariant may name.
use Rattle.std.proofs.Common.{◌≡◌, ℕ, [], ◌∷◌, refl}
use Rattle.std.proofs.raw_atomic.Walks.{proved, leaves}
use Rattle.std.specs.Mem.{type_size}
use base.Logic.{emp}
use base.Fml.{Fml, flft, ftrue}
use mir.Syntax.{a_type}
use mir.Val.{Val, vstruct, vcons, vnil}
use mir.MapTy.{inst_fn}
use types.Kit.{‵, raw, ◌⊛◌, ◌$◌, ◌∵◌, !, qed, by, keep, split, use0, fjoin, feq_i}
use types.Part.{agg}
use types.Run.{no_more, and_then, returns, enter}
use types.ByLocal.{alloc_all, pass_all, free_all, look_at, get, sets}
use contract.BorrowLft.{◌⊑◌}
use contract.Monad.{fact, fact_i}
use contract.Running.{tables}
use denote.Param.{param, layouts}
use denote.Shadow.{makes_shadow}
use denote.Steps.{nothing}
use denote.Struct.Owning.{shape}
use denote.Struct.Struct.{Struct}
use denote.Triple.Walked.{walk_of}
use Rattle.node_arena.specs.contracts.links.Stride as stride
use Rattle.node_arena.specs.contracts.links.Stride.new as f
use Rattle.node_arena.specs.contracts.links.Stride.new.Key.{name}
use Rattle.node_arena.specs.declared.links.Stride.{Stride}
use Rattle.node_arena.proofs.links.Stride.new.Code as code
use Rattle.node_arena.proofs.links.Stride.new.Statement.{statement}

-- a struct whose one field takes no bytes
abbrev empty : Val
empty = vstruct (vcons (vstruct vnil) vnil)

pub new_spec : {M : Type 1} → statement M
new_spec 𝓤 𝓛 𝓜 𝓡 wired N LN =
    let R = param 0 N in let args = layouts (a_type ∷ []) (N, tt) in
    let T = f.ended N in let c = f.clauses N 𝓛 𝓜.mem 𝓡.returns in let fn = inst_fn args code.function in
    let 𝓣 = tables 𝓤 𝓛.H 𝓜 𝓡 𝓡.env in let W = walk_of 𝓛 T tt c in
    proved 𝓛 T tt c 𝓜 𝓡 tt (name args) fn (code.unfolded 𝓤 𝓛.H 𝓜 𝓡 wired (N, tt)) (λ κs. tt) (λ κs. tt) (λ κs qs bounds a _ are.
    let y : W.Ghost = ((κs, qs, bounds, a, tt), tt) in
    let Fields : Fml = (Struct (shape (stride.the_type R))).own_val (tt, tt) (empty ∷ []) in
    let it : Stride N.Denot = record { mark = record {}; bytes = type_size R } in
    qed 𝓛 (((‵ (flft κs.0 qs.0) ⊛ ‵ ftrue) ⊛ ‵ ftrue) ∷ (raw (fact 𝓤 (κs.0 ⊑ N.lives)) ⊛ raw (emp 𝓤)) ∷ []) ∵
    split ! $ keep ! (0 ∷ []) $
    enter ! 𝓣.C 𝓣.Λ fn [] _ $ alloc_all ! (λ l. pass_all ! refl tt $
    sets ! (agg ! (no_more !)) refl (tt, tt) $ sets ! (agg ! (and_then ! (get ! refl) (no_more !))) refl (tt, (tt, tt)) $
    returns ! (look_at ! 0 refl) $ free_all ! refl $
    feq_i ! ℕ it.bytes (type_size R) refl $ use0 𝓛 (‵ Fields) (makes_shadow 𝓛 Fields (λ one. (tt, ((λ none. (tt, tt)), tt))) ((vstruct vnil ∷ [], tt), (refl, ((tt, (refl, tt)), tt)))) $ fjoin ! $
    use0 𝓛 (raw (fact 𝓤 (it.bytes ≡ type_size R))) (fact_i 𝓤 (it.bytes ≡ type_size R) (emp 𝓤) refl) $ nothing ! $
    keep ! (3 ∷ 0 ∷ 2 ∷ 1 ∷ []) $ by ! (leaves 𝓛 T tt c y empty it tt tt)))
