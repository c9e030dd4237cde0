-- One more entry is appended to the chain.
use Rattle.std.proofs.Common.{◌≡◌, ◌+◌, List, length, refl, sym, ap, ◌∙◌, subst, arith}
use Rattle.std.specs.Vec.{vec_len}
use Rattle.eden_base.specs.declared.place.Place.TheVariants.{Linked}
use Rattle.entry_table.specs.declared.kept.Kept.{Kept}
use Rattle.measure.specs.Chain.{IsChain}
use Rattle.measure.proofs.ChainLemmas.{chain-more, more-length}
use Rattle.measure.proofs.map.list_chain.Goals as goal

pub loop-alloc-preserved : goal.loop-alloc-preserved
loop-alloc-preserved c =
    let list = c.loop-alloc.list in
    let i = c.len-i.result in
    let counted : length list.items ≡ vec_len list = c.loop-alloc.invariant.counted in
    let at : i ≡ length list.items = c.len-i.ensures ∙ sym counted in
    let x : Kept = record { number = record { 0 = i + 2 }; place = Linked (record { 0 = i + 1 }) c.in_ok-name.name; count = 1 } in
    let more = chain-more list.items 2 x c.loop-alloc.invariant.chain (omega arith) refl (record { 0 = i + 1 }, c.in_ok-name.name, refl, omega arith) in
    record {
      chain = subst (λ (xs : List Kept). IsChain 2 xs) (sym c.in_ok-push.ensures.items) more;
      counted = ap (λ (xs : List Kept). length xs) c.in_ok-push.ensures.items ∙ more-length list.items x (vec_len list) counted ∙ sym c.in_ok-push.ensures.len;
      few = let l = c.in_ok-push.ensures.len in let few = c.loop-alloc-test.true in let n = c.len.ensures in omega arith;
    }
