use Rattle.std.proofs.Common.{◌≡◌, ◌+◌, ◌-◌, ◌≤◌, ℕ, take, drop, sym, ap, ◌∙◌, arith}
use Rattle.std.proofs.lemmas.List.{drop-drop, drop-take, length-take}
use Rattle.byte_codec.proofs.storage.SharedRange.after.Goals as goal

pub returns : goal.returns
returns c =
    let text = c.args.self.text.value.items in
    let from = c.args.self.from in
    let len = c.args.self.len in
    let count = c.args.count in
    let few : count ≤ len = omega (arith, length-take len (drop from text)) in
    let sum : count + (len - count) ≡ len = omega arith in
    let one : drop count (take len (drop from text)) ≡ take (len - count) (drop count (drop from text)) =
    ap (λ (k : ℕ). drop count (take k (drop from text))) (sym sum) ∙ drop-take count (len - count) (drop from text) in
    record { bytes = sym (one ∙ ap (take (len - count)) (drop-drop count from text)) }
