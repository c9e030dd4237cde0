-- The items of a batch, read one after the other.
use Rattle.std.proofs.Common.{◌≡◌, ℕ, suc, ◌+◌, ◌-◌, ◌*◌, ◌<◌, ◌≤◌, List, [], ◌∷◌, ◌++◌, length, drop, sym, ap, ◌∙◌, append_assoc, length-append, arith}
use Rattle.std.proofs.lemmas.List.{append-nil, drop-drop}
use Rattle.fuse_wire.specs.declared.item.Item.{Item}
use Rattle.fuse_wire.specs.RequestBody.{item_at, items_at}

-- a count of the items is read, and the others follow
pub record AreRead (items : List Item) (done count : ℕ) (lines : List ℕ) : Type 0 where
  pub many : length items ≡ done
  pub whole : items ++ items_at (count - done) (drop (16 * done) lines) ≡ items_at count lines

pub goes_on : (items : List Item) (done count : ℕ) (lines : List ℕ) → done < count → AreRead items done count lines
    → AreRead (items ++ item_at (drop (16 * done) lines) ∷ []) (done + 1) count lines
unfolding items_at
goes_on items done count lines lt read =
    let left : count - done ≡ suc (count - (done + 1)) = omega arith in
    let next : drop 16 (drop (16 * done) lines) ≡ drop (16 * (done + 1)) lines = drop-drop 16 (16 * done) lines ∙ ap (λ (n : ℕ). drop n lines) (omega arith) in
    let front : items ++ items_at (count - done) (drop (16 * done) lines) ≡ (items ++ item_at (drop (16 * done) lines) ∷ []) ++ items_at (count - (done + 1)) (drop (16 * (done + 1)) lines) =
    rw (left, next) (sym (append_assoc items (item_at (drop (16 * done) lines) ∷ []) (items_at (count - (done + 1)) (drop (16 * (done + 1)) lines)))) in
    record { many = omega (arith, length-append items (item_at (drop (16 * done) lines) ∷ []), read.many); whole = sym front ∙ read.whole }

pub is_done : (items : List Item) (done count : ℕ) (lines : List ℕ) → count ≤ done → AreRead items done count lines → items ≡ items_at count lines
unfolding items_at
is_done items done count lines le read =
    let none : count - done ≡ 0 = omega arith in
    let all : items ++ items_at (count - done) (drop (16 * done) lines) ≡ items = rw none (append-nil items) in
    sym all ∙ read.whole
