-- What is put into a cell is found behind the cells before it, which had nothing for the key.
use Rattle.std.proofs.Common.{ℕ, ◌==◌, ◌&&◌}
use Rattle.std.specs.Option.{option_or}
use Rattle.key_map.specs.Cells.{in_cell}
use Rattle.key_map.proofs.BucketLemmas.{key_is, none_below, of_key, put_behind, put_first}
use Rattle.key_map.proofs.TierLemmas.{none_above}
use Rattle.key_map.proofs.bucket.Bucket.put.Goals as goal

pub returns-then-put-3 : goal.returns-then-put-3
returns-then-put-3 c = record {
  put = λ k.
      let b = c.args.self.now in
      let key = c.args.key in
      let n = c.args.number in
      let behind_first = none_below (in_cell key b.first) _ c.requires.free in
      let third = put_first (in_cell k b.third) (in_cell k b.fourth) (in_cell k c.put-3.new.self) (k == key) n (c.if-put-3.ensures.put k) in
      let second =
      put_behind (λ (q : ℕ). in_cell q b.second) (λ (q : ℕ). option_or (in_cell q b.third) (in_cell q b.fourth)) key k n (k == key) (in_cell k c.put-2.new.self) _ (key_is k key)
      (none_above (in_cell key b.second) _ behind_first) (c.if-put-2.ensures.put k) third in
      put_behind (λ (q : ℕ). in_cell q b.first) (λ (q : ℕ). option_or (in_cell q b.second) (option_or (in_cell q b.third) (in_cell q b.fourth))) key k n (k == key) (in_cell k c.put.new.self) _ (key_is k key)
      (none_above (in_cell key b.first) _ c.requires.free) (c.if-put.ensures.put k) second;
}

pub returns : goal.returns
returns c = record {
  put = λ k.
      let b = c.args.self.now in
      let key = c.args.key in
      let n = c.args.number in
      let is_it = c.put-4.result && k == key in
      let only = of_key c.put-4.result k key in
      let behind_first = none_below (in_cell key b.first) _ c.requires.free in
      let behind_second = none_below (in_cell key b.second) _ behind_first in
      let third =
      put_behind (λ (q : ℕ). in_cell q b.third) (λ (q : ℕ). in_cell q b.fourth) key k n is_it (in_cell k c.put-3.new.self) _ only
      (none_above (in_cell key b.third) _ behind_second) (c.if-put-3.ensures.put k) (c.put-4.ensures.put k) in
      let second =
      put_behind (λ (q : ℕ). in_cell q b.second) (λ (q : ℕ). option_or (in_cell q b.third) (in_cell q b.fourth)) key k n is_it (in_cell k c.put-2.new.self) _ only
      (none_above (in_cell key b.second) _ behind_first) (c.if-put-2.ensures.put k) third in
      put_behind (λ (q : ℕ). in_cell q b.first) (λ (q : ℕ). option_or (in_cell q b.second) (option_or (in_cell q b.third) (in_cell q b.fourth))) key k n is_it (in_cell k c.put.new.self) _ only
      (none_above (in_cell key b.first) _ c.requires.free) (c.if-put.ensures.put k) second;
}
