-- Parts one after another: where a member stands among all, and what is left when it goes.
use Rattle.std.proofs.Common.{◌≡◌, ℕ, ◌+◌, ◌-◌, ◌<◌, ◌≤◌, List, [], ◌∷◌, ◌++◌, length, take, drop, flat_map, remove, slice_set, slice_index_or, refl, ◌∙◌, sym, ap, arith, length-append, zero-add, zero, suc, Option, slice_get}
use Rattle.block_queue.proofs.ListLemmas.{get_in_front, get_behind, longest_run}
use Rattle.std.proofs.lemmas.List.Edits.{remove-append_left, remove-append_right}
use Rattle.std.proofs.lemmas.List.{drop-append-le, nil_from_length}
use Rattle.std.proofs.Math.Seq.{drop-append-add, take-append-le}

module _ {X A : Type 0} (members : X → List A) where
  -- without a member of one block, all members are without that one
  pub removed_within : (blocks : List X) (block : X) (d : X) (at within : ℕ) → at < length blocks →
      within < length (members (slice_index_or blocks at d)) →
      members block ≡ remove (members (slice_index_or blocks at d)) within →
      flat_map members (slice_set blocks at block)
      ≡ remove (flat_map members blocks) (length (flat_map members (take at blocks)) + within)
  removed_within [] block d at within bound inside is = absurd (omega (arith, bound))
  removed_within (x ∷ rest) block d zero within bound inside is =
      ap (λ ms. ms ++ flat_map members rest) is
      ∙ sym (remove-append_left (members x) (flat_map members rest) within inside)
      ∙ ap (remove (members x ++ flat_map members rest)) (sym (zero-add within))
  removed_within (x ∷ rest) block d (suc at) within bound inside is =
      let later = removed_within rest block d at within (omega (arith, bound)) inside is in
      let before = length (flat_map members (take at rest)) in
      let sum : length (members x ++ flat_map members (take at rest)) + within ≡ length (members x) + (before + within)
      = omega (arith, length-append (members x) (flat_map members (take at rest))) in
      let past : length (members x) ≤ length (members x) + (before + within) = omega arith in
      let less : length (members x) + (before + within) - length (members x) ≡ before + within = omega arith in
      ap (λ ms. members x ++ ms) later
      ∙ ap (λ n. members x ++ remove (flat_map members rest) n) (sym less)
      ∙ sym (remove-append_right (members x) (flat_map members rest) (length (members x)) _ refl past)
      ∙ ap (remove (members x ++ flat_map members rest)) (sym sum)

  -- a block without members may go
  pub emptied : (blocks : List X) (d : X) (at : ℕ) → at < length blocks →
      members (slice_index_or blocks at d) ≡ [] → flat_map members (remove blocks at) ≡ flat_map members blocks
  emptied [] d at bound none = absurd (omega (arith, bound))
  emptied (x ∷ rest) d zero bound none = sym (ap (λ ms. ms ++ flat_map members rest) none)
  emptied (x ∷ rest) d (suc at) bound none =
      ap (λ ms. members x ++ ms) (emptied rest d at (omega (arith, bound)) none)

  -- what stands from a member of one block on stands in that block and behind it
  pub run_within : (blocks : List X) (d : X) (at within : ℕ) → at < length blocks →
      within < length (members (slice_index_or blocks at d)) →
      drop (length (flat_map members (take at blocks)) + within) (flat_map members blocks)
      ≡ drop within (members (slice_index_or blocks at d)) ++ flat_map members (drop (suc at) blocks)
  run_within [] d at within bound inside = absurd (omega (arith, bound))
  run_within (x ∷ rest) d zero within bound inside =
      ap (λ n. drop n (members x ++ flat_map members rest)) (zero-add within)
      ∙ drop-append-le within (members x) (flat_map members rest) (omega (arith, inside))
  run_within (x ∷ rest) d (suc at) within bound inside =
      let before = length (flat_map members (take at rest)) in
      let sum : length (members x ++ flat_map members (take at rest)) + within ≡ length (members x) + (before + within)
      = omega (arith, length-append (members x) (flat_map members (take at rest))) in
      ap (λ n. drop n (members x ++ flat_map members rest)) sum
      ∙ drop-append-add (members x) (flat_map members rest) (before + within)
      ∙ run_within rest d at within (omega (arith, bound)) inside

  -- a run of one block's members is a run of all members
  pub run_of_a_block : (blocks slice : List X) (block : X) (at within : ℕ) {index : ℕ} {run : List A} → slice ≡ blocks →
      block ≡ slice_index_or blocks at block → at < length slice →
      length (flat_map members (take at slice)) + within ≡ index →
      ((d : X) → within < length (members (slice_index_or slice at d))) →
      run ≡ take (length run) (drop within (members block)) → run ≡ take (length run) (drop index (flat_map members blocks))
  run_of_a_block blocks slice block at within {index = index} {run = run} same stands bound before inside is =
      let found : slice_index_or slice at block ≡ block = ap (λ xs. slice_index_or xs at block) same ∙ sym stands in
      let long = longest_run run (drop within (members block)) is in
      let further = flat_map members (drop (suc at) slice) in
      is
      ∙ sym (take-append-le (length run) (drop within (members block)) further long)
      ∙ ap (λ x. take (length run) (drop within (members x) ++ further)) (sym found)
      ∙ ap (take (length run)) (sym (run_within slice block at within bound (inside block)))
      ∙ ap (λ n. take (length run) (drop n (flat_map members slice))) before
      ∙ ap (λ xs. take (length run) (drop index (flat_map members xs))) same

  -- so may one of which the length is found to be 0
  pub empty_goes : (blocks : List X) (block : X) (at n : ℕ) {left : List X} → left ≡ remove blocks at → at < length blocks →
      block ≡ slice_index_or blocks at block → n ≡ length (members block) → n ≡ 0 → flat_map members left ≡ flat_map members blocks
  empty_goes blocks block at n is bound stands len none =
      ap (flat_map members) is
      ∙ emptied blocks block at bound (ap members (sym stands) ∙ nil_from_length (members block) (sym len ∙ none))

  -- the member of a block is the one that stands among all
  pub got_within : (blocks : List X) (d : X) (at within : ℕ) → at < length blocks →
      within < length (members (slice_index_or blocks at d)) →
      slice_get (members (slice_index_or blocks at d)) within
      ≡ slice_get (flat_map members blocks) (length (flat_map members (take at blocks)) + within)
  got_within [] d at within bound inside = absurd (omega (arith, bound))
  got_within (x ∷ rest) d zero within bound inside =
      sym (get_in_front (members x) (flat_map members rest) within inside)
      ∙ ap (slice_get (members x ++ flat_map members rest)) (sym (zero-add within))
  got_within (x ∷ rest) d (suc at) within bound inside =
      let before = length (flat_map members (take at rest)) in
      let sum : length (members x) + (before + within) ≡ length (members x ++ flat_map members (take at rest)) + within
      = omega (arith, length-append (members x) (flat_map members (take at rest))) in
      got_within rest d at within (omega (arith, bound)) inside
      ∙ sym (get_behind (members x) (flat_map members rest) (before + within))
      ∙ ap (slice_get (members x ++ flat_map members rest)) sum

  -- the same of a block that was found
  pub stands_among_all : (blocks : List X) (block : X) (at within : ℕ) {found : Option A} → at < length blocks →
      block ≡ slice_index_or blocks at block → within < length (members (slice_index_or blocks at block)) →
      found ≡ slice_get (members block) within →
      found ≡ slice_get (flat_map members blocks) (length (flat_map members (take at blocks)) + within)
  stands_among_all blocks block at within bound stands inside is =
      is ∙ ap (λ x. slice_get (members x) within) stands ∙ got_within blocks block at within bound inside

  -- what is left of all members once one of them is removed from its block
  pub left_of_all : (blocks : List X) (old block : X) (at within : ℕ) → at < length blocks →
      old ≡ slice_index_or blocks at old → within < length (members (slice_index_or blocks at old)) →
      members block ≡ remove (members old) within →
      flat_map members (slice_set blocks at block)
      ≡ remove (flat_map members blocks) (length (flat_map members (take at blocks)) + within)
  left_of_all blocks old block at within bound stands inside is =
      removed_within blocks block old at within bound inside (is ∙ ap (λ x. remove (members x) within) stands)
