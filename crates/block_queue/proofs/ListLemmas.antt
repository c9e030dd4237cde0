-- A list and the rest of it from an index on; two lists one after the other.
use Rattle.std.proofs.Common.{◌≡◌, ℕ, ◌+◌, ◌-◌, ◌<◌, ◌≤◌, List, [], ◌∷◌, ◌++◌, length, take, drop, remove, slice_get, Option, refl, ◌∙◌, sym, ap, arith, zero, suc, zero-add}
use Rattle.std.proofs.lemmas.List.Edits.{remove-append_left, remove-append_right}
use Rattle.std.proofs.lemmas.List.{append_assoc, drop-append-le, length-take}
use Rattle.std.proofs.Math.Seq.{take-length, drop-append-add, take-append-le}

module _ {A : Type 0} where
  -- the rest of a list is as much of that rest as there is
  pub all_of_a_run : {run rest : List A} → run ≡ rest → run ≡ take (length run) rest
  all_of_a_run {run = run} is = sym (take-length run) ∙ ap (take (length run)) is

  -- a run is no longer than the list of which it is one
  pub longest_run : (run rest : List A) → run ≡ take (length run) rest → length run ≤ length rest
  longest_run run rest is = omega (arith, ap length is, length-take (length run) rest)

  -- behind the first of two lists stands the second
  pub behind_the_front : (front back : List A) {whole : List A} (index : ℕ) → front ++ back ≡ whole →
      length front ≤ index → drop (index - length front) back ≡ drop index whole
  behind_the_front front back index is past =
      let at : length front + (index - length front) ≡ index = omega arith in
      sym (drop-append-add front back (index - length front)) ∙ ap (λ n. drop n (front ++ back)) at ∙ ap (drop index) is

  -- a member of the first of two lists
  pub get_in_front : (front back : List A) (index : ℕ) → index < length front →
      slice_get (front ++ back) index ≡ slice_get front index
  get_in_front [] back index inside = absurd (omega (arith, inside))
  get_in_front (x ∷ front) back zero inside = refl
  get_in_front (x ∷ front) back (suc index) inside = get_in_front front back index (omega (arith, inside))

  -- a member of the second of two lists
  pub get_behind : (front back : List A) (index : ℕ) → slice_get (front ++ back) (length front + index) ≡ slice_get back index
  get_behind [] back index = ap (slice_get back) (zero-add index)
  get_behind (x ∷ front) back index =
      let next : length (x ∷ front) + index ≡ suc (length front + index) = omega arith in
      ap (slice_get (x ∷ front ++ back)) next ∙ get_behind front back index

  -- a run in the first of two lists
  run_in_front : (front back : List A) (index : ℕ) {run : List A} → index ≤ length front →
      run ≡ take (length run) (drop index front) → run ≡ take (length run) (drop index (front ++ back))
  run_in_front front back index {run = run} within is =
      is ∙ sym (take-append-le (length run) (drop index front) back (longest_run run (drop index front) is))
      ∙ ap (take (length run)) (sym (drop-append-le index front back within))

  -- a run in the second of two lists
  pub run_behind : (front back : List A) (n index : ℕ) {run : List A} → n ≡ length front → n ≤ index →
      run ≡ take (length run) (drop (index - n) back) → run ≡ take (length run) (drop index (front ++ back))
  run_behind front back n index {run = run} len past is =
      is ∙ ap (λ m. take (length run) (drop (index - m) back)) len
      ∙ ap (take (length run)) (behind_the_front front back index refl (omega (arith, len, past)))

  -- a run in the second of three lists
  pub run_in_the_middle : (front middle back : List A) (n m index : ℕ) {whole run : List A} →
      front ++ (middle ++ back) ≡ whole → n ≡ length front → m ≡ length middle → n ≤ index → index - n < m →
      run ≡ take (length run) (drop (index - n) middle) → run ≡ take (length run) (drop index whole)
  run_in_the_middle front middle back n m index {run = run} all len len-2 past inside is =
      run_behind front (middle ++ back) n index len past
      (run_in_front middle back (index - n) (omega (arith, len-2, inside)) is)
      ∙ ap (λ xs. take (length run) (drop index xs)) all

  -- a run in the third of three lists
  pub run_at_the_back : (front middle back : List A) (n m index : ℕ) {whole run : List A} →
      front ++ (middle ++ back) ≡ whole → n ≡ length front → m ≡ length middle → n ≤ index → m ≤ index - n →
      run ≡ take (length run) (drop (index - n - m) back) → run ≡ take (length run) (drop index whole)
  run_at_the_back front middle back n m index {run = run} all len len-2 past past-2 is =
      run_behind front (middle ++ back) n index len past (run_behind middle back m (index - n) len-2 past-2 is)
      ∙ ap (λ xs. take (length run) (drop index xs)) all

  -- a member of the second of two lists, by its index among all
  pub got_behind : (front back : List A) (n index : ℕ) {got : Option A} → n ≡ length front → n ≤ index →
      got ≡ slice_get back (index - n) → got ≡ slice_get (front ++ back) index
  got_behind front back n index len past is =
      let at : length front + (index - n) ≡ index = omega (arith, len, past) in
      is ∙ sym (get_behind front back (index - n)) ∙ ap (slice_get (front ++ back)) at

  -- a member of the third of three lists
  pub got_at_the_back : (front middle back : List A) (n m index : ℕ) {whole : List A} {got : Option A} →
      front ++ (middle ++ back) ≡ whole → n ≡ length front → m ≡ length middle → n ≤ index → m ≤ index - n →
      got ≡ slice_get back (index - n - m) → got ≡ slice_get whole index
  got_at_the_back front middle back n m index all len len-2 past past-2 is =
      got_behind front (middle ++ back) n index len past (got_behind middle back m (index - n) len-2 past-2 is)
      ∙ ap (λ xs. slice_get xs index) all

  -- what stands behind three lists stands behind the last of them
  joined : (a b c rest : List A) → (a ++ (b ++ c)) ++ rest ≡ a ++ (b ++ (c ++ rest))
  joined a b c rest = append_assoc a (b ++ c) rest ∙ ap (λ xs. a ++ xs) (append_assoc b c rest)

  -- a member is removed from the first of two lists
  removed_in_front : (front back : List A) (index : ℕ) {left : List A} → index < length front →
      left ≡ remove front index → left ++ back ≡ remove (front ++ back) index
  removed_in_front front back index inside is =
      ap (λ xs. xs ++ back) is ∙ sym (remove-append_left front back index inside)

  -- a member is removed from the second of two lists
  pub removed_behind : (front back : List A) (n index : ℕ) {left : List A} → n ≡ length front → n ≤ index →
      left ≡ remove back (index - n) → front ++ left ≡ remove (front ++ back) index
  removed_behind front back n index len past is =
      ap (λ xs. front ++ xs) is ∙ sym (remove-append_right front back n index (sym len) past)

  -- a member is removed from the first of three lists
  pub removed_at_the_front : (front back : List A) (n index : ℕ) {whole left : List A} → front ++ back ≡ whole →
      n ≡ length front → index < n → left ≡ remove front index → left ++ back ≡ remove whole index
  removed_at_the_front front back n index all len inside is =
      removed_in_front front back index (omega (arith, len, inside)) is ∙ ap (λ xs. remove xs index) all

  -- a member is removed from the second of three lists
  pub removed_in_the_middle : (front middle back : List A) (n m index : ℕ) {whole left : List A} →
      front ++ (middle ++ back) ≡ whole → n ≡ length front → m ≡ length middle → n ≤ index → index - n < m →
      left ≡ remove middle (index - n) → front ++ (left ++ back) ≡ remove whole index
  removed_in_the_middle front middle back n m index all len len-2 past inside is =
      removed_behind front (middle ++ back) n index len past (removed_in_front middle back (index - n) (omega (arith, len-2, inside)) is)
      ∙ ap (λ xs. remove xs index) all

  -- a member is removed from the third of three lists
  pub removed_at_the_back : (front middle back : List A) (n m index : ℕ) {whole left : List A} →
      front ++ (middle ++ back) ≡ whole → n ≡ length front → m ≡ length middle → n ≤ index → m ≤ index - n →
      left ≡ remove back (index - n - m) → front ++ (middle ++ left) ≡ remove whole index
  removed_at_the_back front middle back n m index all len len-2 past past-2 is =
      removed_behind front (middle ++ back) n index len past (removed_behind middle back m (index - n) len-2 past-2 is)
      ∙ ap (λ xs. remove xs index) all

  -- a member is removed from the first of four lists, and the three lists before the last are cut in another way
  pub removed_before_the_back : (front groups rings back front-2 groups-2 rings-2 : List A) (n index : ℕ) {whole : List A} →
      front ++ (groups ++ (rings ++ back)) ≡ whole → n ≡ length front → index < n →
      front-2 ++ (groups-2 ++ rings-2) ≡ remove front index ++ (groups ++ rings) →
      front-2 ++ (groups-2 ++ (rings-2 ++ back)) ≡ remove whole index
  removed_before_the_back front groups rings back front-2 groups-2 rings-2 n index all len inside is =
      sym (joined front-2 groups-2 rings-2 back) ∙ ap (λ xs. xs ++ back) is ∙ joined (remove front index) groups rings back
      ∙ removed_at_the_front front (groups ++ (rings ++ back)) n index all len inside refl
