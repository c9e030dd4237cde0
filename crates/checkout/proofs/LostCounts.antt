-- How many lines of a directory are gone.
use Rattle.std.proofs.Common.{◌≡◌, ℕ, zero, suc, ◌+◌, ◌<◌, ◌≤◌, ◌==◌, ◌&&◌, ◌||◌, Bool, true, false, cond, if◌then◌else◌, List, [], ◌∷◌, Some, refl, ap, ◌∙◌, arith}
use Rattle.std.proofs.lemmas.Bool.Decides.{nat_tests}
use Rattle.std.specs.List.{slice_get}
use Rattle.checkout.specs.Overlay.{lost_in}
use Rattle.manifest.specs.Manifest.{Line, kids_in}

pub lost-le-kids : (gone : ℕ → Bool) (dir id : ℕ) (ls : List Line) → lost_in gone dir id ls ≤ kids_in dir ls
lost-le-kids gone dir id [] = omega arith
lost-le-kids gone dir id (l ∷ ls) =
    let rest = lost-le-kids gone dir (id + 1) ls in
    elim (l.dir.0 == dir) as (λ b. (if b && gone id then 1 else 0) + lost_in gone dir (id + 1) ls ≤ (if b then 1 else 0) + kids_in dir ls) [
      | false ↦ omega (arith, rest)
      | true ↦ elim (gone id) as (λ b. (if b then 1 else 0) + lost_in gone dir (id + 1) ls ≤ 1 + kids_in dir ls) [ true ↦ omega (arith, rest) | false ↦ omega (arith, rest) ]
    ]

-- nothing is gone at first
pub lost_in-none : (gone : ℕ → Bool) → ((q : ℕ) → gone q ≡ false) → (dir id : ℕ) (ls : List Line) → lost_in gone dir id ls ≡ 0
lost_in-none gone none dir id [] = refl
lost_in-none gone none dir id (l ∷ ls) =
    let rest = lost_in-none gone none dir (id + 1) ls in
    let here = none id in
    rw (here, rest) (elim (l.dir.0 == dir) as (λ b. (if b && false then 1 else 0) + 0 ≡ 0) [ true ↦ refl | false ↦ refl ])

-- a line that is left
pub record IsLeft (gone : ℕ → Bool) (dir id : ℕ) (ls : List Line) : Type 0 where
  pub place : ℕ
  pub line : Line
  pub here : slice_get ls place ≡ Some line
  pub in_dir : line.dir.0 ≡ dir
  pub is_left : gone (id + place) ≡ false

left_behind : (gone : ℕ → Bool) (dir id : ℕ) (l : Line) (ls : List Line) → IsLeft gone dir (id + 1) ls → IsLeft gone dir id (l ∷ ls)
left_behind gone dir id l ls r = record { place = suc r.place; line = r.line; here = r.here; in_dir = r.in_dir; is_left = ap gone (omega arith) ∙ r.is_left }

-- fewer gone than there were: one is left
pub left_from_lost : (gone : ℕ → Bool) (dir id : ℕ) (ls : List Line) → lost_in gone dir id ls < kids_in dir ls → IsLeft gone dir id ls
left_from_lost gone dir id [] h = absurd (omega arith)
left_from_lost gone dir id (l ∷ ls) h =
    elim (l.dir.0 == dir) as (λ b. (l.dir.0 == dir) ≡ b → (if b && gone id then 1 else 0) + lost_in gone dir (id + 1) ls < (if b then 1 else 0) + kids_in dir ls → IsLeft gone dir id (l ∷ ls)) [
      | false ↦ λ e g. left_behind gone dir id l ls (left_from_lost gone dir (id + 1) ls (omega (arith, g)))
      | true ↦ λ e g. elim (gone id) as (λ b. gone id ≡ b → (if b then 1 else 0) + lost_in gone dir (id + 1) ls < 1 + kids_in dir ls → IsLeft gone dir id (l ∷ ls)) [
        | true ↦ λ k j. left_behind gone dir id l ls (left_from_lost gone dir (id + 1) ls (omega (arith, j)))
        | false ↦ λ k j. record { place = 0; line = l; here = refl; in_dir = grind (arith, nat_tests); is_left = ap gone (omega arith) ∙ k }
      ] refl g
    ] refl h

-- one is left: fewer are gone than there were
pub lost_from_left : (gone : ℕ → Bool) (dir id i : ℕ) (ls : List Line) (line : Line) → slice_get ls i ≡ Some line → (line.dir.0 == dir) ≡ true → gone (id + i) ≡ false → lost_in gone dir id ls < kids_in dir ls
lost_from_left gone dir id i [] line here in_dir is_left = absurd (cc)
lost_from_left gone dir id zero (l ∷ ls) line here in_dir is_left =
    let same : l ≡ line = cc in
    let is_in : (l.dir.0 == dir) ≡ true = ap (λ (x : Line). x.dir.0 == dir) same ∙ in_dir in
    let left : gone id ≡ false = ap gone (omega arith) ∙ is_left in
    let rest = lost-le-kids gone dir (id + 1) ls in
    rw (is_in, left) (omega (arith, rest))
lost_from_left gone dir id (suc i) (l ∷ ls) line here in_dir is_left =
    let rest = lost_from_left gone dir (id + 1) i ls line here in_dir (ap gone (omega arith) ∙ is_left) in
    elim (l.dir.0 == dir) as (λ b. (if b && gone id then 1 else 0) + lost_in gone dir (id + 1) ls < (if b then 1 else 0) + kids_in dir ls) [
      | false ↦ omega (arith, rest)
      | true ↦ elim (gone id) as (λ b. (if b then 1 else 0) + lost_in gone dir (id + 1) ls < 1 + kids_in dir ls) [ true ↦ omega (arith, rest) | false ↦ omega (arith, rest) ]
    ]

module _ (gone more : ℕ → Bool) (file : ℕ) (one_more : (q : ℕ) → more q ≡ ((q == file) || gone q)) (was_left : gone file ≡ false) (dir : ℕ) where
  -- nothing changes behind the file
  lost-same : (id : ℕ) (ls : List Line) → file < id → lost_in more dir id ls ≡ lost_in gone dir id ls
  lost-same id [] h = refl
  lost-same id (l ∷ ls) h =
      let other : (id == file) ≡ false = grind (arith, nat_tests) in
      let same : more id ≡ gone id = one_more id ∙ ap (λ b. b || gone id) other in
      let rest = lost-same (id + 1) ls (omega (arith, h)) in
      rw (same, rest) refl

  -- one more line of the file's directory is gone
  pub lost-one_more : (id i : ℕ) (ls : List Line) (line : Line) → slice_get ls i ≡ Some line → file ≡ id + i → lost_in more dir id ls ≡ lost_in gone dir id ls + cond (line.dir.0 == dir) 1 0
  lost-one_more id i [] line here e = absurd (cc)
  lost-one_more id zero (l ∷ ls) line here e =
      let same : l ≡ line = cc in
      let at : id ≡ file = omega (arith, e) in
      let yes : (id == file) ≡ true = grind (arith, nat_tests) in
      let now : more id ≡ true = one_more id ∙ ap (λ b. b || gone id) yes in
      let before : gone id ≡ false = ap gone at ∙ was_left in
      let rest = lost-same (id + 1) ls (omega (arith, at)) in
      rw (now, before, rest, ← same) (elim (l.dir.0 == dir) as (λ b. (if b && true then 1 else 0) + lost_in gone dir (id + 1) ls ≡ (if b && false then 1 else 0) + lost_in gone dir (id + 1) ls + cond b 1 0) [ true ↦ omega arith | false ↦ omega arith ])
  lost-one_more id (suc i) (l ∷ ls) line here e =
      let other : (id == file) ≡ false = grind (arith, nat_tests) in
      let same : more id ≡ gone id = one_more id ∙ ap (λ b. b || gone id) other in
      let rest = lost-one_more (id + 1) i ls line here (omega (arith, e)) in
      rw (same, rest) (omega arith)
