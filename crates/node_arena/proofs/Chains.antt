-- A chain of links, with a node taken out of it or put into it.
use Rattle.std.proofs.Common.{◌≡◌, ℕ, true, false, eqb, List, [], ◌∷◌, ◌⊎◌, inl, inr, refl, sym, ap, ◌∙◌, subst}
use Rattle.std.proofs.lemmas.Bool.{cases_Bool, eqb-true, eqb-false, eq-eqb, ne_eqb, both_ways}
use Rattle.node_arena.specs.Links.{updated, has, IsApart, strike, IsChain, next_without, prev_without, next_with, prev_with}

module _ {X : Type 0} (f : ℕ → X) (i : ℕ) (v : X) (k : ℕ) where
  pub updated_here : i ≡ k → updated f i v k ≡ v
  updated_here e = rw (eq-eqb i k e) refl

  pub updated_apart : eqb i k ≡ false → updated f i v k ≡ f k
  updated_apart e = rw e refl

pub eqb_turned : (a b : ℕ) → eqb a b ≡ false → eqb b a ≡ false
eqb_turned a b e = ne_eqb b a (λ q. eqb-false a b e (sym q))

-- what is not in a list is neither its head nor in the rest
pub has_not : (k x : ℕ) (xs : List ℕ) → has k (x ∷ xs) ≡ false → (eqb k x ≡ false) × (has k xs ≡ false)
has_not k x xs h = elim (cases_Bool (eqb k x)) [
  | inl e ↦ let yes : has k (x ∷ xs) ≡ true = rw e refl in absurd (both_ways (has k (x ∷ xs)) h yes)
  | inr e ↦ let on : has k (x ∷ xs) ≡ has k xs = rw e refl in (e, sym on ∙ h)
]

pub has_not_from : (k x : ℕ) (xs : List ℕ) → eqb k x ≡ false → has k xs ≡ false → has k (x ∷ xs) ≡ false
has_not_from k x xs e h = rw e h

pub has_first : (k x : ℕ) (xs : List ℕ) → k ≡ x → has k (x ∷ xs) ≡ true
has_first k x xs e = rw (eq-eqb k x e) refl

pub has_later : (k x : ℕ) (xs : List ℕ) → has k xs ≡ true → has k (x ∷ xs) ≡ true
has_later k x xs h = elim (cases_Bool (eqb k x)) [
  | inl e ↦ rw e refl
  | inr e ↦ rw e h
]

pub has_in_rest : (k x : ℕ) (xs : List ℕ) → eqb k x ≡ false → has k (x ∷ xs) ≡ true → has k xs ≡ true
has_in_rest k x xs e h = let on : has k (x ∷ xs) ≡ has k xs = rw e refl in sym on ∙ h

-- two indexes differ if one is in the list and the other is not
pub differ : (k m : ℕ) (xs : List ℕ) → has k xs ≡ true → has m xs ≡ false → eqb k m ≡ false
differ k m xs h g = elim (cases_Bool (eqb k m)) [
  | inl e ↦ absurd (both_ways (has m xs) g (subst (λ (q : ℕ). has q xs ≡ true) (eqb-true k m e) h))
  | inr e ↦ e
]

module _ (next prev : ℕ → ℕ) where
  -- links written at indexes that are not on the way
  pub frame : (i v j w a : ℕ) (xs : List ℕ) (z : ℕ) → IsChain next prev a xs z → has i (a ∷ xs) ≡ false → has j (z ∷ xs) ≡ false → IsChain (updated next i v) (updated prev j w) a xs z
  frame i v j w a [] z c hi hj = (updated_apart next i v a (has_not i a [] hi).0 ∙ c.0, updated_apart prev j w z (has_not j z [] hj).0 ∙ c.1)
  frame i v j w a (x ∷ xs) z c hi hj =
      let i_on = has_not i a (x ∷ xs) hi in let j_on = has_not j z (x ∷ xs) hj in (
        updated_apart next i v a i_on.0 ∙ c.0,
        updated_apart prev j w x (has_not j x xs j_on.1).0 ∙ c.1,
        frame i v j w x xs z c.2 i_on.1 (has_not_from j z xs j_on.0 (has_not j x xs j_on.1).1),
      )

module _ (next prev : ℕ → ℕ) where
  -- the first link leads to the head of the list, or to its end
  pub first_link : (a : ℕ) (xs : List ℕ) (z : ℕ) → IsChain next prev a xs z → (has (next a) xs ≡ true) ⊎ (next a ≡ z)
  first_link a [] z c = inr c.0
  first_link a (x ∷ xs) z c = inl (has_first (next a) x xs c.0)

  -- the link before a node of the list leads from the list, or from its start
  pub link_before : (x a : ℕ) (xs : List ℕ) (z : ℕ) → IsChain next prev a xs z → has x xs ≡ true → has (prev x) (a ∷ xs) ≡ true
  link_before x a [] z c h = cc
  link_before x a (y ∷ ys) z c h = elim (cases_Bool (eqb x y)) [
    | inl e ↦ has_first (prev x) a (y ∷ ys) (ap prev (eqb-true x y e) ∙ c.1)
    | inr e ↦ has_later (prev x) a (y ∷ ys) (link_before x y ys z c.2 (has_in_rest x y ys e h))
  ]

  -- the link after it leads to the list, or to its end
  pub link_after : (x a : ℕ) (xs : List ℕ) (z : ℕ) → IsChain next prev a xs z → has x xs ≡ true → (has (next x) xs ≡ true) ⊎ (next x ≡ z)
  link_after x a [] z c h = cc
  link_after x a (y ∷ ys) z c h = elim (cases_Bool (eqb x y)) [
    | inl e ↦ elim (first_link y ys z c.2) [
      | inl on ↦ inl (has_later (next x) y ys (ap (λ k. has (next k) ys) (eqb-true x y e) ∙ on))
      | inr last ↦ inr (ap next (eqb-true x y e) ∙ last)
    ]
    | inr e ↦ elim (link_after x y ys z c.2 (has_in_rest x y ys e h)) [
      | inl on ↦ inl (has_later (next x) y ys on)
      | inr last ↦ inr last
    ]
  ]

  -- the head of a list is taken out
  skipped : (a x : ℕ) (ys : List ℕ) (z : ℕ) → prev x ≡ a → IsChain next prev x ys z → has a ys ≡ false → has z ys ≡ false → IsApart ys
      → IsChain (next_without next prev x) (prev_without next prev x) a ys z
  skipped a x [] z back c ha hz ap' = (updated_here next (prev x) (next x) a back ∙ c.0, updated_here prev (next x) (prev x) z c.0 ∙ back)
  skipped a x (w ∷ ws) z back c ha hz ap' = (
    updated_here next (prev x) (next x) a back ∙ c.0,
    updated_here prev (next x) (prev x) w c.0 ∙ back,
    frame next prev (prev x) (next x) (next x) (prev x) w ws z c.2 (subst (λ (k : ℕ). has k (w ∷ ws) ≡ false) (sym back) ha)
        (subst (λ (k : ℕ). has k (z ∷ ws) ≡ false) (sym c.0) (has_not_from w z ws (eqb_turned z w (has_not z w ws hz).0) ap'.0)),
  )

  -- a node of the list is taken out
  pub taken_out : (x a : ℕ) (xs : List ℕ) (z : ℕ) → IsChain next prev a xs z → has x xs ≡ true → has a xs ≡ false → has z xs ≡ false → IsApart xs
      → IsChain (next_without next prev x) (prev_without next prev x) a (strike x xs) z
  taken_out x a [] z c h ha hz ap' = cc
  taken_out x a (y ∷ ys) z c h ha hz ap' = elim (cases_Bool (eqb x y)) [
    | inl e ↦ let same = eqb-true x y e in let a_on = has_not a y ys ha in let z_on = has_not z y ys hz in
        rw e (skipped a x ys z (ap prev same ∙ c.1) (subst (λ (k : ℕ). IsChain next prev k ys z) (sym same) c.2) a_on.1 z_on.1 ap'.1)
    | inr e ↦ let on = has_in_rest x y ys e h in let z_on = has_not z y ys hz in
        let behind : eqb (next x) y ≡ false = elim (link_after x y ys z c.2 on) [
          | inl k ↦ differ (next x) y ys k ap'.0
          | inr last ↦ subst (λ (k : ℕ). eqb k y ≡ false) (sym last) z_on.0
        ] in
        rw e (
          updated_apart next (prev x) (next x) a (differ (prev x) a (y ∷ ys) (link_before x y ys z c.2 on) ha) ∙ c.0,
          updated_apart prev (next x) (prev x) y behind ∙ c.1,
          taken_out x y ys z c.2 on ap'.0 z_on.1 ap'.1,
        )
  ]

  -- a node is put right after the start
  pub put_in : (x a : ℕ) (xs : List ℕ) (z : ℕ) → IsChain next prev a xs z → eqb x a ≡ false → eqb x z ≡ false → has x xs ≡ false → has a xs ≡ false → has z xs ≡ false → IsApart xs
      → IsChain (next_with next a x) (prev_with next prev a x) a (x ∷ xs) z
  put_in x a [] z c xa xz hx ha hz ap' =
      let apart : eqb (next a) x ≡ false = subst (λ (k : ℕ). eqb k x ≡ false) (sym c.0) (eqb_turned x z xz) in (
        updated_here (updated next x (next a)) a x a refl,
        updated_apart (updated prev x a) (next a) x x apart ∙ updated_here prev x a x refl,
        (updated_apart (updated next x (next a)) a x x (eqb_turned x a xa) ∙ updated_here next x (next a) x refl ∙ c.0, updated_here (updated prev x a) (next a) x z c.0),
      )
  put_in x a (y ∷ ys) z c xa xz hx ha hz ap' =
      let x_on = has_not x y ys hx in let z_on = has_not z y ys hz in
      let apart : eqb (next a) x ≡ false = subst (λ (k : ℕ). eqb k x ≡ false) (sym c.0) (eqb_turned x y x_on.0) in
      let once : IsChain (updated next x (next a)) (updated prev x a) y ys z = frame next prev x (next a) x a y ys z c.2 hx (has_not_from x z ys xz x_on.1) in (
        updated_here (updated next x (next a)) a x a refl,
        updated_apart (updated prev x a) (next a) x x apart ∙ updated_here prev x a x refl,
        (
          updated_apart (updated next x (next a)) a x x (eqb_turned x a xa) ∙ updated_here next x (next a) x refl ∙ c.0,
          updated_here (updated prev x a) (next a) x y c.0,
          frame (updated next x (next a)) (updated prev x a) a x (next a) x y ys z once ha (subst (λ (k : ℕ). has k (z ∷ ys) ≡ false) (sym c.0) (has_not_from y z ys (eqb_turned z y z_on.0) ap'.0)),
        ),
      )
