-- Ways up, of links in which no file stands twice.
use Rattle.std.proofs.Common.{◌≡◌, ◌==◌, ◌||◌, ◌⊎◌, true, false, List, [], ◌∷◌, ◌++◌, Option, Some, None, refl, sym, ap, subst, ◌∙◌, inl, inr, arith, eq-eqb}
use Rattle.std.proofs.lemmas.Bool.Decides.{nat_tests}
use Rattle.std.specs.FinMap.{FinMap}
use Rattle.eden_base.specs.declared.number.FileId.{FileId}
use Rattle.checkout.specs.Around.{among, first_or, AreApart, IsDirAbove, IsUnder, IsWay, Leads}
use Rattle.manifest.specs.Tree.{link_cmp, StandsIn}
use Rattle.checkout.proofs.AroundPaths.{circle_goes_up, leads_down, leads_itself, leads_on, one_dir}
use Rattle.manifest.proofs.ManifestTree.{same_id}

-- a file that is among some is the first, or among the others
pub first_or_later : (file x : FileId) (xs : List FileId) → among file (x ∷ xs) ≡ true → (x ≡ file) ⊎ (among file xs ≡ true)
first_or_later file x xs h =
    elim (x.0 == file.0) as (λ b. (x.0 == file.0) ≡ b → (b || among file xs) ≡ true → (x ≡ file) ⊎ (among file xs ≡ true)) [
      | true ↦ λ e _. inl (same_id x file (grind (arith, nat_tests)))
      | false ↦ λ e g. inr g
    ] refl h

pub first_among : (x : FileId) (xs : List FileId) → among x (x ∷ xs) ≡ true
first_among x xs = ap (λ b. b || among x xs) (eq-eqb x.0 x.0 refl)

pub later_among : (file x : FileId) (xs : List FileId) → among file xs ≡ true → among file (x ∷ xs) ≡ true
later_among file x xs h = elim (x.0 == file.0) as (λ b. (b || among file xs) ≡ true) [ true ↦ refl | false ↦ h ]

-- what is above a file of a way up: a file of the way, or what is above its end
pub record IsNext (links : FinMap link_cmp FileId) (way : List FileId) (top : Option FileId) (file : FileId) : Type 0 where
  pub above : Option FileId
  pub is : IsDirAbove links file above
  pub there : (above ≡ top) ⊎ ((dir : FileId) × (above ≡ Some dir) × (among dir way ≡ true))

first_there : (way : List FileId) (top : Option FileId) → (first_or way top ≡ top) ⊎ ((dir : FileId) × (first_or way top ≡ Some dir) × (among dir way ≡ true))
first_there [] top = inl refl
first_there (x ∷ xs) top = inr (x, refl, first_among x xs)

module _ (links : FinMap link_cmp FileId) where
  push_first : (way : List FileId) (top : FileId) (above : Option FileId) → first_or way (Some top) ≡ first_or (way ++ top ∷ []) above
  push_first [] top above = refl
  push_first (x ∷ xs) top above = refl

  -- a way up goes on from what is above its end
  pub goes_on : (way : List FileId) (top : FileId) (above : Option FileId) → IsWay links way (Some top) → IsDirAbove links top above → IsWay links (way ++ top ∷ []) above
  goes_on [] top above is s = (s, tt)
  goes_on (x ∷ xs) top above is s = (subst (λ (o : Option FileId). IsDirAbove links x o) (push_first xs top above) is.0, goes_on xs top above is.1 s)

  pub next_of : (way : List FileId) (top : Option FileId) (file : FileId) → IsWay links way top → among file way ≡ true → IsNext links way top file
  next_of [] top file is h = absurd (cc)
  next_of (x ∷ xs) top file is h =
      elim (first_or_later file x xs h) [
        | inl same ↦ record {
          above = first_or xs top;
          is = subst (λ (f : FileId). IsDirAbove links f (first_or xs top)) same is.0;
          there = elim (first_there xs top) [ inl e ↦ inl e | inr r ↦ inr (r.0, r.1, later_among r.0 x xs r.2) ];
        }
        | inr later ↦
            let n = next_of xs top file is.1 later in
            record { above = n.above; is = n.is; there = elim n.there [ inl e ↦ inl e | inr r ↦ inr (r.0, r.1, later_among r.0 x xs r.2) ] }
      ]

  -- what is above the end leads to the first of a way up, and so to each of its files
  pub top_leads : (way : List FileId) (top first : FileId) → IsWay links way (Some top) → first_or way (Some top) ≡ Some first → Leads links top first
  top_leads [] top first is e = subst (λ (f : FileId). Leads links top f) (let s : top ≡ first = cc in s) (leads_itself links top)
  top_leads (x ∷ xs) top first is e =
      elim (first_or xs (Some top)) as (λ o. first_or xs (Some top) ≡ o → IsDirAbove links x o → Leads links top first) [
        | None ↦ λ k s. absurd (first_some xs k)
        | Some dir ↦ λ k s. subst (λ (f : FileId). Leads links top f) (let s : x ≡ first = cc in s) (leads_on links top dir x (top_leads xs top dir is.1 k) (leads_down links x dir s))
      ] refl is.0
    where
      first_some : (way : List FileId) → first_or way (Some top) ≡ None → ⊥
      first_some [] k = cc
      first_some (y ∷ ys) k = cc

  pub top_leads_to_dirs : (way : List FileId) (top file : FileId) → IsWay links way (Some top) → among file way ≡ true → (dir : FileId) × Leads links top dir × StandsIn links file dir
  top_leads_to_dirs [] top file is h = absurd (cc)
  top_leads_to_dirs (x ∷ xs) top file is h =
      elim (first_or_later file x xs h) [
        | inl same ↦
            elim (first_or xs (Some top)) as (λ o. first_or xs (Some top) ≡ o → IsDirAbove links x o → (dir : FileId) × Leads links top dir × StandsIn links file dir) [
              | None ↦ λ k s. absurd (first_some xs k)
              | Some dir ↦ λ k s. (dir, top_leads xs top dir is.1 k, subst (λ (f : FileId). StandsIn links f dir) same s)
            ] refl is.0
        | inr later ↦ top_leads_to_dirs xs top file is.1 later
      ]
    where
      first_some : (way : List FileId) → first_or way (Some top) ≡ None → ⊥
      first_some [] k = cc
      first_some (y ∷ ys) k = cc

  -- each file of a way up is the first, or above it
  pub leads_to_first : (x : FileId) (xs : List FileId) (top : Option FileId) (file : FileId) → IsWay links (x ∷ xs) top → among file (x ∷ xs) ≡ true → Leads links file x
  leads_to_first x [] top file is h =
      elim (first_or_later file x [] h) [
        | inl same ↦ subst (λ (f : FileId). Leads links f x) same (leads_itself links x)
        | inr later ↦ absurd (cc)
      ]
  leads_to_first x (y ∷ ys) top file is h =
      elim (first_or_later file x (y ∷ ys) h) [
        | inl same ↦ subst (λ (f : FileId). Leads links f x) same (leads_itself links x)
        | inr later ↦ leads_on links file y x (leads_to_first y ys top file is.1 later) (leads_down links x y is.0)
      ]

  -- a way up that ends where it began is a circle
  pub is_circle : (first : FileId) (rest : List FileId) (file : FileId) → IsWay links (first ∷ rest) (Some first) → among file (first ∷ rest) ≡ true → IsUnder links file file
  is_circle first rest file is h =
      let n = top_leads_to_dirs (first ∷ rest) first file is h in
      record { dir = n.0; to_dir = leads_on links file first n.0 (leads_to_first first rest (Some first) file is h) n.1; stands = n.2 }

  -- the file leads to what is above an end, and something is
  abbrev pub ToTop : FileId → Option FileId → Type 0
  ToTop file None = ⊥
  ToTop file (Some top) = Leads links file top

  -- from its first file on, a way up doesn't leave a circle
  climbs : AreApart links → (way : List FileId) (top : Option FileId) (first : FileId) → IsWay links way top → first_or way top ≡ Some first → IsUnder links first first → ToTop first top
  climbs are [] top first is e on = subst (λ (o : Option FileId). ToTop first o) (sym e) (leads_itself links first)
  climbs are (x ∷ xs) top first is e on =
      let same : x ≡ first = cc in
      let above : IsDirAbove links first (first_or xs top) = subst (λ (f : FileId). IsDirAbove links f (first_or xs top)) same is.0 in
      elim (first_or xs top) as (λ o. first_or xs top ≡ o → IsDirAbove links first o → ToTop first top) [
        | None ↦ λ k s. absurd (s on.dir on.stands)
        | Some dir ↦ λ k s.
            let up = circle_goes_up links are first dir on s in
            further top first dir up.0 (climbs are xs top dir is.1 k up.1)
      ] refl above
    where
      further : (top : Option FileId) (a b : FileId) → Leads links a b → ToTop b top → ToTop a top
      further None a b p q = q
      further (Some t) a b p q = leads_on links a b t p q

  -- a file of a way up that is on a circle leads to what is above the end
  pub circle_to_top : AreApart links → (way : List FileId) (top : Option FileId) (file : FileId) → IsWay links way top → among file way ≡ true → IsUnder links file file → ToTop file top
  circle_to_top are [] top file is h on = absurd (cc)
  circle_to_top are (x ∷ xs) top file is h on =
      elim (first_or_later file x xs h) [
        | inl same ↦ climbs are (x ∷ xs) top file is (ap (λ (f : FileId). Some f) same) on
        | inr later ↦ circle_to_top are xs top file is.1 later on
      ]

  -- the directory of a way's file is on the way, or above its end
  pub dir_of_way : AreApart links → (way : List FileId) (top : Option FileId) (file dir : FileId) → IsWay links way top → among file way ≡ true → StandsIn links file dir → (top ≡ Some dir) ⊎ (among dir way ≡ true)
  dir_of_way are way top file dir is h s =
      let n = next_of way top file is h in
      elim n.above as (λ o. n.above ≡ o → IsDirAbove links file o → (top ≡ Some dir) ⊎ (among dir way ≡ true)) [
        | None ↦ λ k d. absurd (d dir s)
        | Some other ↦ λ k d.
            let same : other ≡ dir = one_dir links are file other dir d s in
            elim n.there [
              | inl e ↦ inl (sym e ∙ k ∙ ap (λ (f : FileId). Some f) same)
              | inr r ↦ let w = r.1 in let is_dir : r.0 ≡ dir = cc in inr (ap (λ (f : FileId). among f way) (sym is_dir) ∙ r.2)
            ]
      ] refl n.is
