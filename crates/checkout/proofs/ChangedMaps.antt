-- The links of a manifest with changes made: what stands at each place, and that they are the changed links.
use Rattle.std.proofs.Common.{◌≡◌, ◌≢◌, ◌⊎◌, ℕ, Bool, true, false, cond, List, [], ◌∷◌, map, Option, Some, None, refl, sym, ap, subst, ◌∙◌, inl, inr, arith}
use Rattle.std.proofs.lemmas.List.Elements.{All-contains, All-from_recursion, Contains-append_right}
use Rattle.std.proofs.lemmas.Map.Keys.{sorted_head, sorted_tail}
use Rattle.std.specs.Cmp.{tied_itself}
use Rattle.std.specs.FinMap.{FinMap, get, get-insert, get-remove}
use Rattle.std.specs.List.{AllByRecursion, Contains, find}
use Rattle.std.specs.List.Sorted.{IsStrictlySortedBy}
use Rattle.std.specs.Ordering.{is_eq, ordering_reverse}
use Rattle.std.specs.declared.cmp.Ordering.TheVariants.{Less}
use Rattle.eden_base.specs.declared.number.FileId.{FileId}
use Rattle.checkout.specs.declared.changes.Changes.{Changes}
use Rattle.manifest.specs.declared.link_change.LinkChange.{LinkChange}
use Rattle.checkout.specs.BadChanges.{changed_links, file_in, first_bad, first_link, gives_same, is_at, is_bad_link}
use Rattle.checkout.specs.Changed.{changed, links_with, put}
use Rattle.checkout.specs.Changes.{AreLinkChanges, IsLinkChange, place_of}
use Rattle.manifest.specs.Manifest.{Manifest}
use Rattle.manifest.specs.Tree.{Tree, child_of, link_cmp, links_from, tree_of}
use Rattle.checkout.proofs.ChangedLinks.{changed_links-get, lines_links-get}
use Rattle.checkout.proofs.FirstBadLaws.{IsGoodLink, gives_same_itself, links_good, places_rise}
use Rattle.manifest.proofs.FlatLemmas.{link_cmp_total, link_cmp-same}
use Rattle.manifest.proofs.ManifestTree.{same_id}
use Rattle.manifest.proofs.MapLemmas.{tied_key}

abbrev Links : Type 0
Links = FinMap link_cmp FileId

get-put : (links : Links) (place : ℕ × List ℕ) (target : Option FileId) (q : ℕ × List ℕ) → get (put links place target) q ≡ cond (is_at q place) target (get links q)
get-put links place None q = get-remove link_cmp_total links place q
get-put links place (Some file) q = get-insert link_cmp_total links place file q

-- what a change gives, or else what was there
abbrev pub target_else : Option FileId → Option LinkChange → Option FileId
target_else before None = before
target_else before (Some change) = change.target

pub links_with-put : (links : Links) (changes : List LinkChange) (place : ℕ × List ℕ) →
    get (links_with links changes) place ≡ target_else (get links place) (find (λ change. is_at place (place_of change)) changes)
links_with-put links [] place = refl
links_with-put links (x ∷ xs) place =
    get-put (links_with links xs) (place_of x) x.target place
    ∙ (elim (is_at place (place_of x)) as (λ b. cond b x.target (get (links_with links xs) place) ≡ target_else (get links place) (cond b (Some x) (find (λ change. is_at place (place_of change)) xs))) [
      | true ↦ refl
      | false ↦ links_with-put links xs place
    ])

-- where places rise each change gives what stands there
pub each_stands : (links : Links) (changes : List LinkChange) → IsStrictlySortedBy link_cmp (map place_of changes) → AllByRecursion (λ x. x.target ≡ get (links_with links changes) (place_of x)) changes
each_stands links [] h = tt
each_stands links (x ∷ xs) h = (
  sym (get-put (links_with links xs) (place_of x) x.target (place_of x) ∙ ap (λ r. cond (is_eq r) x.target (get (links_with links xs) (place_of x))) (tied_itself link_cmp_total (place_of x))),
  behind xs (sorted_head link_cmp (place_of x) (map place_of xs) h) (each_stands links xs (sorted_tail link_cmp (place_of x) (map place_of xs) h)),
)
  where
    behind : (ys : List LinkChange) → AllByRecursion (λ k. link_cmp (place_of x) k ≡ Less) (map place_of ys) → AllByRecursion (λ y. y.target ≡ get (links_with links xs) (place_of y)) ys → AllByRecursion (λ y. y.target ≡ get (links_with links (x ∷ xs)) (place_of y)) ys
    behind [] up stand = tt
    behind (y ∷ ys) up stand =
        let other : is_at (place_of y) (place_of x) ≡ false = ap is_eq (link_cmp_total.antisymm (place_of y) (place_of x) ∙ ap ordering_reverse up.0) in (
          stand.0 ∙ sym (get-put (links_with links xs) (place_of x) x.target (place_of y) ∙ ap (λ b. cond b x.target (get (links_with links xs) (place_of y))) other),
          behind ys up.1 stand.1,
        )

-- a change that gives what stands at a place now
pub record StandsAt (links : Links) (changes : List LinkChange) (place : ℕ × List ℕ) : Type 0 where
  pub change : LinkChange
  pub listed : Contains changes change
  pub here : place_of change ≡ place
  pub gives : change.target ≡ get (links_with links changes) place

-- a place has what it had, or a change stands there
pub stands_or_same : (links : Links) (changes : List LinkChange) (place : ℕ × List ℕ) → (get (links_with links changes) place ≡ get links place) ⊎ StandsAt links changes place
stands_or_same links [] place = inl refl
stands_or_same links (x ∷ xs) place =
    elim (is_at place (place_of x)) as (λ b. is_at place (place_of x) ≡ b → (get (links_with links (x ∷ xs)) place ≡ get links place) ⊎ StandsAt links (x ∷ xs) place) [
      | true ↦ λ e. inr (record { change = x; listed = (0, omega arith, refl); here = sym (tied_key link_cmp-same place (place_of x) e); gives = sym (now true e) })
      | false ↦ λ e. elim (stands_or_same links xs place) [
        | inl same ↦ inl (now false e ∙ same)
        | inr r ↦ inr (record { change = r.change; listed = Contains-append_right (x ∷ []) xs r.change r.listed; here = r.here; gives = r.gives ∙ sym (now false e) })
      ]
    ] refl
  where
    now : (b : Bool) → is_at place (place_of x) ≡ b → get (links_with links (x ∷ xs)) place ≡ cond b x.target (get (links_with links xs) place)
    now b e = get-put (links_with links xs) (place_of x) x.target place ∙ ap (λ d. cond d x.target (get (links_with links xs) place)) e

module _ (m : Manifest) (c : Changes) (none : first_bad (is_bad_link m c.made) (first_link c) None c.links ≡ None) where
  abbrev tree : Tree
  tree = changed m c

  stands : (x : LinkChange) → Contains c.links x → x.target ≡ child_of tree x.dir x.name
  stands x h =
      let P : LinkChange → Type 0 = λ y. y.target ≡ child_of tree y.dir y.name in
      All-contains P c.links x (All-from_recursion P c.links (each_stands (links_from 2 m.lines) c.links (places_rise m c.made (first_link c) c.links none))) h

  pub change_is_good : (x : LinkChange) → Contains c.links x → IsGoodLink m c.made x
  change_is_good x h = All-contains (IsGoodLink m c.made) c.links x (All-from_recursion (IsGoodLink m c.made) c.links (links_good m c.made (first_link c) c.links none)) h

  differs : (x : LinkChange) → Contains c.links x → x.target ≢ child_of (tree_of m) x.dir x.name
  differs x h same =
      let there = same ∙ sym (lines_links-get 2 m.lines (place_of x)) in
      let alike = ap (gives_same x.target) (sym there) ∙ gives_same_itself x.target in
      let apart = (change_is_good x h).differs in
      cc (alike, apart)

  listed : (x : LinkChange) → IsLinkChange tree x → Contains c.links x
  listed x h =
      elim (stands_or_same (links_from 2 m.lines) c.links (place_of x)) [
        | inl same ↦ absurd (h.differs (h.target ∙ same))
        | inr r ↦
            let dir = same_id r.change.dir x.dir (ap (λ (k : ℕ × List ℕ). k.0) r.here) in
            let name = ap (λ (k : ℕ × List ℕ). k.1) r.here in
            let target = r.gives ∙ sym h.target in
            let is_x : r.change ≡ x = λ i. record { dir = dir i; name = name i; target = target i } in
            subst (Contains c.links) is_x r.listed
      ]

  -- the changes are the tree's
  pub changed_has_links : AreLinkChanges (changed m c) c.links
  changed_has_links = record {
    rising = places_rise m c.made (first_link c) c.links none;
    each = λ x. (λ h. record { target = stands x h; differs = differs x h }, listed x);
  }

  pub changed_links-changed : (place : ℕ × List ℕ) → file_in (changed_links m c) place ≡ get (links_with (links_from 2 m.lines) c.links) place
  changed_links-changed place = changed_links-get (changed m c) c changed_has_links place
