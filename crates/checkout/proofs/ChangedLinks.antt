-- The links of a tree, as its changes tell them.
use Rattle.std.proofs.Common.{◌≡◌, ◌+◌, ◌||◌, ℕ, Bool, true, false, not, cond, List, [], ◌∷◌, ◌++◌, Option, Some, None, refl, sym, ap, ◌∙◌, inl, inr}
use Rattle.std.proofs.Math.Bool.{or-true}
use Rattle.std.proofs.lemmas.List.Folds.{list_any_at}
use Rattle.std.specs.Cmp.{tied_itself}
use Rattle.std.specs.FinMap.{get, get-empty, get-insert}
use Rattle.std.specs.List.{AllByRecursion, Contains, cons_option, filter, filter_map, find, list_any}
use Rattle.std.specs.Option.{option_and_then, option_map, option_or}
use Rattle.std.specs.Ordering.{is_eq}
use Rattle.eden_base.specs.declared.number.FileId.{FileId}
use Rattle.checkout.specs.declared.changes.Changes.{Changes}
use Rattle.manifest.specs.declared.link_change.LinkChange.{LinkChange}
use Rattle.checkout.specs.BadChanges.{Link, changed_links, file_below, file_in, given, is_at, lines_links}
use Rattle.checkout.specs.Changes.{AreLinkChanges, IsLinkChange, place_of}
use Rattle.manifest.specs.Manifest.{Line}
use Rattle.manifest.specs.Tree.{Tree, child_of, file_at, link_cmp, links_from}
use Rattle.checkout.proofs.ChangeLists.{all_of}
use Rattle.checkout.proofs.ChangesLaws.{same_or_not}
use Rattle.manifest.proofs.FlatLemmas.{link_cmp_total, link_cmp-same}
use Rattle.manifest.proofs.MapLemmas.{tied_key}

-- the manifest's links, as a list and as a map
pub lines_links-get : (id : ℕ) (lines : List Line) (place : ℕ × List ℕ) → file_in (lines_links id lines) place ≡ get (links_from id lines) place
lines_links-get id [] place = sym (get-empty {X = FileId} link_cmp place)
lines_links-get id (line ∷ lines) place =
    (elim (is_at place (line.dir.0, line.name)) as (λ b. option_map (λ (link : Link). link.1) (cond b (Some ((line.dir.0, line.name), record { 0 = id })) (find (λ (link : Link). is_at place link.0) (lines_links (id + 1) lines)))
    ≡ cond b (Some (record { 0 = id })) (get (links_from (id + 1) lines) place)) [ true ↦ refl | false ↦ lines_links-get (id + 1) lines place ])
    ∙ sym (get-insert link_cmp_total (links_from (id + 1) lines) (line.dir.0, line.name) (record { 0 = id }) place)

filter_step : (test : Link → Bool) (x : Link) (xs : List Link) (place : ℕ × List ℕ) (b : Bool) → (is_at place x.0 ≡ true → test x ≡ b) → file_in (filter test xs) place ≡ cond b (file_in xs place) None → file_in (filter test (x ∷ xs)) place ≡ cond b (file_in (x ∷ xs) place) None
filter_step test x xs place b h rest =
    elim (is_at place x.0) as (λ a. is_at place x.0 ≡ a → file_in (filter test (x ∷ xs)) place ≡ cond b (option_map (λ (link : Link). link.1) (cond a (Some x) (find (λ (link : Link). is_at place link.0) xs))) None) [
      | true ↦ λ e. here e (h e)
      | false ↦ λ e. beside e
    ] refl
  where
    here : is_at place x.0 ≡ true → test x ≡ b → file_in (filter test (x ∷ xs)) place ≡ cond b (Some x.1) None
    here e t =
        elim b as (λ c. test x ≡ c → file_in (filter test xs) place ≡ cond c (file_in xs place) None → file_in (filter test (x ∷ xs)) place ≡ cond c (Some x.1) None) [
          | true ↦ λ k _. ap (λ (d : Bool). file_in (cond d (x ∷ filter test xs) (filter test xs)) place) k ∙ ap (λ (d : Bool). option_map (λ (link : Link). link.1) (cond d (Some x) (find (λ (link : Link). is_at place link.0) (filter test xs)))) e
          | false ↦ λ k r. ap (λ (d : Bool). file_in (cond d (x ∷ filter test xs) (filter test xs)) place) k ∙ r
        ] t rest

    beside : is_at place x.0 ≡ false → file_in (filter test (x ∷ xs)) place ≡ cond b (file_in xs place) None
    beside e =
        elim (test x) as (λ (d : Bool). file_in (cond d (x ∷ filter test xs) (filter test xs)) place ≡ cond b (file_in xs place) None) [
          | true ↦ ap (λ (d : Bool). option_map (λ (link : Link). link.1) (cond d (Some x) (find (λ (link : Link). is_at place link.0) (filter test xs)))) e ∙ rest
          | false ↦ rest
        ]

-- a test that a place and what stands there pass is passed by some link
pub any_link : (test : Link → Bool) (links : List Link) (place : ℕ × List ℕ) (file : FileId) → test (place, file) ≡ true → file_in links place ≡ Some file → list_any test links ≡ true
any_link test [] place file passes h = absurd (cc)
any_link test (x ∷ xs) place file passes h =
    elim (is_at place x.0) as (λ b. is_at place x.0 ≡ b → option_map (λ (link : Link). link.1) (cond b (Some x) (find (λ (link : Link). is_at place link.0) xs)) ≡ Some file → list_any test (x ∷ xs) ≡ true) [
      | true ↦ λ e g.
          let at = tied_key link_cmp-same place x.0 e in
          let same : x.1 ≡ file = cc in
          ap (λ b. b || list_any test xs) (ap test (λ i. (sym at i, same i)) ∙ passes)
      | false ↦ λ e g. ap (λ b. test x || b) (any_link test xs place file passes g) ∙ or-true (test x)
    ] refl h

-- what links that a test leaves have at a place, where it tells no two links of the place apart
pub file_in-filter : (test : Link → Bool) (links : List Link) (place : ℕ × List ℕ) (b : Bool) → ((link : Link) → is_at place link.0 ≡ true → test link ≡ b) → file_in (filter test links) place ≡ cond b (file_in links place) None
file_in-filter test [] place true h = refl
file_in-filter test [] place false h = refl
file_in-filter test (x ∷ xs) place b h = filter_step test x xs place b (h x) (file_in-filter test xs place b h)

given_step : (t : Tree) (x : LinkChange) (xs : List LinkChange) (place : ℕ × List ℕ) → IsLinkChange t x → file_in (filter_map given xs) place ≡ cond (list_any (λ change. is_at place (place_of change)) xs) (get t.links place) None → file_in (filter_map given (x ∷ xs)) place ≡ cond (list_any (λ change. is_at place (place_of change)) (x ∷ xs)) (get t.links place) None
given_step t x xs place is rest =
    elim (is_at place (place_of x)) as (λ a. is_at place (place_of x) ≡ a → file_in (filter_map given (x ∷ xs)) place ≡ cond (a || list_any (λ change. is_at place (place_of change)) xs) (get t.links place) None) [
      | true ↦ λ e. here e x.target refl
      | false ↦ λ e. beside e x.target refl
    ] refl
  where
    -- the links with that of the first change, where it gives this
    cons_given : Option FileId → List Link
    cons_given o = cons_option (option_map (λ (file : FileId). (place_of x, file)) o) (filter_map given xs)

    none_or_none : (b : Bool) → get t.links place ≡ None → cond b (get t.links place) None ≡ None
    none_or_none true e = e
    none_or_none false e = refl

    there : is_at place (place_of x) ≡ true → get t.links place ≡ x.target
    there e = ap (get t.links) (tied_key link_cmp-same place (place_of x) e) ∙ sym is.target

    here : is_at place (place_of x) ≡ true → (o : Option FileId) → x.target ≡ o → file_in (filter_map given (x ∷ xs)) place ≡ get t.links place
    here e None g = ap (λ (o : Option FileId). file_in (cons_given o) place) g ∙ rest ∙ none_or_none (list_any (λ change. is_at place (place_of change)) xs) (there e ∙ g) ∙ sym (there e ∙ g)
    here e (Some f) g = ap (λ (o : Option FileId). file_in (cons_given o) place) g ∙ ap (λ (d : Bool). option_map (λ (link : Link). link.1) (cond d (Some (place_of x, f)) (find (λ (link : Link). is_at place link.0) (filter_map given xs)))) e ∙ sym (there e ∙ g)

    beside : is_at place (place_of x) ≡ false → (o : Option FileId) → x.target ≡ o → file_in (filter_map given (x ∷ xs)) place ≡ cond (list_any (λ change. is_at place (place_of change)) xs) (get t.links place) None
    beside e None g = ap (λ (o : Option FileId). file_in (cons_given o) place) g ∙ rest
    beside e (Some f) g = ap (λ (o : Option FileId). file_in (cons_given o) place) g ∙ ap (λ (d : Bool). option_map (λ (link : Link). link.1) (cond d (Some (place_of x, f)) (find (λ (link : Link). is_at place link.0) (filter_map given xs)))) e ∙ rest

-- what changed links give at a place, where each tells what the tree has
pub file_in-given : (t : Tree) (changes : List LinkChange) (place : ℕ × List ℕ) → AllByRecursion (IsLinkChange t) changes →
    file_in (filter_map given changes) place ≡ cond (list_any (λ change. is_at place (place_of change)) changes) (get t.links place) None
file_in-given t [] place all = refl
file_in-given t (x ∷ xs) place all = given_step t x xs place all.0 (file_in-given t xs place all.1)

-- a place at which a link differs is among the changes
place_there : (xs : List LinkChange) (x : LinkChange) → Contains xs x → list_any (λ change. is_at (place_of x) (place_of change)) xs ≡ true
place_there xs x h = list_any_at (λ change. is_at (place_of x) (place_of change)) xs h.0 x h.1 (ap (λ (y : LinkChange). is_at (place_of x) (place_of y)) h.2 ∙ ap is_eq (tied_itself link_cmp_total (place_of x)))

module _ (t : Tree) (c : Changes) (has : AreLinkChanges t c.links) where
  abbrev pub touched : ℕ × List ℕ → Bool
  touched place = list_any (λ change. is_at place (place_of change)) c.links

  -- where nothing was changed the tree has what the manifest has
  pub untouched : (place : ℕ × List ℕ) → touched place ≡ false → get (links_from 2 t.manifest.lines) place ≡ get t.links place
  untouched place none =
      elim (same_or_not (get t.links place) (get (links_from 2 t.manifest.lines) place)) [
        | inl same ↦ sym same
        | inr differs ↦
            let change : LinkChange = record { dir = record { 0 = place.0 }; name = place.1; target = get t.links place } in
            let there = place_there c.links change ((has.each change).1 (record { target = refl; differs = differs })) in
            absurd (cc (there, none))
      ]

  -- the changed links are the tree's
  pub changed_links-get : (place : ℕ × List ℕ) → file_in (changed_links t.manifest c) place ≡ get t.links place
  changed_links-get place =
      split (filter (λ (link : Link). not (touched link.0)) (lines_links 2 t.manifest.lines)) (filter_map given c.links)
      ∙ ap (λ o. option_or o (file_in (filter_map given c.links) place)) kept ∙ ap (option_or (cond (not (touched place)) (get (links_from 2 t.manifest.lines) place) None)) (file_in-given t c.links place all)
      ∙ (elim (touched place) as (λ b. touched place ≡ b → option_or (cond (not b) (get (links_from 2 t.manifest.lines) place) None) (cond b (get t.links place) None) ≡ get t.links place) [
        | true ↦ λ _. refl
        | false ↦ λ e. or_none (get (links_from 2 t.manifest.lines) place) ∙ untouched place e
      ] refl)
    where
      split : (xs ys : List Link) → file_in (xs ++ ys) place ≡ option_or (file_in xs place) (file_in ys place)
      split [] ys = refl
      split (x ∷ xs) ys =
          elim (is_at place x.0) as (λ a. option_map (λ (link : Link). link.1) (cond a (Some x) (find (λ (link : Link). is_at place link.0) (xs ++ ys)))
          ≡ option_or (option_map (λ (link : Link). link.1) (cond a (Some x) (find (λ (link : Link). is_at place link.0) xs))) (file_in ys place)) [ true ↦ refl | false ↦ split xs ys ]

      kept : file_in (filter (λ (link : Link). not (touched link.0)) (lines_links 2 t.manifest.lines)) place ≡ cond (not (touched place)) (get (links_from 2 t.manifest.lines) place) None
      kept =
          file_in-filter (λ (link : Link). not (touched link.0)) (lines_links 2 t.manifest.lines) place (not (touched place)) (λ link e. ap (λ p. not (touched p)) (sym (tied_key link_cmp-same place link.0 e)))
          ∙ ap (λ o. cond (not (touched place)) o None) (lines_links-get 2 t.manifest.lines place)

      or_none : (o : Option FileId) → option_or o None ≡ o
      or_none None = refl
      or_none (Some f) = refl

      all : AllByRecursion (IsLinkChange t) c.links
      all = all_of (IsLinkChange t) c.links (λ x h. (has.each x).0 h)

  -- so are paths
  pub file_below-is : (dir : FileId) (names : List (List ℕ)) → file_below (changed_links t.manifest c) dir names ≡ file_at t dir names
  file_below-is dir [] = refl
  file_below-is dir (name ∷ names) =
      ap (λ o. option_and_then (λ (child : FileId). file_below (changed_links t.manifest c) child names) o) (changed_links-get (dir.0, name))
      ∙ (elim (child_of t dir name) as (λ o. option_and_then (λ (child : FileId). file_below (changed_links t.manifest c) child names) o ≡ option_and_then (λ (child : FileId). file_at t child names) o) [
        | None ↦ refl
        | Some child ↦ file_below-is child names
      ])
