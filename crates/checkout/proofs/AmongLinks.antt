-- Which links are among those of a manifest with changes made.
use Rattle.std.proofs.Common.{◌≡◌, ℕ, suc, ◌+◌, ◌==◌, ◌&&◌, ◌||◌, ◌⊎◌, Bool, true, false, not, cond, List, [], ◌∷◌, Option, Some, None, refl, sym, ap, subst, ◌∙◌, inl, inr, arith, eq-eqb}
use Rattle.std.proofs.lemmas.Bool.{and_parts, or_cases}
use Rattle.std.proofs.lemmas.Bool.Decides.{nat_tests}
use Rattle.std.proofs.lemmas.List.Folds.{list_any-append}
use Rattle.std.specs.FinMap.{FinMap, get}
use Rattle.std.specs.List.{AllByRecursion, cons_option, filter, filter_map, list_any, slice_get}
use Rattle.std.specs.Option.{option_map}
use Rattle.eden_base.specs.declared.number.FileId.{FileId}
use Rattle.checkout.specs.declared.changes.Changes.{Changes}
use Rattle.manifest.specs.declared.link_change.LinkChange.{LinkChange}
use Rattle.checkout.specs.BadChanges.{Link, bad_itself, changed_links, first_bad, first_link, first_link_where, given, has_names, is_at, is_given, lines_links}
use Rattle.checkout.specs.Changed.{changed, links_with}
use Rattle.checkout.specs.Changes.{place_of}
use Rattle.manifest.specs.Manifest.{Line, Manifest, IsManifest}
use Rattle.checkout.specs.Rounds.{first_of}
use Rattle.manifest.specs.Tree.{link_cmp, links_from}
use Rattle.checkout.specs.ChangedTree.{has_links, is_linked}
use Rattle.checkout.proofs.ChangeLists.{all_weaker}
use Rattle.checkout.proofs.ChangedLinks.{any_link}
use Rattle.checkout.proofs.ChangedMaps.{changed_links-changed, each_stands, links_with-put, target_else}
use Rattle.checkout.proofs.FirstBadLaws.{good_itself, places_rise}
use Rattle.manifest.proofs.FlatLemmas.{has_link, link_cmp_total}
use Rattle.checkout.proofs.LaidLinks.{change_at}
use Rattle.checkout.proofs.LinkLaws.{child_from_linked, linked_from_child}
use Rattle.manifest.proofs.ManifestTree.{file_with, link_of_line, same_id}
use Rattle.manifest.proofs.MapLemmas.{key_from_any}
use Rattle.manifest.proofs.MoreLines.{apart}

-- a change is one of some
abbrev pub IsAmong : LinkChange → List LinkChange → Type 0
IsAmong x [] = ⊥
IsAmong x (c ∷ cs) = (c ≡ x) ⊎ IsAmong x cs

pub all_among : (cs : List LinkChange) → AllByRecursion (λ x. IsAmong x cs) cs
all_among [] = tt
all_among (c ∷ cs) = (inl refl, all_weaker (λ x. IsAmong x cs) (λ x. IsAmong x (c ∷ cs)) (λ x h. inr h) cs (all_among cs))

pub holds_among : (P : LinkChange → Type 0) (cs : List LinkChange) (x : LinkChange) → AllByRecursion P cs → IsAmong x cs → P x
holds_among P [] x all h = absurd h
holds_among P (c ∷ cs) x all (inl same) = subst P same all.0
holds_among P (c ∷ cs) x all (inr h) = holds_among P cs x all.1 h

-- two tests with one meaning, one as easy as the other
pub same_bool : (a b : Bool) → (a ≡ true → b ≡ true) → (b ≡ true → a ≡ true) → a ≡ b
same_bool true b f g = sym (f refl)
same_bool false true f g = g refl
same_bool false false f g = refl

none_there : (place : ℕ × List ℕ) (cs : List LinkChange) → not (list_any (λ change. is_at place (place_of change)) cs) ≡ true → change_at place cs ≡ None
none_there place [] h = refl
none_there place (c ∷ cs) h =
    elim (is_at place (place_of c)) as (λ b. not (b || list_any (λ change. is_at place (place_of change)) cs) ≡ true → cond b (Some c) (change_at place cs) ≡ None) [
      | true ↦ λ g. absurd (cc)
      | false ↦ λ g. none_there place cs g
    ] h

any-filter : (p t : Link → Bool) (xs : List Link) → list_any t (filter p xs) ≡ true → list_any (λ x. p x && t x) xs ≡ true
any-filter p t [] h = absurd (cc)
any-filter p t (x ∷ xs) h =
    elim (p x) as (λ b. list_any t (cond b (x ∷ filter p xs) (filter p xs)) ≡ true → ((b && t x) || list_any (λ y. p y && t y) xs) ≡ true) [
      | false ↦ λ g. any-filter p t xs g
      | true ↦ λ g. elim (t x) as (λ b. (b || list_any t (filter p xs)) ≡ true → (b || list_any (λ y. p y && t y) xs) ≡ true) [ true ↦ λ _. refl | false ↦ λ k. any-filter p t xs k ] g
    ] h

-- the line of a link that passes
record FoundLine (t : Link → Bool) (id : ℕ) (lines : List Line) : Type 0 where
  pub place : ℕ
  pub line : Line
  pub here : slice_get lines place ≡ Some line
  pub passes : t ((line.dir.0, line.name), file_with (id + place)) ≡ true

line_found : (t : Link → Bool) (id : ℕ) (lines : List Line) → list_any t (lines_links id lines) ≡ true → FoundLine t id lines
line_found t id [] h = absurd (cc)
line_found t id (l ∷ ls) h =
    elim (t ((l.dir.0, l.name), file_with id)) as (λ b. t ((l.dir.0, l.name), file_with id) ≡ b → (b || list_any t (lines_links (id + 1) ls)) ≡ true → FoundLine t id (l ∷ ls)) [
      | true ↦ λ e g. record { place = 0; line = l; here = refl; passes = ap (λ n. t ((l.dir.0, l.name), file_with n)) (omega arith) ∙ e }
      | false ↦ λ e g.
          let r = line_found t (id + 1) ls g in
          record { place = suc r.place; line = r.line; here = r.here; passes = ap (λ n. t ((r.line.dir.0, r.line.name), file_with n)) (omega arith) ∙ r.passes }
    ] refl h

-- the change whose link passes
record FoundChange (t : Link → Bool) (cs : List LinkChange) : Type 0 where
  pub change : LinkChange
  pub file : FileId
  pub among : IsAmong change cs
  pub gives : change.target ≡ Some file
  pub passes : t (place_of change, file) ≡ true

change_found : (t : Link → Bool) (cs : List LinkChange) → list_any t (filter_map given cs) ≡ true → FoundChange t cs
change_found t [] h = absurd (cc)
change_found t (c ∷ cs) h =
    elim c.target as (λ o. c.target ≡ o → list_any t (cons_option (option_map (λ (file : FileId). (place_of c, file)) o) (filter_map given cs)) ≡ true → FoundChange t (c ∷ cs)) [
      | None ↦ λ e g. behind (change_found t cs g)
      | Some f ↦ λ e g. elim (t (place_of c, f)) as (λ b. t (place_of c, f) ≡ b → (b || list_any t (filter_map given cs)) ≡ true → FoundChange t (c ∷ cs)) [
        | true ↦ λ p _. record { change = c; file = f; among = inl refl; gives = e; passes = p }
        | false ↦ λ p k. behind (change_found t cs k)
      ] refl g
    ] refl h
  where
    behind : FoundChange t cs → FoundChange t (c ∷ cs)
    behind r = record { change = r.change; file = r.file; among = inr r.among; gives = r.gives; passes = r.passes }

module _ (m : Manifest) (c : Changes) (is : IsManifest m) (itself : bad_itself m c ≡ None) where
  abbrev all : FinMap link_cmp FileId
  all = links_with (links_from 2 m.lines) c.links

  pub stands : (x : LinkChange) → IsAmong x c.links → x.target ≡ get all (place_of x)
  stands x h = holds_among (λ y. y.target ≡ get all (place_of y)) c.links x (each_stands (links_from 2 m.lines) c.links (places_rise m c.made (first_link c) c.links (good_itself m c itself).links)) h

  -- a link that passes stands there
  pub record FoundLink (t : Link → Bool) : Type 0 where
    pub place : ℕ × List ℕ
    pub file : FileId
    pub here : get all place ≡ Some file
    pub passes : t (place, file) ≡ true

  pub links_found : (t : Link → Bool) → list_any t (changed_links m c) ≡ true → FoundLink t
  links_found t h =
      let left : Link → Bool = λ link. not (list_any (λ change. is_at link.0 (place_of change)) c.links) in
      elim (or_cases (list_any t (filter left (lines_links 2 m.lines))) (list_any t (filter_map given c.links)) (sym (list_any-append t (filter left (lines_links 2 m.lines)) (filter_map given c.links)) ∙ h)) [
        | inl g ↦
            let r = line_found (λ x. left x && t x) 2 m.lines (any-filter left t (lines_links 2 m.lines) g) in
            let w = and_parts (left ((r.line.dir.0, r.line.name), file_with (2 + r.place))) (t ((r.line.dir.0, r.line.name), file_with (2 + r.place))) r.passes in
            let none = none_there (r.line.dir.0, r.line.name) c.links w.0 in
            record {
              place = (r.line.dir.0, r.line.name);
              file = file_with (2 + r.place);
              here = links_with-put (links_from 2 m.lines) c.links (r.line.dir.0, r.line.name) ∙ ap (target_else (get (links_from 2 m.lines) (r.line.dir.0, r.line.name))) none ∙ link_of_line m.lines 2 r.place r.line (apart m.lines is.lines) r.here;
              passes = w.1;
            }
        | inr g ↦
            let r = change_found t c.links g in
            record { place = place_of r.change; file = r.file; here = sym (stands r.change r.among) ∙ r.gives; passes = r.passes }
      ]

  -- and what stands there and passes is among them
  pub links_any : (t : Link → Bool) (place : ℕ × List ℕ) (file : FileId) → get all place ≡ Some file → t (place, file) ≡ true → list_any t (changed_links m c) ≡ true
  links_any t place file here passes = any_link t (changed_links m c) place file passes (changed_links-changed m c (good_itself m c itself).links place ∙ here)

  -- so files are given by links, and names stand in directories
  pub given-linked : (file : FileId) → is_given (changed_links m c) file ≡ is_linked (changed m c) file
  given-linked file =
      same_bool (is_given (changed_links m c) file) (is_linked (changed m c) file)
      (λ e.
      let r = links_found (λ link. link.1.0 == file.0) e in
      let passes = r.passes in
      let id : r.file.0 ≡ file.0 = grind (arith, nat_tests) in
      linked_from_child (changed m c) (file_with r.place.0) r.place.1 file (r.here ∙ ap (λ f. Some f) (same_id r.file file id)))
      (λ e.
      let at = child_from_linked (changed m c) file e in
      links_any (λ link. link.1.0 == file.0) (at.0.0, at.1) file at.2 (eq-eqb file.0 file.0 refl))

  pub names-links : (dir : FileId) → has_names (changed_links m c) dir ≡ has_links (changed m c) dir
  names-links dir =
      same_bool (has_names (changed_links m c) dir) (has_links (changed m c) dir)
      (λ e.
      let r = links_found (λ link. link.0.0 == dir.0) e in
      let passes = r.passes in
      let id : r.place.0 ≡ dir.0 = grind (arith, nat_tests) in
      has_link all dir.0 r.place.1 r.file (ap (λ (d : ℕ). get all (d, r.place.1)) (sym id) ∙ r.here))
      (λ e.
      let r = key_from_any link_cmp_total (λ (k : ℕ × List ℕ). k.0 == dir.0) all e in
      links_any (λ link. link.0.0 == dir.0) r.0 r.1 r.2 r.3)

-- the first index, as the place of a change
first_shifted : (test : LinkChange → Bool) (p i : ℕ) (before : Option LinkChange) (xs : List LinkChange) → first_bad (λ _ x. test x) (p + i) before xs ≡ option_map (λ j. p + j) (first_of test i xs)
first_shifted test p i before [] = refl
first_shifted test p i before (x ∷ xs) =
    elim (test x) as (λ b. cond b (Some (p + i)) (first_bad (λ _ y. test y) (p + i + 1) (Some x) xs) ≡ option_map (λ j. p + j) (cond b (Some i) (first_of test (i + 1) xs))) [
      | true ↦ refl
      | false ↦ ap (λ n. first_bad (λ _ y. test y) n (Some x) xs) (omega arith) ∙ first_shifted test p (i + 1) (Some x) xs
    ]

pub first_where-is : (test : LinkChange → Bool) (c : Changes) → first_link_where test c ≡ option_map (λ i. first_link c + i) (first_of test 0 c.links)
first_where-is test c = ap (λ n. first_bad (λ _ x. test x) n None c.links) (omega arith) ∙ first_shifted test (first_link c) 0 None c.links

pub first_of-same : (t u : LinkChange → Bool) (i : ℕ) (xs : List LinkChange) → AllByRecursion (λ x. t x ≡ u x) xs → first_of t i xs ≡ first_of u i xs
first_of-same t u i [] h = refl
first_of-same t u i (x ∷ xs) h =
    ap (λ b. cond b (Some i) (first_of t (i + 1) xs)) h.0 ∙ ap (cond (u x) (Some i)) (first_of-same t u (i + 1) xs h.1)
