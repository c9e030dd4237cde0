-- The links of a manifest over which changes were laid.
use Rattle.std.proofs.Common.{◌≡◌, ℕ, ◌==◌, ◌||◌, Bool, true, false, cond, if◌then◌else◌, List, [], ◌∷◌, map, Option, Some, None, refl, sym, ap, subst, ◌∙◌, arith, eq-eqb}
use Rattle.std.proofs.Math.Bool.{or-true}
use Rattle.std.proofs.lemmas.Bool.Decides.{nat_tests}
use Rattle.std.proofs.lemmas.Map.Keys.{IsDistinct-head, IsDistinct-tail}
use Rattle.std.specs.Cmp.{tied_itself}
use Rattle.std.specs.FinMap.{FinMap, empty, get, get-empty, get-insert, same_map}
use Rattle.std.specs.List.{AllByRecursion, cons_option, find, list_any}
use Rattle.std.specs.Option.{option_map, option_or}
use Rattle.std.specs.Ordering.{eq_by_cmp, is_eq}
use Rattle.eden_base.specs.declared.number.FileId.{FileId}
use Rattle.manifest.specs.declared.link_change.LinkChange.{LinkChange}
use Rattle.checkout.specs.BadChanges.{is_at}
use Rattle.checkout.specs.Changed.{links_with}
use Rattle.checkout.specs.Changes.{place_of}
use Rattle.checkout.specs.Laying.{StandApart, add, base_target, taken, with_added}
use Rattle.manifest.specs.Manifest.{Manifest, IsManifest}
use Rattle.checkout.specs.Overlay.{links_over, still}
use Rattle.manifest.specs.Tree.{link_cmp, links_from}
use Rattle.checkout.proofs.ChangedMaps.{links_with-put, target_else}
use Rattle.manifest.proofs.FlatLemmas.{link_cmp_total, link_cmp-same}
use Rattle.manifest.proofs.MapLemmas.{tied_key}
use Rattle.checkout.proofs.TakenLaws.{one_place}
use Rattle.checkout.proofs.UnionLaws.{get-links_over}

-- the first change at a place
abbrev pub change_at : ℕ × List ℕ → List LinkChange → Option LinkChange
change_at place changes = find (λ change. is_at place (place_of change)) changes

-- what a change adds, or else what was there
abbrev pub given_else : Option FileId → Option LinkChange → Option FileId
given_else before None = before
given_else before (Some change) = option_or change.target before

pub get-add : (links : FinMap link_cmp FileId) (place : ℕ × List ℕ) (target : Option FileId) (q : ℕ × List ℕ) → get (add links place target) q ≡ cond (is_at q place) (option_or target (get links q)) (get links q)
get-add links place None q = elim (is_at q place) as (λ b. get links q ≡ cond b (get links q) (get links q)) [ true ↦ refl | false ↦ refl ]
get-add links place (Some file) q = get-insert link_cmp_total links place file q

none_behind : (place k : ℕ × List ℕ) (cs : List LinkChange) → place ≡ k → AllByRecursion (λ y. eq_by_cmp link_cmp k y ≡ false) (map place_of cs) → change_at place cs ≡ None
none_behind place k [] same apart = refl
none_behind place k (c ∷ cs) same apart =
    ap (λ b. cond b (Some c) (change_at place cs)) (ap (λ p. is_at p (place_of c)) same ∙ apart.0) ∙ none_behind place k cs same apart.1

-- where changes stand apart, what was added at a place is what the change there gives
pub with_added-get : (links : FinMap link_cmp FileId) (cs : List LinkChange) → StandApart cs → (place : ℕ × List ℕ) → get (with_added links cs) place ≡ given_else (get links place) (change_at place cs)
with_added-get links [] apart place = refl
with_added-get links (c ∷ cs) apart place =
    with_added-get (add links (place_of c) c.target) cs (IsDistinct-tail (eq_by_cmp link_cmp) (place_of c) (map place_of cs) apart) place
    ∙ ap (λ o. given_else o (change_at place cs)) (get-add links (place_of c) c.target place)
    ∙ (elim (is_at place (place_of c)) as (λ b. is_at place (place_of c) ≡ b → given_else (cond b (option_or c.target (get links place)) (get links place)) (change_at place cs) ≡ given_else (get links place) (cond b (Some c) (change_at place cs))) [
      | true ↦ λ e. ap (given_else (option_or c.target (get links place))) (none_behind place (place_of c) cs (tied_key link_cmp-same place (place_of c) e) (IsDistinct-head (eq_by_cmp link_cmp) (place_of c) (map place_of cs) apart))
      | false ↦ λ e. refl
    ] refl)

-- what holds of all holds of the one that is found, which stands there
pub found_at : (P : LinkChange → Type 0) (place : ℕ × List ℕ) (cs : List LinkChange) (x : LinkChange) → AllByRecursion P cs → change_at place cs ≡ Some x → P x × (place ≡ place_of x)
found_at P place [] x all h = absurd (cc)
found_at P place (c ∷ cs) x all h =
    elim (is_at place (place_of c)) as (λ b. is_at place (place_of c) ≡ b → cond b (Some c) (change_at place cs) ≡ Some x → P x × (place ≡ place_of x)) [
      | true ↦ λ e g. let is_x : c ≡ x = cc in (subst P is_x all.0, tied_key link_cmp-same place (place_of c) e ∙ ap place_of is_x)
      | false ↦ λ e g. found_at P place cs x all.1 g
    ] refl h

module _ (m : Manifest) (is : IsManifest m) (place : ℕ × List ℕ) (file : FileId) (here : get (links_from 2 m.lines) place ≡ Some file) where
  abbrev is_taken : List LinkChange → Bool
  is_taken cs = list_any (λ f. file.0 == f) (taken m cs)

  more_taken : (o : Option ℕ) (fs : List ℕ) → list_any (λ f. file.0 == f) fs ≡ true → list_any (λ f. file.0 == f) (cons_option o fs) ≡ true
  more_taken None fs h = h
  more_taken (Some f) fs h = ap (λ b. (file.0 == f) || b) h ∙ or-true (file.0 == f)

  -- the manifest's file goes with the change at its place
  pub goes : (cs : List LinkChange) (x : LinkChange) → change_at place cs ≡ Some x → is_taken cs ≡ true
  goes [] x h = absurd (cc)
  goes (c ∷ cs) x h =
      elim (is_at place (place_of c)) as (λ b. is_at place (place_of c) ≡ b → cond b (Some c) (change_at place cs) ≡ Some x → is_taken (c ∷ cs) ≡ true) [
        | true ↦ λ e g.
            let there : base_target m c ≡ Some file = ap (get (links_from 2 m.lines)) (sym (tied_key link_cmp-same place (place_of c) e)) ∙ here in
            ap (λ (o : Option FileId). list_any (λ f. file.0 == f) (cons_option (option_map (λ (f : FileId). f.0) o) (taken m cs))) there ∙ ap (λ b. b || is_taken cs) (eq-eqb file.0 file.0 refl)
        | false ↦ λ e g. more_taken (option_map (λ (f : FileId). f.0) (base_target m c)) (taken m cs) (goes cs x g)
      ] refl h

  -- it stays where there is none
  pub stays_there : (cs : List LinkChange) → change_at place cs ≡ None → is_taken cs ≡ false
  stays_there [] h = refl
  stays_there (c ∷ cs) h =
      elim (is_at place (place_of c)) as (λ b. is_at place (place_of c) ≡ b → cond b (Some c) (change_at place cs) ≡ None → is_taken (c ∷ cs) ≡ false) [
        | true ↦ λ e g. absurd (cc)
        | false ↦ λ e g. elim (base_target m c) as (λ o. base_target m c ≡ o → list_any (λ f. file.0 == f) (cons_option (option_map (λ (f : FileId). f.0) o) (taken m cs)) ≡ false) [
          | None ↦ λ _. stays_there cs g
          | Some other ↦ λ b. elim (file.0 == other.0) as (λ t. (file.0 == other.0) ≡ t → (t || is_taken cs) ≡ false) [
            | false ↦ λ _. stays_there cs g
            | true ↦ λ t.
                let id : file.0 ≡ other.0 = grind (arith, nat_tests) in
                let same = one_place m is place (place_of c) file other here b id in
                let yes = ap (λ p. is_at p (place_of c)) same ∙ ap is_eq (tied_itself link_cmp_total (place_of c)) in
                absurd (cc (yes, e))
          ] refl
        ] refl
      ] refl h

module _ (m : Manifest) (is : IsManifest m) (links : List LinkChange) (apart : StandApart links) (gone : ℕ → Bool) (went : (q : ℕ) → gone q ≡ list_any (λ f. q == f) (taken m links)) where
  abbrev base : FinMap link_cmp FileId
  base = links_from 2 m.lines

  abbrev added : FinMap link_cmp FileId
  added = with_added empty links

  pub get-added : (place : ℕ × List ℕ) → get added place ≡ given_else None (change_at place links)
  get-added place = with_added-get empty links apart place ∙ ap (λ o. given_else o (change_at place links)) (get-empty {X = FileId} link_cmp place)

  -- at the place of a change the manifest has nothing still
  pub nothing_still : (place : ℕ × List ℕ) (x : LinkChange) → change_at place links ≡ Some x → still gone (get base place) ≡ None
  nothing_still place x e =
      elim (get base place) as (λ o. get base place ≡ o → still gone o ≡ None) [
        | None ↦ λ _. refl
        | Some file ↦ λ h. ap (λ (b : Bool). if b then None else Some file) (went file.0 ∙ goes m is place file h links x e)
      ] refl

  all_still : (place : ℕ × List ℕ) → change_at place links ≡ None → still gone (get base place) ≡ get base place
  all_still place e =
      elim (get base place) as (λ o. get base place ≡ o → still gone o ≡ o) [
        | None ↦ λ _. refl
        | Some file ↦ λ h. ap (λ (b : Bool). if b then None else Some file) (went file.0 ∙ stays_there m is place file h links e)
      ] refl

  -- the links are those with all changes made
  pub links_over-changed : links_over added gone base ≡ links_with base links
  links_over-changed =
      same_map link_cmp_total link_cmp-same _ _ (λ place.
      get-links_over added gone base place ∙ ap (λ o. option_or o (still gone (get base place))) (get-added place) ∙ at place ∙ sym (links_with-put base links place))
    where
      or_none : (o : Option FileId) → option_or (option_or o None) None ≡ o
      or_none None = refl
      or_none (Some f) = refl

      at : (place : ℕ × List ℕ) → option_or (given_else None (change_at place links)) (still gone (get base place)) ≡ target_else (get base place) (change_at place links)
      at place =
          elim (change_at place links) as (λ o. change_at place links ≡ o → option_or (given_else None o) (still gone (get base place)) ≡ target_else (get base place) o) [
            | None ↦ λ e. all_still place e
            | Some x ↦ λ e. ap (option_or (option_or x.target None)) (nothing_still place x e) ∙ or_none x.target
          ] refl
