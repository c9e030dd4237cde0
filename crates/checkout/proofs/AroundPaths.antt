-- Names that lead from a file to another, of any links, and files that stand below themselves.
use Rattle.std.proofs.Common.{◌≡◌, ◌⊎◌, ℕ, Bool, true, List, [], ◌∷◌, ◌++◌, Some, None, refl, ap, subst, ◌∙◌, inl, inr}
use Rattle.std.specs.FinMap.{FinMap, get}
use Rattle.std.specs.Option.{option_and_then}
use Rattle.eden_base.specs.declared.number.FileId.{FileId}
use Rattle.checkout.specs.Around.{end_of, AreApart, IsUnder, Leads}
use Rattle.manifest.specs.Tree.{link_cmp, StandsIn}

module _ (links : FinMap link_cmp FileId) where
  pub end_of-append : (dir : FileId) (path more : List (List ℕ)) → end_of links dir (path ++ more) ≡ option_and_then (λ (f : FileId). end_of links f more) (end_of links dir path)
  end_of-append dir [] more = refl
  end_of-append dir (name ∷ path) more =
      elim (get links (dir.0, name)) as (λ o. option_and_then (λ (child : FileId). end_of links child (path ++ more)) o ≡ option_and_then (λ (f : FileId). end_of links f more) (option_and_then (λ (child : FileId). end_of links child path) o)) [
        | None ↦ refl
        | Some child ↦ end_of-append child path more
      ]

  pub leads_on : (a b c : FileId) → Leads links a b → Leads links b c → Leads links a c
  leads_on a b c p q = (p.0 ++ q.0, end_of-append a p.0 q.0 ∙ ap (option_and_then (λ (f : FileId). end_of links f q.0)) p.1 ∙ q.1)

  pub leads_itself : (a : FileId) → Leads links a a
  leads_itself a = ([], refl)

  pub leads_down : (file dir : FileId) → StandsIn links file dir → Leads links dir file
  leads_down file dir s = (s.0 ∷ [], ap (option_and_then (λ (child : FileId). end_of links child [])) s.1)

  -- some names lead nowhere else, or have a last one
  pub last_of : (names : List (List ℕ)) (from file : FileId) → end_of links from names ≡ Some file → (from ≡ file) ⊎ IsUnder links from file
  last_of [] from file h = inl (cc)
  last_of (name ∷ names) from file h =
      elim (get links (from.0, name)) as (λ o. get links (from.0, name) ≡ o → option_and_then (λ (child : FileId). end_of links child names) o ≡ Some file → (from ≡ file) ⊎ IsUnder links from file) [
        | None ↦ λ e g. absurd (cc)
        | Some child ↦ λ e g. inr (elim (last_of names child file g) [
          | inl same ↦ record { dir = from; to_dir = leads_itself from; stands = (name, e ∙ ap (λ (f : FileId). Some f) same) }
          | inr r ↦ record { dir = r.dir; to_dir = leads_on from child r.dir (leads_down child from (name, e)) r.to_dir; stands = r.stands }
        ])
      ] refl h

  -- what a test tells of each file's directory with the file it tells of all above it
  pub told_above : (test : FileId → Bool) → ((file dir : FileId) → test file ≡ true → StandsIn links file dir → test dir ≡ true) →
      (names : List (List ℕ)) (file below : FileId) → end_of links file names ≡ Some below → test below ≡ true → test file ≡ true
  told_above test closed [] file below h t = let e : file ≡ below = cc in ap test e ∙ t
  told_above test closed (name ∷ names) file below h t =
      elim (get links (file.0, name)) as (λ o. get links (file.0, name) ≡ o → option_and_then (λ (child : FileId). end_of links child names) o ≡ Some below → test file ≡ true) [
        | None ↦ λ e g. absurd (cc)
        | Some child ↦ λ e g. closed child file (told_above test closed names child below g t) (name, e)
      ] refl h

  -- a file stands in one directory
  pub one_dir : AreApart links → (file dir other : FileId) → StandsIn links file dir → StandsIn links file other → dir ≡ other
  one_dir are file dir other s t = (are.apart dir other s.0 t.0 file s.1 t.1).0

  -- the directory of a file on a circle is on it
  pub circle_goes_up : AreApart links → (file dir : FileId) → IsUnder links file file → StandsIn links file dir → Leads links file dir × IsUnder links dir dir
  circle_goes_up are file dir on s =
      let same : on.dir ≡ dir = one_dir are file on.dir dir on.stands s in
      let to : Leads links file dir = subst (λ (d : FileId). Leads links file d) same on.to_dir in
      let under : IsUnder links dir dir =
      elim (last_of to.0 file dir to.1) [
        | inl e ↦ subst (λ (f : FileId). IsUnder links f f) e on
        | inr r ↦ record { dir = r.dir; to_dir = leads_on dir file r.dir (leads_down file dir s) r.to_dir; stands = r.stands }
      ] in
      (to, under)
