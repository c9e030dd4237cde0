-- The first file of a directory from an id on: an added link gives it, or one that is left of the manifest's.
use Rattle.std.proofs.Common.{◌≡◌, ◌+◌, ◌<◌, ◌≤◌, ◌⊎◌, inl, inr, ℕ, Bool, true, false, nat_lt, if◌then◌else◌, List, Option, Some, None, refl, sym, ap, ◌∙◌, arith}
use Rattle.std.proofs.lemmas.Bool.Decides.{nat_tests}
use Rattle.std.specs.FinMap.{FinMap, empty, get, get-empty}
use Rattle.std.specs.Option.{option_or}
use Rattle.eden_base.proofs.MemberLemmas.{some-IsSome}
use Rattle.eden_base.specs.declared.number.FileId.{FileId}
use Rattle.checkout.specs.Around.{links_now, AreBeside}
use Rattle.checkout.specs.Overlay.{still}
use Rattle.checkout.specs.UnlinkedFiles.{UnlinkedFiles, is_gone}
use Rattle.manifest.specs.Manifest.{Manifest}
use Rattle.manifest.specs.Tree.{link_cmp, links_from, IsFirstFrom, StandsIn}
use Rattle.checkout.proofs.AboveLaws.{above_by_added, still_there}
use Rattle.checkout.proofs.UnionLaws.{get-links_over}

module _ (m : Manifest) (gone : UnlinkedFiles) where
  abbrev base : FinMap link_cmp FileId
  base = links_from 2 m.lines

  -- the manifest's links that are left
  abbrev pub left : FinMap link_cmp FileId
  left = links_now m empty gone

  get-left : (dir : ℕ) (name : List ℕ) → get left (dir, name) ≡ still (is_gone gone) (get base (dir, name))
  get-left dir name = get-links_over empty (is_gone gone) base (dir, name) ∙ ap (λ (o : Option FileId). option_or o (still (is_gone gone) (get base (dir, name)))) (get-empty {X = FileId} link_cmp (dir, name))

  -- a file that is left stands in the manifest, and is not gone
  left-base : (file dir : FileId) → StandsIn left file dir → StandsIn base file dir × (is_gone gone file.0 ≡ false)
  left-base file dir s = let r = still_there m empty gone (get base (dir.0, s.0)) file (sym (get-left dir.0 s.0) ∙ s.1) in ((s.0, r.0), r.1)

  base-left : (file dir : FileId) → StandsIn base file dir → is_gone gone file.0 ≡ false → StandsIn left file dir
  base-left file dir s stays = (s.0, get-left dir.0 s.0 ∙ ap (still (is_gone gone)) s.1 ∙ ap (λ (b : Bool). if b then None else Some file) stays)

  -- each file from `least` on that is left stands at `from` or after it
  abbrev pub IsPassed : FileId → ℕ → ℕ → Type 0
  IsPassed dir least from = (least ≤ from) × ((other : FileId) → StandsIn left other dir → least ≤ other.0 → from ≤ other.0)

  pub passed-none : (dir : FileId) (least : ℕ) → IsPassed dir least least
  passed-none dir least = (omega arith, λ other s from. from)

  -- the manifest's first one is the first one that is left, if it isn't gone
  pub first-stays : (dir : FileId) (least from : ℕ) (file : FileId) → IsPassed dir least from → IsFirstFrom base dir from (Some file) → is_gone gone file.0 ≡ false → IsFirstFrom left dir least (Some file)
  first-stays dir least from file passed first stays = (
    base-left file dir first.0 stays,
    (let low = passed.0 in let high = first.1 in omega (arith, low, high)),
    λ other s late. first.2 other (left-base other dir s).0 (passed.1 other s late),
  )

  -- and if it is gone with some that follow, all these are passed
  pub first-goes : (dir : FileId) (least from : ℕ) (file : FileId) (run : ℕ) → IsPassed dir least from → IsFirstFrom base dir from (Some file) → ((q : ℕ) → file.0 ≤ q → q < file.0 + run → is_gone gone q ≡ true) → IsPassed dir least (file.0 + run)
  first-goes dir least from file run passed first goes = (
    (let low = passed.0 in let high = first.1 in omega (arith, low, high)),
    λ other s late.
        let r = left-base other dir s in
        let after = first.2 other r.0 (passed.1 other s late) in
        elim (nat_lt other.0 (file.0 + run)) as (λ b. nat_lt other.0 (file.0 + run) ≡ b → file.0 + run ≤ other.0) [
          | true ↦ λ e. let there = r.1 in let went = goes other.0 after (grind (arith, nat_tests)) in absurd (cc (there, went))
          | false ↦ λ e. grind (arith, nat_tests)
        ] refl,
  )

  pub first-ends : (dir : FileId) (least from : ℕ) → IsPassed dir least from → IsFirstFrom base dir from None → IsFirstFrom left dir least None
  first-ends dir least from passed first other s late = first other (left-base other dir s).0 (passed.1 other s late)

  module _ (added : FinMap link_cmp FileId) where
    abbrev now : FinMap link_cmp FileId
    now = links_now m added gone

    -- an added link gives a file, or one that is left
    now-either : (file dir : FileId) → StandsIn now file dir → StandsIn added file dir ⊎ StandsIn left file dir
    now-either file dir s =
        elim (get added (dir.0, s.0)) as (λ o. get added (dir.0, s.0) ≡ o → option_or o (still (is_gone gone) (get base (dir.0, s.0))) ≡ Some file → StandsIn added file dir ⊎ StandsIn left file dir) [
          | Some f ↦ λ e g. inl (s.0, e ∙ g)
          | None ↦ λ e g. inr (s.0, get-left dir.0 s.0 ∙ g)
        ] refl (sym (get-links_over added (is_gone gone) base (dir.0, s.0)) ∙ s.1)

    -- where an added link stands none of the manifest's is left
    left-now : AreBeside added (is_gone gone) base → (file dir : FileId) → StandsIn left file dir → StandsIn now file dir
    left-now beside file dir s =
        let there = sym (get-left dir.0 s.0) ∙ s.1 in
        let rest : option_or (get added (dir.0, s.0)) (still (is_gone gone) (get base (dir.0, s.0))) ≡ Some file =
        elim (get added (dir.0, s.0)) as (λ o. get added (dir.0, s.0) ≡ o → option_or o (still (is_gone gone) (get base (dir.0, s.0))) ≡ Some file) [
          | None ↦ λ e. there
          | Some f ↦ λ e. let none = beside dir.0 s.0 (some-IsSome (get added (dir.0, s.0)) f e) in absurd (cc (none, there))
        ] refl in
        (s.0, get-links_over added (is_gone gone) base (dir.0, s.0) ∙ rest)

    -- the first file of both is the first of one of them
    pub first-new : (dir : FileId) (least : ℕ) (file : FileId) → IsFirstFrom added dir least (Some file) → ((other : FileId) → StandsIn left other dir → least ≤ other.0 → file.0 ≤ other.0) → IsFirstFrom now dir least (Some file)
    first-new dir least file first before = (
      above_by_added m added gone file dir first.0,
      first.1,
      λ other s late. elim (now-either other dir s) [ inl a ↦ first.2 other a late | inr l ↦ before other l late ],
    )

    pub first-old : AreBeside added (is_gone gone) base → (dir : FileId) (least : ℕ) (file : FileId) → IsFirstFrom left dir least (Some file) → ((other : FileId) → StandsIn added other dir → least ≤ other.0 → file.0 ≤ other.0) → IsFirstFrom now dir least (Some file)
    first-old beside dir least file first before = (
      left-now beside file dir first.0,
      first.1,
      λ other s late. elim (now-either other dir s) [ inl a ↦ before other a late | inr l ↦ first.2 other l late ],
    )

    -- where no file is left, it is that of the added links
    pub first-added : (dir : FileId) (least : ℕ) (found : Option FileId) → IsFirstFrom left dir least None → IsFirstFrom added dir least found → IsFirstFrom now dir least found
    first-added dir least None none first = λ other s late. elim (now-either other dir s) [ inl a ↦ first other a late | inr l ↦ none other l late ]
    first-added dir least (Some file) none first = first-new dir least file first (λ other l late. absurd (none other l late))

    -- where both have one, it is that of the lesser id
    pub first-less : (dir : FileId) (least : ℕ) (new old : FileId) → IsFirstFrom added dir least (Some new) → IsFirstFrom left dir least (Some old) → new.0 < old.0 → IsFirstFrom now dir least (Some new)
    first-less dir least new old first other less = first-new dir least new first (λ file l late. let after = other.2 file l late in omega (arith, after, less))

    pub first-not-less : AreBeside added (is_gone gone) base → (dir : FileId) (least : ℕ) (new old : FileId) → IsFirstFrom added dir least (Some new) → IsFirstFrom left dir least (Some old) → old.0 ≤ new.0 → IsFirstFrom now dir least (Some old)
    first-not-less beside dir least new old first other not = first-old beside dir least old other (λ file a late. let after = first.2 file a late in omega (arith, after, not))
