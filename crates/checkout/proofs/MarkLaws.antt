-- Marks of files that several changes give.
use Rattle.std.proofs.Common.{◌≡◌, ℕ, ◌==◌, ◌⊎◌, Bool, true, false, List, [], ◌∷◌, map, Option, Some, None, is_some, if◌then◌else◌, refl, sym, ap, subst, ◌∙◌, inl, inr, arith, eq-eqb}
use Rattle.std.proofs.lemmas.Bool.Decides.{nat_tests}
use Rattle.std.proofs.lemmas.Map.Keys.{IsDistinct-head, IsDistinct-tail}
use Rattle.std.specs.List.{AllByRecursion, IsDistinct, cons_option}
use Rattle.std.specs.Option.{option_map}
use Rattle.std.specs.Cmp.{nat_cmp_total, tied_itself}
use Rattle.std.specs.Ordering.{eq_by_cmp, is_eq, nat_cmp}
use Rattle.eden_base.specs.declared.number.FileId.{FileId}
use Rattle.manifest.specs.declared.link_change.LinkChange.{LinkChange}
use Rattle.checkout.specs.BadChanges.{is_at}
use Rattle.checkout.specs.Changes.{place_of}
use Rattle.checkout.specs.Laying.{StandApart}
use Rattle.checkout.specs.Rounds.{ids_given, is_marked, mark_after, marked}
use Rattle.manifest.specs.Tree.{link_cmp}
use Rattle.checkout.proofs.AmongLinks.{IsAmong, holds_among}
use Rattle.manifest.proofs.FlatLemmas.{link_cmp-same}
use Rattle.manifest.proofs.MapLemmas.{tied_key}

-- a change gives the file
abbrev pub Gives : ℕ → LinkChange → Type 0
Gives file x = (f : FileId) × (x.target ≡ Some f) × (f.0 ≡ file)

-- what one more change does to a mark
marks-if : (file : ℕ) (mark : Option Bool) (x : LinkChange) → Gives file x → mark_after file mark x.target ≡ Some (is_some mark)
marks-if file mark x g = ap (mark_after file mark) g.1 ∙ ap (λ (b : Bool). if b then Some (is_some mark) else mark) (eq-eqb g.0.0 file g.2)

-- it gives the file, or the mark stays
gives_or_stays : (file : ℕ) (mark : Option Bool) (x : LinkChange) → Gives file x ⊎ (mark_after file mark x.target ≡ mark)
gives_or_stays file mark x =
    elim x.target as (λ o. x.target ≡ o → Gives file x ⊎ (mark_after file mark o ≡ mark)) [
      | None ↦ λ _. inr refl
      | Some f ↦ λ e. elim (f.0 == file) as (λ b. (f.0 == file) ≡ b → Gives file x ⊎ ((if b then Some (is_some mark) else mark) ≡ mark)) [
        | true ↦ λ k. inl (f, e, grind (arith, nat_tests))
        | false ↦ λ _. inr refl
      ] refl
    ] refl

stays_marked : (file : ℕ) (cs : List LinkChange) → marked file (Some true) cs ≡ Some true
stays_marked file [] = refl
stays_marked file (c ∷ cs) =
    elim (gives_or_stays file (Some true) c) [
      | inl g ↦ ap (λ o. marked file o cs) (marks-if file (Some true) c g) ∙ stays_marked file cs
      | inr s ↦ ap (λ o. marked file o cs) s ∙ stays_marked file cs
    ]

-- one more gives the file
marked_again : (file : ℕ) (b : Bool) (cs : List LinkChange) (x : LinkChange) → IsAmong x cs → Gives file x → marked file (Some b) cs ≡ Some true
marked_again file b [] x h g = absurd h
marked_again file b (c ∷ cs) x (inl same) g =
    ap (λ o. marked file o cs) (marks-if file (Some b) c (subst (Gives file) (sym same) g)) ∙ stays_marked file cs
marked_again file b (c ∷ cs) x (inr h) g =
    elim (gives_or_stays file (Some b) c) [
      | inl k ↦ ap (λ o. marked file o cs) (marks-if file (Some b) c k) ∙ stays_marked file cs
      | inr s ↦ ap (λ o. marked file o cs) s ∙ marked_again file b cs x h g
    ]

-- two that give it, in two places
pub marked_twice : (file : ℕ) (cs : List LinkChange) (x y : LinkChange) → IsAmong x cs → IsAmong y cs → Gives file x → Gives file y → (x ≡ y → ⊥) → marked file None cs ≡ Some true
marked_twice file [] x y h k g j other = absurd h
marked_twice file (c ∷ cs) x y (inl is_x) (inl is_y) g j other = absurd (other (sym is_x ∙ is_y))
marked_twice file (c ∷ cs) x y (inl is_x) (inr k) g j other = ap (λ o. marked file o cs) (marks-if file None c (subst (Gives file) (sym is_x) g)) ∙ marked_again file false cs y k j
marked_twice file (c ∷ cs) x y (inr h) (inl is_y) g j other = ap (λ o. marked file o cs) (marks-if file None c (subst (Gives file) (sym is_y) j)) ∙ marked_again file false cs x h g
marked_twice file (c ∷ cs) x y (inr h) (inr k) g j other =
    elim (gives_or_stays file None c) [
      | inl p ↦ ap (λ o. marked file o cs) (marks-if file None c p) ∙ marked_again file false cs y k j
      | inr s ↦ ap (λ o. marked file o cs) s ∙ marked_twice file cs x y h k g j other
    ]

-- what gave the file again
abbrev pub Another : ℕ → List LinkChange → (LinkChange → Type 0) → Type 0
Another file cs P = (y : LinkChange) × IsAmong y cs × Gives file y × P y

further : (file : ℕ) (c : LinkChange) (cs : List LinkChange) (P : LinkChange → Type 0) → Another file cs P → Another file (c ∷ cs) P
further file c cs P w = (w.0, inr w.1, w.2, w.3)

gave_again : (file : ℕ) (cs : List LinkChange) → marked file (Some false) cs ≡ Some true → Another file cs (λ _. Unit {0})
gave_again file [] h = absurd (cc)
gave_again file (c ∷ cs) h =
    elim (gives_or_stays file (Some false) c) [
      | inl g ↦ (c, inl refl, g, tt)
      | inr s ↦ further file c cs (λ _. Unit {0}) (gave_again file cs (sym (ap (λ o. marked file o cs) s) ∙ h))
    ]

-- where two gave it one stands elsewhere than a place
pub gave_twice : (file : ℕ) (cs : List LinkChange) (place : ℕ × List ℕ) → StandApart cs → marked file None cs ≡ Some true → Another file cs (λ y. is_at place (place_of y) ≡ false)
gave_twice file [] place apart h = absurd (cc)
gave_twice file (c ∷ cs) place apart h =
    elim (gives_or_stays file None c) [
      | inl g ↦ elim (is_at place (place_of c)) as (λ b. is_at place (place_of c) ≡ b → Another file (c ∷ cs) (λ y. is_at place (place_of y) ≡ false)) [
        | false ↦ λ e. (c, inl refl, g, e)
        | true ↦ λ e.
            let w = gave_again file cs (sym (ap (λ o. marked file o cs) (marks-if file None c g)) ∙ h) in
            let behind = holds_among (λ y. eq_by_cmp link_cmp (place_of c) (place_of y) ≡ false) cs w.0 (unmapped cs (IsDistinct-head (eq_by_cmp link_cmp) (place_of c) (map place_of cs) apart)) w.1 in
            (w.0, inr w.1, w.2, ap (λ p. is_at p (place_of w.0)) (tied_key link_cmp-same place (place_of c) e) ∙ behind)
      ] refl
      | inr s ↦ further file c cs (λ y. is_at place (place_of y) ≡ false) (gave_twice file cs place (IsDistinct-tail (eq_by_cmp link_cmp) (place_of c) (map place_of cs) apart) (sym (ap (λ o. marked file o cs) s) ∙ h))
    ]
  where
    unmapped : (ds : List LinkChange) → AllByRecursion (λ y. eq_by_cmp link_cmp (place_of c) y ≡ false) (map place_of ds) → AllByRecursion (λ y. eq_by_cmp link_cmp (place_of c) (place_of y) ≡ false) ds
    unmapped [] h = tt
    unmapped (d ∷ ds) h = (h.0, unmapped ds h.1)

-- where no change gives the file, its mark stays
mark_stays : (file : ℕ) (mark : Option Bool) (cs : List LinkChange) → AllByRecursion (λ id. (id == file) ≡ false) (ids_given cs) → marked file mark cs ≡ mark
mark_stays file mark [] = λ _. refl
mark_stays file mark (c ∷ cs) =
    elim c.target as (λ o. AllByRecursion (λ id. (id == file) ≡ false) (cons_option (option_map (λ (f : FileId). f.0) o) (ids_given cs)) → marked file (mark_after file mark o) cs ≡ mark) [
      | None ↦ λ all. mark_stays file mark cs all
      | Some f ↦ λ all. ap (λ (b : Bool). marked file (if b then Some (is_some mark) else mark) cs) all.0 ∙ mark_stays file mark cs all.1
    ]

-- changes whose files are apart mark none
pub apart-unmarked : (file : ℕ) (cs : List LinkChange) → IsDistinct (eq_by_cmp nat_cmp) (ids_given cs) → is_marked (marked file None cs) ≡ false
apart-unmarked file [] = λ _. refl
apart-unmarked file (c ∷ cs) =
    elim c.target as (λ o. IsDistinct (eq_by_cmp nat_cmp) (cons_option (option_map (λ (f : FileId). f.0) o) (ids_given cs)) → is_marked (marked file (mark_after file None o) cs) ≡ false) [
      | None ↦ λ apart. apart-unmarked file cs apart
      | Some f ↦ λ apart. elim (f.0 == file) as (λ b. (f.0 == file) ≡ b → is_marked (marked file (if b then Some false else None) cs) ≡ false) [
        | false ↦ λ _. apart-unmarked file cs (IsDistinct-tail (eq_by_cmp nat_cmp) f.0 (ids_given cs) apart)
        | true ↦ λ e.
            let same : f.0 ≡ file = grind (arith, nat_tests) in
            ap is_marked (mark_stays file (Some false) cs (others same (ids_given cs) (IsDistinct-head (eq_by_cmp nat_cmp) f.0 (ids_given cs) apart)))
      ] refl
    ]
  where
    other : (n id : ℕ) → n ≡ file → eq_by_cmp nat_cmp n id ≡ false → (id == file) ≡ false
    other n id same apart =
        elim (id == file) as (λ b. (id == file) ≡ b → b ≡ false) [
          | false ↦ λ _. refl
          | true ↦ λ e.
              let is : id ≡ n = let w : id ≡ file = grind (arith, nat_tests) in w ∙ sym same in
              let yes = ap is_eq (tied_itself nat_cmp_total n) in
              let moved = ap (eq_by_cmp nat_cmp n) is in
              absurd (cc (yes, apart, moved))
        ] refl

    others : {n : ℕ} → n ≡ file → (ids : List ℕ) → AllByRecursion (λ id. eq_by_cmp nat_cmp n id ≡ false) ids → AllByRecursion (λ id. (id == file) ≡ false) ids
    others same [] all = tt
    others {n} same (id ∷ ids) all = (other n id same all.0, others same ids all.1)

pub marked-is : (o : Option Bool) → is_marked o ≡ true → o ≡ Some true
marked-is None h = absurd (cc)
marked-is (Some b) h = ap (λ x. Some x) h
