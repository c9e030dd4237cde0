-- Lookups in a finite map after an insertion, and its entries.
use Rattle.std.proofs.Common.{◌≡◌, Bool, true, false, cond, ◌||◌, T, List, [], ◌∷◌, Some, None, refl, sym, ap, ◌∙◌, ◌⊎◌, inl, inr}
use Rattle.std.proofs.Math.Bool.{or-true}
use Rattle.std.proofs.Math.Facts.{and_yes}
use Rattle.std.specs.List.{list_any}
use Rattle.std.specs.Ordering.{is_eq, is_lt, eq_by_cmp, ordering_reverse}
use Rattle.std.specs.declared.cmp.Ordering.{Ordering}
use Rattle.std.specs.declared.cmp.Ordering.TheVariants.{Less, Equal, Greater}
use Rattle.std.specs.Cmp.{IsTotalOrder, tied_itself}
use Rattle.std.specs.FinMap.{FinMap, entries, entries_sorted, get, insert, find, remove, get-entries, get-insert, get-remove, same_map, IsAntisymmetric}
use Rattle.std.specs.FinMap.Entries.{below_all, is_sorted}

tie : (o : Ordering) → is_eq o ≡ true → o ≡ Equal
tie Less h = absurd (cc)
tie Equal h = refl
tie Greater h = absurd (cc)

-- a key that ties is the key, in an order that tells keys apart
tied : {K : Type 0} {R : K → K → Ordering} → IsAntisymmetric R → (x y : K) (o : Ordering) → R x y ≡ o → is_eq o ≡ true → x ≡ y
tied same x y o e h = same x y (e ∙ tie o h)

pub tied_key : {K : Type 0} {R : K → K → Ordering} → IsAntisymmetric R → (x y : K) → eq_by_cmp R x y ≡ true → x ≡ y
tied_key {K} {R} same x y h = tied same x y (R x y) refl h

-- what a map has after an insertion is what was inserted, or what it had
pub get-insert_cases : {K X : Type 0} {R : K → K → Ordering} (o : IsTotalOrder R) → IsAntisymmetric R → (m : FinMap R X) (k : K) (v : X) (q : K) (w : X) → get (insert m k v) q ≡ Some w → ((q ≡ k) × (v ≡ w)) ⊎ (get m q ≡ Some w)
get-insert_cases {K} {X} {R} o same m k v q w h =
    elim (eq_by_cmp R q k) as (λ b. eq_by_cmp R q k ≡ b → cond b (Some v) (get m q) ≡ Some w → ((q ≡ k) × (v ≡ w)) ⊎ (get m q ≡ Some w)) [
      | true ↦ λ e g. inl (tied same q k (R q k) refl e, cc)
      | false ↦ λ e g. inr g
    ] refl (sym (get-insert o m k v q) ∙ h)

pub get-insert_same : {K X : Type 0} {R : K → K → Ordering} (o : IsTotalOrder R) → (m : FinMap R X) (k : K) (v : X) → get (insert m k v) k ≡ Some v
get-insert_same o m k v = get-insert o m k v k ∙ ap (λ r. cond (is_eq r) (Some v) (get m k)) (tied_itself o k)

pub get-insert_other : {K X : Type 0} {R : K → K → Ordering} (o : IsTotalOrder R) → IsAntisymmetric R → (m : FinMap R X) (k : K) (v : X) (q : K) → (q ≡ k → ⊥) → get (insert m k v) q ≡ get m q
get-insert_other {K} {X} {R} o same m k v q other =
    get-insert o m k v q ∙ (elim (eq_by_cmp R q k) as (λ b. eq_by_cmp R q k ≡ b → cond b (Some v) (get m q) ≡ get m q) [
      | true ↦ λ e. absurd (other (tied same q k (R q k) refl e))
      | false ↦ λ e. refl
    ] refl)

-- what a map has after a removal
pub get-remove_same : {K X : Type 0} {R : K → K → Ordering} (o : IsTotalOrder R) → (m : FinMap R X) (k : K) → get (remove m k) k ≡ None
get-remove_same o m k = get-remove o m k k ∙ ap (λ r. cond (is_eq r) None (get m k)) (tied_itself o k)

pub get-remove_other : {K X : Type 0} {R : K → K → Ordering} (o : IsTotalOrder R) → IsAntisymmetric R → (m : FinMap R X) (k q : K) → (q ≡ k → ⊥) → get (remove m k) q ≡ get m q
get-remove_other {K} {X} {R} o same m k q other =
    get-remove o m k q ∙ (elim (eq_by_cmp R q k) as (λ b. eq_by_cmp R q k ≡ b → cond b None (get m q) ≡ get m q) [
      | true ↦ λ e. absurd (other (tied same q k (R q k) refl e))
      | false ↦ λ e. refl
    ] refl)

pub get-remove_cases : {K X : Type 0} {R : K → K → Ordering} (o : IsTotalOrder R) → IsAntisymmetric R → (m : FinMap R X) (k q : K) (w : X) → get (remove m k) q ≡ Some w → (get m q ≡ Some w) × (q ≡ k → ⊥)
get-remove_cases {K} {X} {R} o same m k q w h =
    elim (eq_by_cmp R q k) as (λ b. eq_by_cmp R q k ≡ b → cond b None (get m q) ≡ Some w → (get m q ≡ Some w) × (q ≡ k → ⊥)) [
      | true ↦ λ e g. absurd (cc)
      | false ↦ λ e g. (g, λ same_key. let there = ap (get (remove m k)) same_key ∙ get-remove_same o m k in absurd (cc))
    ] refl (sym (get-remove o m k q) ∙ h)

-- nothing is removed where nothing is, and what was inserted there is removed again
pub removed_nothing : {K X : Type 0} {R : K → K → Ordering} (o : IsTotalOrder R) → IsAntisymmetric R → (m : FinMap R X) (k : K) → get m k ≡ None → remove m k ≡ m
removed_nothing {K} {X} {R} o same m k none =
    same_map o same (remove m k) m (λ q. get-remove o m k q ∙ (elim (eq_by_cmp R q k) as (λ b. eq_by_cmp R q k ≡ b → cond b None (get m q) ≡ get m q) [
      | true ↦ λ e. sym (ap (get m) (tied same q k (R q k) refl e) ∙ none)
      | false ↦ λ e. refl
    ] refl))

pub removed_again : {K X : Type 0} {R : K → K → Ordering} (o : IsTotalOrder R) → IsAntisymmetric R → (m : FinMap R X) (k : K) (v : X) → get m k ≡ None → remove (insert m k v) k ≡ m
removed_again {K} {X} {R} o same m k v none =
    same_map o same (remove (insert m k v) k) m (λ q. get-remove o (insert m k v) k q ∙ (elim (eq_by_cmp R q k) as (λ b. eq_by_cmp R q k ≡ b → cond b None (get (insert m k v) q) ≡ get m q) [
      | true ↦ λ e. sym (ap (get m) (tied same q k (R q k) refl e) ∙ none)
      | false ↦ λ e. get-insert o m k v q ∙ ap (λ b. cond b (Some v) (get m q)) e
    ] refl))

-- a value that is found is among the entries
list_any-find : {K X : Type 0} (R : K → K → Ordering) (p : X → Bool) (q : K) (es : List (K × X)) (v : X) → find R q es ≡ Some v → p v ≡ true → list_any (λ (e : K × X). p e.1) es ≡ true
list_any-find R p q [] v h t = cc
list_any-find {K} {X} R p q (e ∷ es) v h t =
    elim (eq_by_cmp R q e.0) as (λ b. cond b (Some e.1) (find R q es) ≡ Some v → list_any (λ (x : K × X). p x.1) (e ∷ es) ≡ true) [
      | true ↦ λ g. let same : e.1 ≡ v = cc in rw (same, t) refl
      | false ↦ λ g. rw (list_any-find R p q es v g t) (or-true (p e.1))
    ] h

pub list_any-entries : {K X : Type 0} {R : K → K → Ordering} (p : X → Bool) (m : FinMap R X) (q : K) (v : X) → get m q ≡ Some v → p v ≡ true → list_any (λ (e : K × X). p e.1) (entries m) ≡ true
list_any-entries {R = R} p m q v h t = list_any-find R p q (entries m) v (sym (get-entries m q) ∙ h) t

-- what is found stands under its key among the entries
any_key-find : {K X : Type 0} (R : K → K → Ordering) → IsAntisymmetric R → (p : K → Bool) (q : K) (es : List (K × X)) (v : X) → find R q es ≡ Some v → p q ≡ true → list_any (λ (e : K × X). p e.0) es ≡ true
any_key-find R same p q [] v h t = cc
any_key-find {K} {X} R same p q (e ∷ es) v h t =
    elim (eq_by_cmp R q e.0) as (λ b. eq_by_cmp R q e.0 ≡ b → cond b (Some e.1) (find R q es) ≡ Some v → list_any (λ (x : K × X). p x.0) (e ∷ es) ≡ true) [
      | true ↦ λ k g. ap (λ b. b || list_any (λ (x : K × X). p x.0) es) (ap p (sym (tied same q e.0 (R q e.0) refl k)) ∙ t)
      | false ↦ λ k g. ap (λ b. p e.0 || b) (any_key-find R same p q es v g t) ∙ or-true (p e.0)
    ] refl h

pub any_key-entries : {K X : Type 0} {R : K → K → Ordering} → IsAntisymmetric R → (p : K → Bool) (m : FinMap R X) (q : K) (v : X) → get m q ≡ Some v → p q ≡ true → list_any (λ (e : K × X). p e.0) (entries m) ≡ true
any_key-entries {R = R} same p m q v h t = any_key-find R same p q (entries m) v (sym (get-entries m q) ∙ h) t

-- a key among the entries is found
pub record IsFoundKey {K X : Type 0} (R : K → K → Ordering) (p : K → Bool) (es : List (K × X)) : Type 0 where
  pub key : K
  pub value : X
  pub found : find R key es ≡ Some value
  pub passes : p key ≡ true

found_key : {K X : Type 0} {R : K → K → Ordering} (o : IsTotalOrder R) (p : K → Bool) (es : List (K × X)) → list_any (λ (e : K × X). p e.0) es ≡ true → IsFoundKey R p es
found_key o p [] h = absurd (cc)
found_key {K} {X} {R} o p (e ∷ es) h =
    elim (p e.0) as (λ b. p e.0 ≡ b → (b || list_any (λ (x : K × X). p x.0) es) ≡ true → IsFoundKey R p (e ∷ es)) [
      | true ↦ λ t g. record { key = e.0; value = e.1; found = ap (λ r. cond (is_eq r) (Some e.1) (find R e.0 es)) (tied_itself o e.0); passes = t }
      | false ↦ λ t g.
          let r = found_key o p es g in
          elim (eq_by_cmp R r.key e.0) as (λ b. eq_by_cmp R r.key e.0 ≡ b → IsFoundKey R p (e ∷ es)) [
            | true ↦ λ k. record { key = r.key; value = e.1; found = ap (λ b. cond b (Some e.1) (find R r.key es)) k; passes = r.passes }
            | false ↦ λ k. record { key = r.key; value = r.value; found = ap (λ b. cond b (Some e.1) (find R r.key es)) k ∙ r.found; passes = r.passes }
          ] refl
    ] refl h

pub key_from_any : {K X : Type 0} {R : K → K → Ordering} (o : IsTotalOrder R) (p : K → Bool) (m : FinMap R X) → list_any (λ (e : K × X). p e.0) (entries m) ≡ true → (k : K) × (v : X) × (get m k ≡ Some v) × (p k ≡ true)
key_from_any o p m h = let r = found_key o p (entries m) h in (r.key, r.value, get-entries m r.key ∙ r.found, r.passes)

no_tie_below : (o : Ordering) → T (is_lt o) → is_eq (ordering_reverse o) ≡ false
no_tie_below Less h = refl
no_tie_below Equal h = absurd h
no_tie_below Greater h = absurd h

-- a key that is found after another doesn't tie with it
pub no_tie_behind : {K X : Type 0} {R : K → K → Ordering} (o : IsTotalOrder R) (x q : K) (es : List (K × X)) (v : X) → T (below_all R x es) → find R q es ≡ Some v → eq_by_cmp R q x ≡ false
no_tie_behind o x q [] v below h = absurd (cc)
no_tie_behind {K} {X} {R} o x q (e ∷ es) v below h =
    let w = and_yes (is_lt (R x e.0)) (below_all R x es) below in
    elim (eq_by_cmp R q e.0) as (λ b. eq_by_cmp R q e.0 ≡ b → cond b (Some e.1) (find R q es) ≡ Some v → eq_by_cmp R q x ≡ false) [
      | true ↦ λ t _. ap is_eq (o.congr q e.0 x (tie (R q e.0) t) ∙ o.antisymm e.0 x) ∙ no_tie_below (R x e.0) w.0
      | false ↦ λ _ g. no_tie_behind o x q es v w.1 g
    ] refl h

-- a value among entries whose keys rise is found at its key
pub record IsFoundValue {K X : Type 0} (R : K → K → Ordering) (p : X → Bool) (es : List (K × X)) : Type 0 where
  pub key : K
  pub value : X
  pub found : find R key es ≡ Some value
  pub passes : p value ≡ true

found_value : {K X : Type 0} {R : K → K → Ordering} (o : IsTotalOrder R) (p : X → Bool) (es : List (K × X)) → T (is_sorted R es) → list_any (λ (e : K × X). p e.1) es ≡ true → IsFoundValue R p es
found_value o p [] rise h = absurd (cc)
found_value {K} {X} {R} o p (e ∷ es) rise h =
    let w = and_yes (below_all R e.0 es) (is_sorted R es) rise in
    elim (p e.1) as (λ b. p e.1 ≡ b → (b || list_any (λ (x : K × X). p x.1) es) ≡ true → IsFoundValue R p (e ∷ es)) [
      | true ↦ λ t g. record { key = e.0; value = e.1; found = ap (λ r. cond (is_eq r) (Some e.1) (find R e.0 es)) (tied_itself o e.0); passes = t }
      | false ↦ λ t g.
          let r = found_value o p es w.1 g in
          record { key = r.key; value = r.value; found = ap (λ b. cond b (Some e.1) (find R r.key es)) (no_tie_behind o e.0 r.key es r.value w.0 r.found) ∙ r.found; passes = r.passes }
    ] refl h

pub value_from_any : {K X : Type 0} {R : K → K → Ordering} (o : IsTotalOrder R) (p : X → Bool) (m : FinMap R X) → list_any (λ (e : K × X). p e.1) (entries m) ≡ true → (k : K) × (v : X) × (get m k ≡ Some v) × (p v ≡ true)
value_from_any o p m h = let r = found_value o p (entries m) (entries_sorted m) h in (r.key, r.value, get-entries m r.key ∙ r.found, r.passes)
