-- A map by ids, as the list of entries that it is.
use Rattle.std.proofs.Common.{◌≡◌, ℕ, cond, List, [], ◌∷◌, Some, refl, ap, sym, ◌∙◌}
use Rattle.std.specs.Ordering.{nat_cmp, is_eq, eq_by_cmp, match_ordering}
use Rattle.std.specs.declared.cmp.Ordering.TheVariants.{Less, Equal, Greater}
use Rattle.std.specs.Cmp.{nat_cmp_total}
use Rattle.std.specs.FinMap.{get, insert, from_entries, find, put, nat_cmp-IsAntisymmetric, get-from_entries, get-insert, same_map}
use Rattle.std.specs.FinMap.Entries.{find-put, by_order}
use Rattle.std.specs.Map.{lookup}
use Rattle.std.specs.BTreeMap.{insert_entry, is_at}

module _ {X : Type 0} where
  find-lookup : (es : List (ℕ × X)) (q : ℕ) → find nat_cmp q es ≡ lookup (is_at (nat_cmp q)) es
  find-lookup [] q = refl
  find-lookup (e ∷ es) q = ap (cond (is_eq (nat_cmp q e.0)) (Some e.1)) (find-lookup es q)

  pub get-by_id : (es : List (ℕ × X)) (q : ℕ) → get (from_entries {R = nat_cmp} es) q ≡ lookup (is_at (nat_cmp q)) es
  get-by_id es q = get-from_entries nat_cmp_total es q ∙ find-lookup es q

  insert_entry-put : (es : List (ℕ × X)) (k : ℕ) (v : X) → insert_entry nat_cmp es k v ≡ put nat_cmp k v es
  insert_entry-put [] k v = refl
  insert_entry-put (e ∷ es) k v =
      elim (nat_cmp k e.0) as (λ o. match_ordering o ((k, v) ∷ e ∷ es) ((e.0, v) ∷ es) (e ∷ insert_entry nat_cmp es k v) ≡ by_order o ((k, v) ∷ e ∷ es) ((e.0, v) ∷ es) (e ∷ put nat_cmp k v es)) [
        | Less ↦ refl
        | Equal ↦ refl
        | Greater ↦ ap (λ xs. e ∷ xs) (insert_entry-put es k v)
      ]

  pub from_entries-by_id : (es : List (ℕ × X)) (k : ℕ) (v : X) → from_entries {R = nat_cmp} (insert_entry nat_cmp es k v) ≡ insert (from_entries es) k v
  from_entries-by_id es k v =
      let o = nat_cmp_total in
      same_map o nat_cmp-IsAntisymmetric _ _ (λ q. get-from_entries o _ q ∙ ap (find nat_cmp q) (insert_entry-put es k v) ∙ find-put nat_cmp o q k v es
      ∙ sym (get-insert o _ k v q ∙ ap (cond (eq_by_cmp nat_cmp q k) (Some v)) (get-from_entries o es q)))
