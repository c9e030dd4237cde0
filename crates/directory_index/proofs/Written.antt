-- A number that was written under a name, or a name that was taken out.
use Rattle.std.proofs.Common.{◌≡◌, ℕ, Bool, true, false, cond, List, [], ◌∷◌, map, length, Option, Some, None, if◌then◌else◌, refl, sym, ap, ◌∙◌, inl, inr, ◌⊎◌, arith}
use Rattle.std.specs.Prelude.{◌==◌, nat_eq}
use Rattle.std.specs.Option.{option_and_then, unwrap_or}
use Rattle.std.specs.Ordering.{eq_by_cmp, is_eq, match_ordering, nat_cmp}
use Rattle.std.specs.BTreeMap.{insert_entry, is_at}
use Rattle.std.specs.Cmp.Lexicographic.{nat_list_cmp_total, pointwise, same_text, slice_cmp, texts_ties}
use Rattle.std.specs.FinMap.{find, put}
use Rattle.std.specs.FinMap.Entries.{by_order, find-put}
use Rattle.std.specs.HashMap.{HashMap}
use Rattle.std.specs.HashMap as hash
use Rattle.std.specs.Map.{lookup, remove_entry}
use Rattle.std.specs.declared.alloc.Global.{Global}
use Rattle.std.specs.declared.cmp.Ordering.{Ordering}
use Rattle.std.specs.declared.cmp.Ordering.TheVariants.{Less, Equal, Greater}
use Rattle.std.specs.declared.vec.Vec.{Vec}
use Rattle.eden_base.proofs.NumberTests.{eq-true, eq-false, eq-or}
use Rattle.directory_index.specs.Names.{in_directory, written}
use Rattle.directory_index.specs.Standing.{is_place}
use Rattle.directory_index.specs.declared.names.Others.{Others}

abbrev Numbers : Type 0
Numbers = List (Vec ℕ Global × ℕ)

-- the order of names, by their bytes
abbrev name_cmp : List ℕ → List ℕ → Ordering
name_cmp = slice_cmp nat_cmp

abbrev vec_cmp : Vec ℕ Global → Vec ℕ Global → Ordering
vec_cmp a b = name_cmp a.items b.items

-- whether a key is this name
abbrev at_name : List ℕ → Vec ℕ Global → Bool
at_name name = is_at (λ (k : Vec ℕ Global). name_cmp name k.items)

-- a name is compared as its bytes are
at_name-bytes : (name : List ℕ) (k : Vec ℕ Global) → at_name name k ≡ pointwise nat_eq name k.items
at_name-bytes name k = sym (texts_ties name k.items)

-- the entries, with each name as its bytes
abbrev by_bytes : Numbers → List (List ℕ × ℕ)
by_bytes es = map (λ (e : Vec ℕ Global × ℕ). (e.0.items, e.1)) es

find-by_bytes : (es : Numbers) (name : List ℕ) → find name_cmp name (by_bytes es) ≡ lookup (at_name name) es
find-by_bytes [] name = refl
find-by_bytes (e ∷ es) name = ap (cond (is_eq (name_cmp name e.0.items)) (Some e.1)) (find-by_bytes es name)

by_bytes-insert : (es : Numbers) (k : Vec ℕ Global) (number : ℕ) → by_bytes (insert_entry vec_cmp es k number) ≡ put name_cmp k.items number (by_bytes es)
by_bytes-insert [] k number = refl
by_bytes-insert (e ∷ es) k number =
    elim (name_cmp k.items e.0.items) as (λ o. by_bytes (match_ordering o ((k, number) ∷ e ∷ es) ((e.0, number) ∷ es) (e ∷ insert_entry vec_cmp es k number)) ≡ by_order o ((k.items, number) ∷ (e.0.items, e.1) ∷ by_bytes es) ((e.0.items, number) ∷ by_bytes es) ((e.0.items, e.1) ∷ put name_cmp k.items number (by_bytes es))) [
      | Less ↦ refl
      | Equal ↦ refl
      | Greater ↦ ap (λ xs. (e.0.items, e.1) ∷ xs) (by_bytes-insert es k number)
    ]

-- a directory in which a number was written under a name
pub in_directory-insert : (old new : Others) (k : Vec ℕ Global) (name : List ℕ) (number : ℕ) → k.items ≡ name → new.numbers.entries ≡ insert_entry vec_cmp old.numbers.entries k number →
    (q : List ℕ) → in_directory q new ≡ cond (pointwise nat_eq q name) (Some number) (in_directory q old)
in_directory-insert old new k name number is entries q =
    ap (lookup (at_name q)) entries
    ∙ sym (find-by_bytes (insert_entry vec_cmp old.numbers.entries k number) q)
    ∙ ap (find name_cmp q) (by_bytes-insert old.numbers.entries k number)
    ∙ find-put name_cmp nat_list_cmp_total q k.items number (by_bytes old.numbers.entries)
    ∙ ap (λ (n : List ℕ). cond (eq_by_cmp name_cmp q n) (Some number) (find name_cmp q (by_bytes old.numbers.entries))) is
    ∙ ap (λ b. cond b (Some number) (find name_cmp q (by_bytes old.numbers.entries))) (sym (texts_ties q name))
    ∙ ap (cond (pointwise nat_eq q name) (Some number)) (find-by_bytes old.numbers.entries q)

-- what stands under another name stays where one is taken out
lookup-remove_other : (es : Numbers) (q name : List ℕ) → (q ≡ name → ⊥) → lookup (at_name q) (remove_entry (at_name name) es) ≡ lookup (at_name q) es
lookup-remove_other [] q name apart = refl
lookup-remove_other (e ∷ es) q name apart = in_ (at_name name e.0) (at_name q e.0) refl refl (lookup-remove_other es q name apart) where
  in_ : (b c : Bool) → at_name name e.0 ≡ b → at_name q e.0 ≡ c → lookup (at_name q) (remove_entry (at_name name) es) ≡ lookup (at_name q) es →
      lookup (at_name q) (cond b es (e ∷ remove_entry (at_name name) es)) ≡ cond c (Some e.1) (lookup (at_name q) es)
  in_ true true t s rest = absurd (apart (same_text q e.0.items (sym s ∙ at_name-bytes q e.0) ∙ sym (same_text name e.0.items (sym t ∙ at_name-bytes name e.0))))
  in_ true false t s rest = refl
  in_ false c t s rest = rw s (ap (cond c (Some e.1)) rest)

pub names-alike : (name : List ℕ) → pointwise nat_eq name name ≡ true
names-alike [] = refl
names-alike (b ∷ name) = let t : (b == b) ≡ true = eq-true b b refl in rw (t, names-alike name) refl

-- whether two names are one
pub name-or : (q name : List ℕ) → ((q ≡ name) × (pointwise nat_eq q name ≡ true)) ⊎ ((q ≡ name → ⊥) × (pointwise nat_eq q name ≡ false))
name-or q name = in_ (pointwise nat_eq q name) refl where
  in_ : (b : Bool) → pointwise nat_eq q name ≡ b → ((q ≡ name) × (pointwise nat_eq q name ≡ true)) ⊎ ((q ≡ name → ⊥) × (pointwise nat_eq q name ≡ false))
  in_ true t = inl (same_text q name (sym t), t)
  in_ false f = inr (λ same. let alike : pointwise nat_eq q name ≡ true = ap (λ (n : List ℕ). pointwise nat_eq n name) same ∙ names-alike name in let no : ⊥ = cc in no, f)

-- a directory from which a name was taken
pub in_directory-remove : (old new : Others) (name : List ℕ) → new.numbers.entries ≡ remove_entry (at_name name) old.numbers.entries → in_directory name new ≡ None →
    (q : List ℕ) → in_directory q new ≡ cond (pointwise nat_eq q name) None (in_directory q old)
in_directory-remove old new name entries gone q = in_ (name-or q name) where
  in_ : ((q ≡ name) × (pointwise nat_eq q name ≡ true)) ⊎ ((q ≡ name → ⊥) × (pointwise nat_eq q name ≡ false)) → in_directory q new ≡ cond (pointwise nat_eq q name) None (in_directory q old)
  in_ (inl p) = rw p.1 (ap (λ (n : List ℕ). in_directory n new) p.0 ∙ gone)
  in_ (inr p) = rw p.1 (ap (lookup (at_name q)) entries ∙ lookup-remove_other old.numbers.entries q name p.0)

-- a directory that is made has no names, as one that isn't there
pub in_directory-opened : (found : Option Others) (none opened : Others) → none.numbers.entries ≡ [] → opened ≡ unwrap_or found none → (q : List ℕ) → in_directory q opened ≡ option_and_then (in_directory q) found
in_directory-opened None none opened e is q = ap (in_directory q) is ∙ ap (lookup (at_name q)) e
in_directory-opened (Some others) none opened e is q = ap (in_directory q) is

-- and one without names is as one that isn't there
pub in_directory-empty : (d : Others) (q : List ℕ) → length d.numbers.entries ≡ 0 → in_directory q d ≡ None
in_directory-empty d q e = none_in d.numbers.entries e where
  none_in : (es : Numbers) → length es ≡ 0 → lookup (at_name q) es ≡ None
  none_in [] h = refl
  none_in (x ∷ es) h = absurd (omega arith)

-- what one directory has for one name was changed, and nothing else
pub written-changed : {S : Type 0} (m n : HashMap ℕ Others S) (dir : ℕ) (name : List ℕ) (new : Option Others) (v : Option ℕ) →
    ((d : ℕ) → hash.get nat_eq n d ≡ cond (nat_eq dir d) new (hash.get nat_eq m d)) →
    ((q : List ℕ) → option_and_then (in_directory q) new ≡ cond (pointwise nat_eq q name) v (written m dir q)) →
    (d : ℕ) (q : List ℕ) → written n d q ≡ (if is_place d q dir name then v else written m d q)
written-changed m n dir name new v after here d q = in_ (eq-or d dir) where
  in_ : (d ≡ dir) ⊎ (d ≡ dir → ⊥) → written n d q ≡ (if is_place d q dir name then v else written m d q)
  in_ (inl same) =
      let t : (d == dir) ≡ true = eq-true d dir same in
      rw t (ap (option_and_then (in_directory q)) (after d ∙ ap (λ b. cond b new (hash.get nat_eq m d)) (eq-true dir d (sym same)))
      ∙ here q ∙ ap (λ (x : ℕ). cond (pointwise nat_eq q name) v (written m x q)) (sym same))
  in_ (inr other) =
      let f : (d == dir) ≡ false = eq-false d dir other in
      rw f (ap (option_and_then (in_directory q)) (after d ∙ ap (λ b. cond b new (hash.get nat_eq m d)) (eq-false dir d (λ e. other (sym e)))))

-- a value that was changed and then taken out
pub cond-cond : {X : Type 0} (b : Bool) (v w x : X) → cond b v (cond b w x) ≡ cond b v x
cond-cond true v w x = refl
cond-cond false v w x = refl
