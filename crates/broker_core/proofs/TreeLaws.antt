-- What a tree says of the numbers held: of one, after a change of one, and of the least above another.
use Rattle.std.proofs.Common.{◌≡◌, ℕ, zero, suc, ◌+◌, ◌-◌, ◌<◌, ◌≤◌, Bool, true, false, cond, List, [], ◌∷◌, Option, Some, None, refl, sym, ap, ◌∙◌, subst, arith}
use Rattle.std.specs.Prelude.{◌==◌, ◌≢◌, nat_le, IsSome}
use Rattle.std.specs.Option.{unwrap_or}
use Rattle.std.specs.Ordering.{nat_cmp, is_gt}
use Rattle.std.specs.declared.cmp.Ordering.TheVariants.{Less}
use Rattle.std.specs.declared.ops.Bound.TheVariants.{Excluded, Unbounded}
use Rattle.std.specs.Cmp.{nat_cmp_total}
use Rattle.std.specs.Map.{lookup}
use Rattle.std.specs.BTreeMap.{BTreeMap, WritesThrough, get, is_at}
use Rattle.std.specs.BTreeMap.Range.{IsRangeOf, IsEntryInRange}
use Rattle.std.specs.FinMap as map
use Rattle.std.specs.FinMap.{get-from_entries, same_map, nat_cmp-IsAntisymmetric}
use Rattle.std.specs.FinMap.Entries.{find}
use Rattle.std.proofs.lemmas.Bool.Decides.{nat_tests}
use Rattle.broker_core.specs.Held.{HeldMap, map_of, held_count, raised, lowered}
use Rattle.broker_core.proofs.AskedLaws.{one_test}
use Rattle.broker_core.proofs.HeldLaws.{get_inserted, get_removed}

-- the count that stands at a number
abbrev pub count_in : List (ℕ × ℕ) → ℕ → Option ℕ
count_in es n = lookup (is_at (nat_cmp n)) es

one_walk : (es : List (ℕ × ℕ)) (n : ℕ) → find nat_cmp n es ≡ count_in es n
one_walk [] n = refl
one_walk (e ∷ es) n = ap (cond (is_at (nat_cmp n) e.0) (Some e.1)) (one_walk es n)

get-map_of : (es : List (ℕ × ℕ)) (n : ℕ) → map.get (map_of es) n ≡ count_in es n
get-map_of es n = get-from_entries nat_cmp_total es n ∙ one_walk es n

-- a number is held as often as its count says, and not at all where none stands there
pub held_count-map_of : (es : List (ℕ × ℕ)) (n : ℕ) → held_count (map_of es) n ≡ unwrap_or (count_in es n) 0
held_count-map_of es n = ap (λ (o : Option ℕ). unwrap_or o 0) (get-map_of es n)

pub held_count-found : (es : List (ℕ × ℕ)) (n : ℕ) (o : Option ℕ) → count_in es n ≡ o → held_count (map_of es) n ≡ unwrap_or o 0
held_count-found es n o is = held_count-map_of es n ∙ ap (λ (p : Option ℕ). unwrap_or p 0) is

lowered-out : (held : HeldMap) (n k : ℕ) → held_count held n ≤ k → lowered held n k ≡ map.remove held n
lowered-out held n k few = (let all : nat_le (held_count held n) k ≡ true = grind (arith, nat_tests) in ap (λ b. cond b (map.remove held n) (map.insert held n (held_count held n - k))) all)

lowered-less : (held : HeldMap) (n k : ℕ) → k < held_count held n → lowered held n k ≡ map.insert held n (held_count held n - k)
lowered-less held n k more = (let some : nat_le (held_count held n) k ≡ false = grind (arith, nat_tests) in ap (λ b. cond b (map.remove held n) (map.insert held n (held_count held n - k))) some)

-- two trees that differ at one number at most, where the new one has w
abbrev pub Sets : List (ℕ × ℕ) → List (ℕ × ℕ) → ℕ → Option ℕ → Type 0
Sets old new n w = (q : ℕ) → count_in new q ≡ cond (is_at (nat_cmp n) q) w (count_in old q)

-- as a count that is written over the one that stands there
pub sets-written : (m new : BTreeMap ℕ ℕ) (n c now : ℕ) → count_in m.entries n ≡ Some c → WritesThrough nat_cmp (nat_cmp n) m now new → Sets m.entries new.entries n (Some now)
sets-written m new n c now there through = (through.3 (subst IsSome (sym there) refl)).0

module _ (old new : List (ℕ × ℕ)) (n : ℕ) where
  inserted : (c : ℕ) → Sets old new n (Some c) → map_of new ≡ map.insert (map_of old) n c
  inserted c sets =
      same_map nat_cmp_total nat_cmp-IsAntisymmetric _ _ (λ q. get-map_of new q ∙ sets q ∙ ap (λ b. cond b (Some c) (count_in old q)) (one_test n q) ∙ sym (get_inserted (map_of old) n c q ∙ ap (cond (n == q) (Some c)) (get-map_of old q)))

  removed : Sets old new n None → map_of new ≡ map.remove (map_of old) n
  removed sets =
      same_map nat_cmp_total nat_cmp-IsAntisymmetric _ _ (λ q. get-map_of new q ∙ sets q ∙ ap (λ b. cond b None (count_in old q)) (one_test n q) ∙ sym (get_removed (map_of old) n q ∙ ap (cond (n == q) None) (get-map_of old q)))

  pub raised-once : Sets old new n (Some (held_count (map_of old) n + 1)) → map_of new ≡ raised (map_of old) n
  raised-once sets = inserted (held_count (map_of old) n + 1) sets

  pub lowered-all : (k : ℕ) → held_count (map_of old) n ≤ k → Sets old new n None → map_of new ≡ lowered (map_of old) n k
  lowered-all k few sets = removed sets ∙ sym (lowered-out (map_of old) n k few)

  pub lowered-some : (k : ℕ) → k < held_count (map_of old) n → Sets old new n (Some (held_count (map_of old) n - k)) → map_of new ≡ lowered (map_of old) n k
  lowered-some k more sets = inserted (held_count (map_of old) n - k) sets ∙ sym (lowered-less (map_of old) n k more)

  -- a number without a count is held no less
  pub lowered-none : (k : ℕ) → count_in old n ≡ None → ((q : ℕ) → count_in new q ≡ count_in old q) → map_of new ≡ lowered (map_of old) n k
  lowered-none k none same = lowered-all k (omega (arith, held_count-found old n None none)) (λ q. same q ∙ here q (is_at (nat_cmp n) q) refl) where
    here : (q : ℕ) (b : Bool) → is_at (nat_cmp n) q ≡ b → count_in old q ≡ cond b None (count_in old q)
    here q true at = let one : n ≡ q = grind (arith, nat_tests, one_test n q, at) in subst (λ m. count_in old m ≡ None) one none
    here q false at = refl

-- the first that stands above a number is the least held above it
pub least-first : (m : BTreeMap ℕ ℕ) (n : ℕ) (above rest : List (ℕ × ℕ)) (next c : ℕ) → ((q : ℕ) → get nat_cmp m q ≢ Some 0) → IsRangeOf nat_cmp (Excluded n) Unbounded m above → above ≡ (next, c) ∷ rest →
    (n < next) × (0 < held_count (map_of m.entries) next) × ((q : ℕ) → n < q → q < next → held_count (map_of m.entries) q ≡ 0)
least-first m n above rest next c kept range is = (grind (arith, nat_tests, first.0.0), omega (arith, some c refl, held_count-found m.entries next (Some c) first.1), between) where
  part : IsRangeOf nat_cmp (Excluded n) Unbounded m ((next, c) ∷ rest)
  part = subst (IsRangeOf nat_cmp (Excluded n) Unbounded m) is range

  first : IsEntryInRange nat_cmp (Excluded n) Unbounded m (next, c)
  first = part.1

  some : (d : ℕ) → d ≡ c → 0 < d
  some zero e = absurd (kept next (first.1 ∙ ap Some (sym e)))
  some (suc d) e = omega arith

  between : (q : ℕ) → n < q → q < next → held_count (map_of m.entries) q ≡ 0
  between q low high = either (get nat_cmp m q) refl where
    either : (o : Option ℕ) → get nat_cmp m q ≡ o → held_count (map_of m.entries) q ≡ 0
    either None e = held_count-found m.entries q None e
    either (Some d) e = absurd (let least : is_gt (nat_cmp next q) ≡ false = part.2 q ((let less : nat_cmp n q ≡ Less = grind (arith, nat_tests) in less), tt) (subst IsSome (sym e) refl) in grind (arith, nat_tests))

pub least-none : (m : BTreeMap ℕ ℕ) (n : ℕ) (above : List (ℕ × ℕ)) → IsRangeOf nat_cmp (Excluded n) Unbounded m above → above ≡ [] → (q : ℕ) → n < q → held_count (map_of m.entries) q ≡ 0
least-none m n above range is q low = held_count-found m.entries q None (range.5 is q ((let less : nat_cmp n q ≡ Less = grind (arith, nat_tests) in less), tt))

-- a count that is written as it was, and then taken out
pub sets-out : (old same new : List (ℕ × ℕ)) (n c : ℕ) → Sets old same n (Some c) → Sets same new n None → Sets old new n None
sets-out old same new n c first then q = then q ∙ (either (is_at (nat_cmp n) q) (first q)) where
  either : (b : Bool) → count_in same q ≡ cond b (Some c) (count_in old q) → cond b None (count_in same q) ≡ cond b None (count_in old q)
  either true e = refl
  either false e = e
