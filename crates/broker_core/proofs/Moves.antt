-- What each call makes of the asks without a reply: the taken ones, and after them the untaken ones.
use Rattle.std.proofs.Common.{◌≡◌, ℕ, ◌+◌, ◌<◌, ◌≤◌, Bool, true, false, List, [], ◌∷◌, ◌++◌, length, take, drop, map, Option, Some, None, is_some, refl, sym, ap, ◌∙◌, subst, arith}
use Rattle.std.specs.Prelude.{All}
use Rattle.std.specs.Option.{option_map, option_map_or}
use Rattle.std.proofs.lemmas.Bool.Decides.{nat_tests}
use Rattle.std.proofs.lemmas.List.{append_assoc, length-append, length_push, map-append}
use Rattle.std.proofs.lemmas.List.Elements.{All-cons, All-append, All-map, All-weaker}
use Rattle.eden_base.specs.First.{first_where, without_where}
use Rattle.eden_base.proofs.MemberLemmas.{length-without_where}
use Rattle.fuse_wire.specs.declared.request.Ask.{Ask}
use Rattle.fuse_wire.specs.declared.item.Item.{Item}
use Rattle.fuse_wire.specs.declared.reply.Reply.{Reply}
use Rattle.broker_core.specs.Traffic.{TrafficState, asked_of, is_of}
use Rattle.broker_core.specs.Rising.{IsRising}
use Rattle.broker_core.specs.Roomy.{taken_among, is_not_before}
use Rattle.fuse_wire.specs.declared.form.Form.{Form}
use Rattle.broker_core.proofs.AskedLaws.{Asked, Below, Above, taken-before, none-above, none-below, above-first, rising-behind, below-later, found-once, found-before, out-before}

-- an ask that is not taken is none of the taken ones
pub none-taken : (ts : List Asked) (asks : List Ask) (k : ℕ) → IsRising (ts ++ map asked_of asks) → is_not_before asks k ≡ true → first_where (is_of k) ts ≡ None
none-taken ts [] k rising later = absurd (let none : ⊥ = cc in none)
none-taken ts (a ∷ asks) k rising later =
    none-below k ts (All-weaker (Below a.unique) (Below k) (λ e l. let high : a.unique ≤ k = grind (arith, nat_tests) in omega arith) ts (below-later ts (map asked_of asks) (asked_of a) rising))

-- an ask from before the untaken ones is none of them
pub none-untaken : (ts : List Asked) (asks : List Ask) (k : ℕ) → IsRising (ts ++ map asked_of asks) → is_not_before asks k ≡ false → first_where (is_of k) (map asked_of asks) ≡ None
none-untaken ts [] k rising before = refl
none-untaken ts (a ∷ asks) k rising before =
    let low : k < a.unique = grind (arith, nat_tests) in
    none-above k (map asked_of (a ∷ asks)) (All-cons (Above k) (asked_of a) (map asked_of asks) low (All-weaker (Above a.unique) (Above k) (λ e l. omega arith) (map asked_of asks) (above-first (asked_of a) (map asked_of asks) (rising-behind ts (map asked_of (a ∷ asks)) rising))))

-- a look-up among all finds it among the taken ones
pub looked-up-before : (es ts : List Asked) (asks : List Ask) (k : ℕ) → es ≡ ts ++ map asked_of asks → IsRising es → is_not_before asks k ≡ false →
    option_map (λ e. e.1) (first_where (is_of k) es) ≡ option_map (λ e. e.1) (first_where (is_of k) ts)
looked-up-before es ts asks k is rising before =
    let rise : IsRising (ts ++ map asked_of asks) = subst (λ xs. IsRising xs) is rising in
    ap (λ xs. option_map (λ (e : Asked). e.1) (first_where (is_of k) xs)) is ∙ ap (option_map (λ (e : Asked). e.1)) (found-before k ts (map asked_of asks) (none-untaken ts asks k rise before))

-- the asks without a reply after a reply to a taken ask
pub record IsAnswered (es later ts : List Asked) (asks : List Ask) (k : ℕ) : Type 0 where
  pub parts : later ≡ without_where (is_of k) ts ++ map asked_of asks
  pub fewer : length later + 1 ≡ length es

pub answered : (es later ts : List Asked) (asks : List Ask) (k : ℕ) → es ≡ ts ++ map asked_of asks → IsRising es → is_some (first_where (is_of k) ts) ≡ true → later ≡ without_where (is_of k) es → IsAnswered es later ts asks k
answered es later ts asks k is rising found out = record { parts = parts; fewer = fewer (first_where (is_of k) ts) refl found } where
  parts : later ≡ without_where (is_of k) ts ++ map asked_of asks
  parts =
      let none = found-once k ts (map asked_of asks) (subst (λ xs. IsRising xs) is rising) found in
      out ∙ ap (without_where (is_of k)) is ∙ out-before k ts (map asked_of asks) none

  fewer : (o : Option Asked) → first_where (is_of k) ts ≡ o → is_some o ≡ true → length later + 1 ≡ length es
  fewer None e f = absurd (let none : ⊥ = cc in none)
  fewer (Some x) e f = omega (arith, ap length parts, ap length is, length-append (without_where (is_of k) ts) (map asked_of asks), length-append ts (map asked_of asks), length-without_where ts (is_of k) x e)

-- the asks without a reply are below a unique that the taken and the untaken ones are below
pub all-below : (es ts : List Asked) (asks : List Ask) (k : ℕ) → es ≡ ts ++ map asked_of asks → All (Below k) ts → All (λ a. a.unique < k) asks → All (Below k) es
all-below es ts asks k is low low-asks = subst (λ xs. All (Below k) xs) (sym is) (All-append (Below k) ts (map asked_of asks) low (All-map (Below k) asked_of asks low-asks))

-- the asks without a reply after an ask was issued
pub record IsAsked (es later ts : List Asked) (asks : List Ask) : Type 0 where
  pub parts : later ≡ ts ++ map asked_of asks
  pub more : length later ≡ length es + 1

pub asked-last : (es later ts : List Asked) (asks later-asks : List Ask) (a : Ask) → es ≡ ts ++ map asked_of asks → later-asks ≡ asks ++ a ∷ [] →
    later ≡ es ++ asked_of a ∷ [] → IsAsked es later ts later-asks
asked-last es later ts asks later-asks a is pushed put = record {
  parts = rw pushed (put ∙ ap (λ xs. xs ++ asked_of a ∷ []) is ∙ append_assoc ts (map asked_of asks) (asked_of a ∷ []) ∙ ap (λ xs. ts ++ xs) (sym (map-append asked_of asks (a ∷ []))));
  more = ap length put ∙ length_push es (asked_of a);
}

-- the asks without a reply after a take
pub taken-first : (es ts : List Asked) (asks : List Ask) → es ≡ ts ++ map asked_of asks → es ≡ ts ++ map asked_of (take 1 asks) ++ map asked_of (drop 1 asks)
taken-first es ts [] is = is ∙ sym (append_assoc ts [] [])
taken-first es ts (a ∷ asks) is = is ∙ sym (append_assoc ts (asked_of a ∷ []) (map asked_of asks))

-- a reply that is asked for has an ask
pub has-ask : (f : Form → Bool) (o : Option Asked) → option_map_or f (option_map (λ e. e.1) o) false ≡ true → is_some o ≡ true
has-ask f None h = absurd (let none : ⊥ = cc in none)
has-ask f (Some x) h = refl

-- the taken ones are what stands before the untaken ones
pub parted : (es ts : List Asked) (asks : List Ask) → es ≡ ts ++ map asked_of asks → es ≡ taken_among es asks ++ map asked_of asks
parted es ts asks is = is ∙ ap (λ xs. xs ++ map asked_of asks) (sym (taken-before es ts asks is))

-- states whose asks and replies are the same
pub one-state : (untaken untaken' : List Ask) (taken taken' : List Asked) (items : List Item) (posted posted' : List Reply) → untaken ≡ untaken' → taken ≡ taken' → posted ≡ posted' →
    ◌≡◌ {A = TrafficState} (record { untaken = untaken; taken = taken; items = items; posted = posted }) (record { untaken = untaken'; taken = taken'; items = items; posted = posted' })
one-state untaken untaken' taken taken' items posted posted' e f g = rw (e, f, g) refl
