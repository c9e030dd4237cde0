-- The asks without a reply, in a list that rises by unique: the taken ones, and after them the untaken ones.
use Rattle.std.proofs.Common.{◌≡◌, ℕ, ◌-◌, ◌<◌, Bool, true, false, cond, List, [], ◌∷◌, ◌++◌, length, take, map, Option, Some, None, is_some, if◌then◌else◌, refl, ap, ◌∙◌, arith}
use Rattle.std.specs.Prelude.{◌==◌, ◌||◌, All}
use Rattle.std.specs.List.{AllByRecursion, list_any}
use Rattle.std.specs.Option.{option_map}
use Rattle.std.specs.Map.{keys_of}
use Rattle.std.specs.BTreeMap.{is_at}
use Rattle.std.specs.Ordering.{nat_cmp}
use Rattle.std.specs.declared.cmp.Ordering.TheVariants.{Less}
use Rattle.std.proofs.lemmas.Bool.Decides.{nat_tests}
use Rattle.std.proofs.lemmas.List.{take_all, take-append-le, length-append, length-map}
use Rattle.std.proofs.lemmas.List.Folds.{list_any-append}
use Rattle.std.proofs.lemmas.List.Elements.{All-nil, All-cons, All-head, All-tail, All-weaker}
use Rattle.std.proofs.lemmas.Map.Keys.{sorted_head, sorted_tail}
use Rattle.eden_base.specs.First.{first_where, without_where}
use Rattle.eden_base.proofs.FirstLemmas.{first_where-append, without_where-none}
use Rattle.fuse_wire.specs.declared.request.Ask.{Ask}
use Rattle.broker_core.specs.Traffic.{asked_of, is_of, is_ask_of}
use Rattle.broker_core.specs.Rising.{IsRising}
use Rattle.broker_core.specs.Roomy.{taken_among}
use Rattle.fuse_wire.specs.declared.form.Form.{Form}

abbrev pub Asked : Type 0
Asked = ℕ × Form

-- all are below a unique, or above it
abbrev pub Below : ℕ → Asked → Type 0
Below k e = e.0 < k

abbrev pub Above : ℕ → Asked → Type 0
Above k e = k < e.0

-- what stands before the untaken asks is the taken ones
pub taken-before : (es ts : List Asked) (asks : List Ask) → es ≡ ts ++ map asked_of asks → taken_among es asks ≡ ts
taken-before es ts asks is = rw is (
    let len : length (ts ++ map asked_of asks) - length asks ≡ length ts = omega (arith, length-append ts (map asked_of asks), length-map asks asked_of) in
    ap (λ n. take n (ts ++ map asked_of asks)) len ∙ take-append-le (length ts) ts (map asked_of asks) (omega arith) ∙ take_all (length ts) ts (omega arith))

-- the order's test is that of numbers
pub one_test : (k n : ℕ) → is_at (nat_cmp k) n ≡ (k == n)
one_test k n = grind (arith, nat_tests)

-- no ask has a unique that all are above, or below
pub none-above : (k : ℕ) (es : List Asked) → All (Above k) es → first_where (is_of k) es ≡ None
none-above k [] all = refl
none-above k (e ∷ es) all = let other : (k == e.0) ≡ false = (let high : k < e.0 = All-head (Above k) e es all in grind (arith, nat_tests)) in rw other (none-above k es (All-tail (Above k) e es all))

pub none-below : (k : ℕ) (es : List Asked) → All (Below k) es → first_where (is_of k) es ≡ None
none-below k [] all = refl
none-below k (e ∷ es) all = let other : (k == e.0) ≡ false = (let low : e.0 < k = All-head (Below k) e es all in grind (arith, nat_tests)) in rw other (none-below k es (All-tail (Below k) e es all))

lesser : (n m : ℕ) → nat_cmp n m ≡ Less → n < m
lesser n m is = grind (arith, nat_tests)

above : (n : ℕ) (es : List Asked) → AllByRecursion (λ m. nat_cmp n m ≡ Less) (keys_of es) → All (Above n) es
above n [] all = All-nil (Above n)
above n (e ∷ es) all = All-cons (Above n) e es (lesser n e.0 all.0) (above n es all.1)

-- in a list that rises the others are above the first
pub above-first : (e : Asked) (es : List Asked) → IsRising (e ∷ es) → All (Above e.0) es
above-first e es rising = above e.0 es (sorted_head nat_cmp e.0 (keys_of es) rising)

behind : (P : Asked → Type 0) (ts us : List Asked) → All P (ts ++ us) → All P us
behind P [] us all = all
behind P (t ∷ ts) us all = behind P ts us (All-tail P t (ts ++ us) all)

pub rising-behind : (ts us : List Asked) → IsRising (ts ++ us) → IsRising us
rising-behind [] us rising = rising
rising-behind (t ∷ ts) us rising = rising-behind ts us (sorted_tail nat_cmp t.0 (keys_of (ts ++ us)) rising)

-- those before another are below it
pub below-later : (ts us : List Asked) (u : Asked) → IsRising (ts ++ u ∷ us) → All (Below u.0) ts
below-later [] us u rising = All-nil (Below u.0)
below-later (t ∷ ts) us u rising =
    All-cons (Below u.0) t ts (All-head (Above t.0) u us (behind (Above t.0) ts (u ∷ us) (above-first t (ts ++ u ∷ us) rising))) (below-later ts us u (sorted_tail nat_cmp t.0 (keys_of (ts ++ u ∷ us)) rising))

-- a unique that is found in the first part is not found in the second
pub found-once : (k : ℕ) (ts us : List Asked) → IsRising (ts ++ us) → is_some (first_where (is_of k) ts) ≡ true → first_where (is_of k) us ≡ None
found-once k [] us rising found = absurd (let none : ⊥ = cc in none)
found-once k (t ∷ ts) us rising found = here (k == t.0) refl (found-once k ts us (sorted_tail nat_cmp t.0 (keys_of (ts ++ us)) rising)) found where
  here : (b : Bool) → (k == t.0) ≡ b → (is_some (first_where (is_of k) ts) ≡ true → first_where (is_of k) us ≡ None) →
      is_some (cond b (Some t) (first_where (is_of k) ts)) ≡ true → first_where (is_of k) us ≡ None
  here true is rest f = none-above k us (All-weaker (Above t.0) (Above k) (λ e l. let same : k ≡ t.0 = grind (arith, nat_tests) in omega arith) us (behind (Above t.0) ts us (above-first t (ts ++ us) rising)))
  here false is rest f = rest f

-- a unique that is not found in the second part is looked for in the first
pub found-before : (k : ℕ) (ts us : List Asked) → first_where (is_of k) us ≡ None → first_where (is_of k) (ts ++ us) ≡ first_where (is_of k) ts
found-before k ts us none = first_where-append (is_of k) ts us ∙ rw none (here (first_where (is_of k) ts)) where
  here : (o : Option Asked) → (if is_some o then o else None) ≡ o
  here None = refl
  here (Some e) = refl

pub out-before : (k : ℕ) (ts us : List Asked) → first_where (is_of k) us ≡ None → without_where (is_of k) (ts ++ us) ≡ without_where (is_of k) ts ++ us
out-before k [] us none = without_where-none (is_of k) us none
out-before k (t ∷ ts) us none = here (k == t.0) (out-before k ts us none) where
  here : (b : Bool) → without_where (is_of k) (ts ++ us) ≡ without_where (is_of k) ts ++ us → cond b (ts ++ us) (t ∷ without_where (is_of k) (ts ++ us)) ≡ cond b ts (t ∷ without_where (is_of k) ts) ++ us
  here true rest = refl
  here false rest = ap (λ xs. t ∷ xs) rest

-- a form is found just where an ask has the unique
found-any : (k : ℕ) (es : List Asked) → is_some (option_map (λ (e : Asked). e.1) (first_where (is_of k) es)) ≡ list_any (is_of k) es
found-any k [] = refl
found-any k (e ∷ es) = here (k == e.0) (found-any k es) where
  here : (b : Bool) → is_some (option_map (λ (e : Asked). e.1) (first_where (is_of k) es)) ≡ list_any (is_of k) es →
      is_some (option_map (λ (e : Asked). e.1) (cond b (Some e) (first_where (is_of k) es))) ≡ (b || list_any (is_of k) es)
  here true rest = refl
  here false rest = rest

-- an untaken ask has the unique just where what is kept of one has it
any-untaken : (k : ℕ) (asks : List Ask) → list_any (is_of k) (map asked_of asks) ≡ list_any (is_ask_of k) asks
any-untaken k [] = refl
any-untaken k (ask ∷ asks) = ap (λ b. (k == ask.unique) || b) (any-untaken k asks)

-- an ask without a reply is a taken one, or an untaken one
pub found-either : (k : ℕ) (es ts : List Asked) (asks : List Ask) → es ≡ ts ++ map asked_of asks →
    is_some (option_map (λ (e : Asked). e.1) (first_where (is_of k) es)) ≡ (list_any (is_of k) ts || list_any (is_ask_of k) asks)
found-either k es ts asks is =
    found-any k es ∙ ap (list_any (is_of k)) is ∙ list_any-append (is_of k) ts (map asked_of asks) ∙ ap (λ b. list_any (is_of k) ts || b) (any-untaken k asks)
