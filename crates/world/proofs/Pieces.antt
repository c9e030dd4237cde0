-- The numbered parts of a text: each is a piece of it, and what was read of them is its beginning.
use Rattle.std.proofs.Common.{◌≡◌, ℕ, suc, zero, ◌+◌, ◌-◌, ◌<◌, ◌≤◌, Bool, true, false, ◌&&◌, List, [], ◌∷◌, ◌++◌, length, Some, None, refl, sym, ap, ◌∙◌, subst, append_assoc, length-append, arith}
use Rattle.std.specs.Prelude.{◌==◌, cond, count_by, filter, position, slice_get, take, drop, nat_lt, not}
use Rattle.std.specs.List.{AllByRecursion, concat, position_or_len}
use Rattle.std.proofs.lemmas.Bool.Decides.{nat_tests}
use Rattle.std.proofs.lemmas.List.{append-nil}
use Rattle.eden_base.proofs.NumberTests.{eq-true, eq-false}
use Rattle.map_image.specs.Parts.{AreParts}
use Rattle.takeover_core.specs.declared.message.Message.{Message}
use Rattle.takeover_core.specs.declared.message.Message.TheVariants.{Data, Part}
use Rattle.daemon.specs.Talking.{numbered, IsSentBy}
use Rattle.world.specs.Agreement.{begins_data_of}
use Rattle.world.specs.State.{is_data_of}
use Rattle.world.specs.Handing.{IsPast, data_of}
use Rattle.world.proofs.Bags.{mark, count-cons}

-- ---- lists

-- what holds of all members that pass a test holds of each of them
pub filter-at : {X : Type 0} (P : X → Type 0) (p : X → Bool) (xs : List X) (i : ℕ) (x : X) → AllByRecursion P (filter p xs) → slice_get xs i ≡ Some x → p x ≡ true → P x
filter-at {X} P p [] i x all at e = absurd (let none : ⊥ = cc in none)
filter-at {X} P p (y ∷ xs) zero x all at e =
    let same : y ≡ x = cc in
    let passes : p y ≡ true = ap p same ∙ e in
    let kept : AllByRecursion P (y ∷ filter p xs) = subst (λ (b : Bool). AllByRecursion P (cond b (y ∷ filter p xs) (filter p xs))) passes all in
    subst P same kept.0
filter-at {X} P p (y ∷ xs) (suc i) x all at e = filter-at P p xs i x (rest (p y) all) at e where
  rest : (b : Bool) → AllByRecursion P (cond b (y ∷ filter p xs) (filter p xs)) → AllByRecursion P (filter p xs)
  rest true (first, others) = others
  rest false others = others

pub filter-some : {X : Type 0} (p : X → Bool) (xs : List X) (i : ℕ) (x : X) → slice_get xs i ≡ Some x → p x ≡ true → filter p xs ≡ [] → ⊥
filter-some {X} p xs i x at e none = filter-at (λ (y : X). ⊥) p xs i x (subst (λ (ys : List X). AllByRecursion (λ (y : X). ⊥) ys) (sym none) tt) at e

pub take-one-more : {X : Type 0} (xs : List X) (i : ℕ) (x : X) → slice_get xs i ≡ Some x → take (suc i) xs ≡ take i xs ++ x ∷ []
take-one-more {X} [] i x at = absurd (let none : ⊥ = cc in none)
take-one-more {X} (y ∷ xs) zero x at = let same : y ≡ x = cc in ap (λ (z : X). z ∷ []) same
take-one-more {X} (y ∷ xs) (suc i) x at = ap (λ (zs : List X). y ∷ zs) (take-one-more xs i x at)

pub take-whole : {X : Type 0} (xs : List X) (i : ℕ) → length xs ≤ i → take i xs ≡ xs
take-whole {X} [] zero low = refl
take-whole {X} [] (suc i) low = refl
take-whole {X} (y ∷ xs) zero low = absurd (omega arith)
take-whole {X} (y ∷ xs) (suc i) low = ap (λ (zs : List X). y ∷ zs) (take-whole xs i (omega arith))

pub take-and-drop : (xs : List (List ℕ)) (i : ℕ) → concat xs ≡ concat (take i xs) ++ concat (drop i xs)
take-and-drop [] zero = refl
take-and-drop [] (suc i) = refl
take-and-drop (x ∷ xs) zero = refl
take-and-drop (x ∷ xs) (suc i) = ap (λ (l : List ℕ). x ++ l) (take-and-drop xs i) ∙ sym (append_assoc x (concat (take i xs)) (concat (drop i xs)))

concat-more : (xs : List (List ℕ)) (x : List ℕ) → concat (xs ++ x ∷ []) ≡ concat xs ++ x
concat-more [] x = append-nil x
concat-more (y ∷ xs) x = ap (λ (l : List ℕ). y ++ l) (concat-more xs x) ∙ sym (append_assoc y (concat xs) x)

-- ---- pieces of a text

-- the bytes are part `i` of the `n` parts of this text
pub record IsPartOf (text : List ℕ) (i n : ℕ) (bytes : List ℕ) : Type 0 where
  pub parts : List (List ℕ)
  pub are : AreParts text parts
  pub count : n ≡ length parts
  pub at : slice_get parts (i - 1) ≡ Some bytes
  pub least : 1 ≤ i
  pub most : i ≤ n

-- a message has this text, or a part of it
abbrev pub IsPieceOf : List ℕ → Message → Type 0
IsPieceOf text (Data s g bytes) = bytes ≡ text
IsPieceOf text (Part s g i n bytes) = IsPartOf text i n bytes
IsPieceOf text m = Unit {0}

behind : {X : Type 0} (before rest : List X) (x : X) → slice_get (before ++ x ∷ rest) (length before) ≡ Some x
behind {X} [] rest x = refl
behind {X} (y ∷ before) rest x = behind before rest x

numbered-pieces : (s g : ℕ) (text : List ℕ) (all before parts : List (List ℕ)) → all ≡ before ++ parts → AreParts text all → AllByRecursion (IsPieceOf text) (numbered s g (length all) (length before + 1) parts)
numbered-pieces s g text all before [] is are = tt
numbered-pieces s g text all before (part ∷ parts) is are = (
  record {
    parts = all;
    are = are;
    count = refl;
    at =
        let back : length before + 1 - 1 ≡ length before = omega arith in
        subst (λ (k : ℕ). slice_get all k ≡ Some part) (sym back) (subst (λ (xs : List (List ℕ)). slice_get xs (length before) ≡ Some part) (sym is) (behind before parts part));
    least = omega arith;
    most = (let l : length all ≡ length before + length (part ∷ parts) = ap (λ (xs : List (List ℕ)). length xs) is ∙ length-append before (part ∷ parts) in omega (arith, l));
  },
  subst (λ (k : ℕ). AllByRecursion (IsPieceOf text) (numbered s g (length all) k parts)) (next before) (numbered-pieces s g text all (before ++ part ∷ []) parts (is ∙ sym (append-one before parts)) are),
) where
  next : (before : List (List ℕ)) → length (before ++ part ∷ []) + 1 ≡ length before + 1 + 1
  next before = let l : length (before ++ part ∷ []) ≡ length before + 1 = length-append before (part ∷ []) in omega (arith, l)

  append-one : (before parts : List (List ℕ)) → (before ++ part ∷ []) ++ parts ≡ before ++ part ∷ parts
  append-one before parts = append_assoc before (part ∷ []) parts

-- each message that hands a text over has a piece of it
pub handed-pieces : (whole : Bool) (s g : ℕ) (text : List ℕ) (said : List Message) → IsSentBy whole s g text said → AllByRecursion (IsPieceOf text) said
handed-pieces true s g text said is = subst (λ (ms : List Message). AllByRecursion (IsPieceOf text) ms) (sym is) (refl, tt)
handed-pieces false s g text said (parts, are, is) = subst (λ (ms : List Message). AllByRecursion (IsPieceOf text) ms) (sym is) (numbered-pieces s g text parts [] parts refl are)

-- ---- what is said of a text

numbered-data : (s g n i : ℕ) (parts : List (List ℕ)) → data_of g (numbered s g n i parts) ≡ numbered s g n i parts
numbered-data s g n i [] = refl
numbered-data s g n i (part ∷ parts) =
    let rest = numbered s g n (i + 1) parts in
    ap (λ (b : Bool). cond b (Part s g i n part ∷ data_of g rest) (data_of g rest)) (eq-true g g refl) ∙ ap (λ (ms : List Message). Part s g i n part ∷ ms) (numbered-data s g n (i + 1) parts)

-- each message that hands a text over at a generation is data of that generation
pub handed-data : (whole : Bool) (s g : ℕ) (text : List ℕ) (said : List Message) → IsSentBy whole s g text said → data_of g said ≡ said
handed-data true s g text said is = subst (λ (ms : List Message). data_of g ms ≡ ms) (sym is) (ap (λ (b : Bool). cond b (Data s g text ∷ []) []) (eq-true g g refl))
handed-data false s g text said (parts, are, is) = subst (λ (ms : List Message). data_of g ms ≡ ms) (sym is) (numbered-data s g (length parts) 1 parts)

numbered-other : (s g h n i : ℕ) (parts : List (List ℕ)) → (g == h) ≡ false → data_of h (numbered s g n i parts) ≡ []
numbered-other s g h n i [] e = refl
numbered-other s g h n i (part ∷ parts) e =
    let rest = numbered s g n (i + 1) parts in
    ap (λ (b : Bool). cond b (Part s g i n part ∷ data_of h rest) (data_of h rest)) e ∙ numbered-other s g h n (i + 1) parts e

-- no message that hands a text over at a generation is data of another generation
pub handed-other : (whole : Bool) (s g h : ℕ) (text : List ℕ) (said : List Message) → (g == h) ≡ false → IsSentBy whole s g text said → data_of h said ≡ []
handed-other true s g h text said e is = ap (data_of h) is ∙ ap (λ (b : Bool). cond b (Data s g text ∷ []) []) e
handed-other false s g h text said e (parts, are, is) = ap (data_of h) is ∙ numbered-other s g h (length parts) 1 parts e

numbered-past : (last s g n i : ℕ) (parts : List (List ℕ)) → g ≤ last → AllByRecursion (IsPast last) (numbered s g n i parts)
numbered-past last s g n i [] low = tt
numbered-past last s g n i (part ∷ parts) low = (low, numbered-past last s g n (i + 1) parts low)

pub handed-past : (whole : Bool) (last s g : ℕ) (text : List ℕ) (said : List Message) → g ≤ last → IsSentBy whole s g text said → AllByRecursion (IsPast last) said
handed-past true last s g text said low is = subst (λ (ms : List Message). AllByRecursion (IsPast last) ms) (sym is) (low, tt)
handed-past false last s g text said low (parts, are, is) = subst (λ (ms : List Message). AllByRecursion (IsPast last) ms) (sym is) (numbered-past last s g (length parts) 1 parts low)

-- ---- what was read

-- what was read of the first parts, with the next part, is what is read of one part more
pub reads-behind : (parts : List (List ℕ)) (read bytes : List ℕ) (i : ℕ) → 1 ≤ i → slice_get parts (i - 1) ≡ Some bytes → read ≡ concat (take (i - 1) parts) → read ++ bytes ≡ concat (take i parts)
reads-behind parts read bytes i least at is =
    let more : take (suc (i - 1)) parts ≡ take (i - 1) parts ++ bytes ∷ [] = take-one-more parts (i - 1) bytes at in
    let here : suc (i - 1) ≡ i = omega (arith, least) in
    ap (λ (r : List ℕ). r ++ bytes) is ∙ sym (concat-more (take (i - 1) parts) bytes) ∙ ap concat (sym more) ∙ ap (λ (k : ℕ). concat (take k parts)) here

-- ---- where it begins

-- no part after the first begins the data of a generation
numbered-behind : (h s g n i : ℕ) (parts : List (List ℕ)) → 2 ≤ i → count_by (begins_data_of h) (numbered s g n i parts) ≡ 0
numbered-behind h s g n i [] later = refl
numbered-behind h s g n i (part ∷ parts) later =
    let rest = numbered s g n (i + 1) parts in
    let d : count_by (begins_data_of h) (Part s g i n part ∷ rest) ≡ mark (begins_data_of h (Part s g i n part)) + count_by (begins_data_of h) rest = count-cons (begins_data_of h) (Part s g i n part) rest in
    let not_first : (i == 1) ≡ false = eq-false i 1 (λ e. omega arith) in
    let none : mark ((g == h) && (i == 1)) ≡ 0 = in_ (g == h) (i == 1) not_first in
    let others : count_by (begins_data_of h) rest ≡ 0 = numbered-behind h s g n (i + 1) parts (omega arith) in
    omega arith
  where
    in_ : (a b : Bool) → b ≡ false → mark (a && b) ≡ 0
    in_ true b e = ap mark e
    in_ false b e = refl

mark-few : (b : Bool) → mark b ≤ 1
mark-few true = omega arith
mark-few false = omega arith

-- of the messages that hand a text over, at most one begins data
pub handed-begins : (whole : Bool) (h s g : ℕ) (text : List ℕ) (said : List Message) → IsSentBy whole s g text said → count_by (begins_data_of h) said ≤ 1
handed-begins true h s g text said is = subst (λ (ms : List Message). count_by (begins_data_of h) ms ≤ 1) (sym is) few where
  few : count_by (begins_data_of h) (Data s g text ∷ []) ≤ 1
  few =
      let c : count_by (begins_data_of h) (Data s g text ∷ []) ≡ mark (begins_data_of h (Data s g text)) + count_by (begins_data_of h) [] = count-cons (begins_data_of h) (Data s g text) [] in
      let empty : count_by (begins_data_of h) [] ≡ 0 = refl in
      let one : mark (g == h) ≤ 1 = mark-few (g == h) in omega arith
handed-begins false h s g text said (parts, are, is) = subst (λ (ms : List Message). count_by (begins_data_of h) ms ≤ 1) (sym is) (few parts (length parts)) where
  few : (parts : List (List ℕ)) (n : ℕ) → count_by (begins_data_of h) (numbered s g n 1 parts) ≤ 1
  few [] n = let empty : count_by (begins_data_of h) [] ≡ 0 = refl in omega arith
  few (part ∷ parts) n =
      let rest = numbered s g n 2 parts in
      let c : count_by (begins_data_of h) (Part s g 1 n part ∷ rest) ≡ mark (begins_data_of h (Part s g 1 n part)) + count_by (begins_data_of h) rest = count-cons (begins_data_of h) (Part s g 1 n part) rest in
      let others : count_by (begins_data_of h) rest ≡ 0 = numbered-behind h s g n 2 parts (omega arith) in
      let one : mark ((g == h) && true) ≤ 1 = mark-few ((g == h) && true) in omega arith

-- only data of a generation begins data of it
pub begins-of-data : (g : ℕ) (ms : List Message) → count_by (begins_data_of g) ms ≡ count_by (begins_data_of g) (data_of g ms)
begins-of-data g [] = refl
begins-of-data g (m ∷ ms) = in_ (is_data_of g m) refl (begins-of-data g ms) where
  all : count_by (begins_data_of g) (m ∷ ms) ≡ mark (begins_data_of g m) + count_by (begins_data_of g) ms
  all = count-cons (begins_data_of g) m ms

  none : (m : Message) → is_data_of g m ≡ false → begins_data_of g m ≡ false
  none (Data s h bytes) e = e
  none (Part s h i n bytes) e = ap (λ (b : Bool). b && (i == 1)) e
  none m e = refl

  in_ : (b : Bool) → is_data_of g m ≡ b → count_by (begins_data_of g) ms ≡ count_by (begins_data_of g) (data_of g ms) → count_by (begins_data_of g) (m ∷ ms) ≡ count_by (begins_data_of g) (cond (is_data_of g m) (m ∷ data_of g ms) (data_of g ms))
  in_ true e rest =
      let c : count_by (begins_data_of g) (m ∷ data_of g ms) ≡ mark (begins_data_of g m) + count_by (begins_data_of g) (data_of g ms) = count-cons (begins_data_of g) m (data_of g ms) in
      let whole : count_by (begins_data_of g) (m ∷ ms) ≡ mark (begins_data_of g m) + count_by (begins_data_of g) ms = all in
      let same : count_by (begins_data_of g) (m ∷ ms) ≡ count_by (begins_data_of g) (m ∷ data_of g ms) = omega arith in
      same ∙ ap (λ (b : Bool). count_by (begins_data_of g) (cond b (m ∷ data_of g ms) (data_of g ms))) (sym e)
  in_ false e rest =
      let zero_mark : mark (begins_data_of g m) ≡ 0 = ap mark (none m e) in
      let whole : count_by (begins_data_of g) (m ∷ ms) ≡ mark (begins_data_of g m) + count_by (begins_data_of g) ms = all in
      let same : count_by (begins_data_of g) (m ∷ ms) ≡ count_by (begins_data_of g) (data_of g ms) = omega arith in
      same ∙ ap (λ (b : Bool). count_by (begins_data_of g) (cond b (m ∷ data_of g ms) (data_of g ms))) (sym e)

-- ---- where it stands

-- if some member passes a test, a first one does
first-low : {X : Type 0} (p : X → Bool) (xs : List X) → (filter p xs ≡ [] → ⊥) → position_or_len p xs < length xs
first-low {X} p [] some = absurd (some refl)
first-low {X} p (x ∷ xs) some = in_ (p x) refl (first-low p xs) where
  in_ : (b : Bool) → p x ≡ b → ((filter p xs ≡ [] → ⊥) → position_or_len p xs < length xs) → position_or_len p (x ∷ xs) < length (x ∷ xs)
  in_ true e again = let z : position_or_len p (x ∷ xs) ≡ 0 = ap (λ (c : Bool). cond (not c) (1 + position_or_len p xs) 0) e in omega arith
  in_ false e again =
      let z : position_or_len p (x ∷ xs) ≡ 1 + position_or_len p xs = ap (λ (c : Bool). cond (not c) (1 + position_or_len p xs) 0) e in
      let low : position_or_len p xs < length xs = again (λ none. some (ap (λ (c : Bool). cond c (x ∷ filter p xs) (filter p xs)) e ∙ none)) in omega arith

-- if no member passes a test, there is no first one that does
first-none : {X : Type 0} (p : X → Bool) (xs : List X) → filter p xs ≡ [] → position_or_len p xs ≡ length xs
first-none {X} p [] none = refl
first-none {X} p (x ∷ xs) none = in_ (p x) refl (first-none p xs) where
  in_ : (b : Bool) → p x ≡ b → (filter p xs ≡ [] → position_or_len p xs ≡ length xs) → position_or_len p (x ∷ xs) ≡ length (x ∷ xs)
  in_ true e again = absurd (let two : x ∷ filter p xs ≡ [] = sym (ap (λ (c : Bool). cond c (x ∷ filter p xs) (filter p xs)) e) ∙ none in let no : ⊥ = cc in no)
  in_ false e again =
      let z : position_or_len p (x ∷ xs) ≡ 1 + position_or_len p xs = ap (λ (c : Bool). cond (not c) (1 + position_or_len p xs) 0) e in
      let all : position_or_len p xs ≡ length xs = again (sym (ap (λ (c : Bool). cond c (x ∷ filter p xs) (filter p xs)) e) ∙ none) in
      let both : position_or_len p (x ∷ xs) ≡ length (x ∷ xs) = omega arith in both

pub some-first : {X : Type 0} (p : X → Bool) (xs : List X) → (filter p xs ≡ [] → ⊥) → position p xs ≡ Some (position_or_len p xs)
some-first {X} p xs some =
    let low : position_or_len p xs < length xs = first-low p xs some in
    let is : nat_lt (position_or_len p xs) (length xs) ≡ true = grind (arith, nat_tests) in
    ap (λ (b : Bool). cond b (Some (position_or_len p xs)) None) is

pub first-some : {X : Type 0} (p : X → Bool) (xs : List X) (k : ℕ) → position p xs ≡ Some k → filter p xs ≡ [] → ⊥
first-some {X} p xs k at none =
    let all : position_or_len p xs ≡ length xs = first-none p xs none in
    let is : nat_lt (position_or_len p xs) (length xs) ≡ false = grind (arith, nat_tests) in
    let two : None ≡ Some k = sym (ap (λ (b : Bool). cond b (Some (position_or_len p xs)) None) is) ∙ at in
    let no : ⊥ = cc in no
