-- Members of a list that were put one after the other, and how long they are.
use Rattle.std.proofs.Common.{All, ◌≡◌, ℕ, ◌+◌, ◌<◌, ◌≤◌, List, [], ◌∷◌, ◌++◌, length, take, drop, get_or, sym, ap, subst, ◌∙◌, length-append, arith}
use Rattle.std.proofs.lemmas.Grind.{common_steps}
use Rattle.std.proofs.lemmas.List.{append-nil, take_all, take-append-drop}
use Rattle.std.proofs.lemmas.List.Concat.{flat_map-cons, flat_map-append}
use Rattle.std.proofs.lemmas.List.Elements.{All-push}
use Rattle.std.specs.Global.{Vec}
use Rattle.std.specs.List.{flat_map}
use Rattle.byte_codec.specs.Writing.{Puts}
use Rattle.byte_codec.proofs.WriteLemmas.{none_put as nothing_put, both_put}

-- the text of one member more
pub one_more : {X : Type 0} (text : X → List ℕ) (xs : List X) (i : ℕ) (d : X) → i < length xs → flat_map text (take (i + 1) xs) ≡ flat_map text (take i xs) ++ text (get_or xs i d)
one_more text xs i d lt =
    let x = get_or xs i d in
    let more : take (i + 1) xs ≡ take i xs ++ x ∷ [] = grind (arith, common_steps) in
    ap (flat_map text) more ∙ flat_map-append text (take i xs) (x ∷ []) ∙ ap (λ (l : List ℕ). flat_map text (take i xs) ++ l) (flat_map-cons text x [] ∙ append-nil (text x))

-- the first members are not longer than all
pub front_is_short : {X : Type 0} (text : X → List ℕ) (xs : List X) (i : ℕ) → length (flat_map text (take i xs)) ≤ length (flat_map text xs)
front_is_short text xs i =
    let parts : flat_map text xs ≡ flat_map text (take i xs) ++ flat_map text (drop i xs) = ap (flat_map text) (sym (take-append-drop i xs)) ∙ flat_map-append text (take i xs) (drop i xs) in
    let len : length (flat_map text xs) ≡ length (flat_map text (take i xs)) + length (flat_map text (drop i xs)) = ap length parts ∙ length-append (flat_map text (take i xs)) (flat_map text (drop i xs)) in
    omega (arith, len)

-- a member has room after those before it
pub has_room : {X : Type 0} (text : X → List ℕ) (xs : List X) (i : ℕ) (d : X) → i < length xs → length (flat_map text (take i xs)) + length (text (get_or xs i d)) ≤ length (flat_map text xs)
has_room text xs i d lt =
    let len : length (flat_map text (take (i + 1) xs)) ≡ length (flat_map text (take i xs)) + length (text (get_or xs i d)) = ap length (one_more text xs i d lt) ∙ length-append (flat_map text (take i xs)) (text (get_or xs i d)) in
    omega (arith, len, front_is_short text xs (i + 1))

-- these members were put after what was there
pub record ArePut {X : Type 0} (text : X → List ℕ) (Fits : X → Type 0) (before now : Vec ℕ) (xs : List X) : Type 0 where
  pub lines : Puts before now (flat_map text xs)
  pub fit : All Fits xs

pub none_put : {X : Type 0} (text : X → List ℕ) (Fits : X → Type 0) (out : Vec ℕ) → ArePut text Fits out out []
none_put text Fits out = record { lines = nothing_put out; fit = λ k d lt. absurd (omega arith) }

-- one more member was put after these
pub one_put : {X : Type 0} (text : X → List ℕ) (Fits : X → Type 0) (before mid new : Vec ℕ) (xs : List X) (i : ℕ) (d : X) → i < length xs → ArePut text Fits before mid (take i xs)
    → Puts mid new (text (get_or xs i d)) → Fits (get_or xs i d) → ArePut text Fits before new (take (i + 1) xs)
one_put text Fits before mid new xs i d lt were put fits =
    let x = get_or xs i d in
    let more : take (i + 1) xs ≡ take i xs ++ x ∷ [] = grind (arith, common_steps) in
    record {
      lines = rw (one_more text xs i d lt) (both_put before mid new (flat_map text (take i xs)) (text x) put were.lines);
      fit = rw more (All-push Fits (take i xs) x were.fit fits);
    }

-- the member at an index has room after those before it
pub room_for : {X : Type 0} (text : X → List ℕ) (xs : List X) (i : ℕ) (x : X) → i < length xs → x ≡ get_or xs i x → length (flat_map text (take i xs)) + length (text x) ≤ length (flat_map text xs)
room_for {X = X} text xs i x lt is = subst (λ (y : X). length (flat_map text (take i xs)) + length (text y) ≤ length (flat_map text xs)) (sym is) (has_room text xs i x lt)

pub put_next : {X : Type 0} (text : X → List ℕ) (Fits : X → Type 0) (before mid new : Vec ℕ) (xs : List X) (i : ℕ) (x : X) → i < length xs → x ≡ get_or xs i x → ArePut text Fits before mid (take i xs)
    → Puts mid new (text x) → Fits x → ArePut text Fits before new (take (i + 1) xs)
put_next {X = X} text Fits before mid new xs i x lt is were put fits = one_put text Fits before mid new xs i x lt were (subst (λ (y : X). Puts mid new (text y)) is put) (subst Fits is fits)

-- all were put where none is left
pub all_put : {X : Type 0} (text : X → List ℕ) (Fits : X → Type 0) (before now : Vec ℕ) (xs : List X) (i : ℕ) → length xs ≤ i → ArePut text Fits before now (take i xs) → ArePut text Fits before now xs
all_put text Fits before now xs i done = subst (ArePut text Fits before now) (take_all i xs done)
