-- Eight bytes are ordered as their numbers, with the highest byte first.
use Rattle.std.proofs.Common.{◌≡◌, ℕ, ◌+◌, ◌*◌, ◌^◌, ◌<◌, ◌≤◌, List, [], ◌∷◌, length, length-take, take, drop, suc, zero, refl, sym, ap, subst, ◌∙◌, arith, pow-suc}
use Rattle.std.specs.Prelude.{slice_index, not, ◌==◌, true, false}
use Rattle.std.specs.Int.{w64, from_be_bytes}
use Rattle.std.specs.declared.cmp.Ordering.{Ordering}
use Rattle.std.specs.declared.cmp.Ordering.TheVariants.{Less, Equal, Greater}
use Rattle.std.specs.Ordering.{nat_cmp, ordering_index, ordering_then, MatchOrdering}
use Rattle.std.specs.Cmp.{nat_cmp_is, ranked}
use Rattle.std.specs.Cmp.Lexicographic.{slice_cmp}
use Rattle.std.proofs.Math.Nat.{mul-le-mul_right}

then-assoc : (a b c : Ordering) → ordering_then (ordering_then a b) c ≡ ordering_then a (ordering_then b c)
then-assoc Less b c = refl
then-assoc Equal b c = refl
then-assoc Greater b c = refl

-- bytes are ordered by their first n, and by the rest where these are the same
pub cmp-parts : (n : ℕ) (xs ys : List ℕ) → n ≤ length xs → n ≤ length ys → slice_cmp nat_cmp xs ys ≡ ordering_then (slice_cmp nat_cmp (take n xs) (take n ys)) (slice_cmp nat_cmp (drop n xs) (drop n ys))
cmp-parts zero xs ys long_xs long_ys = refl
cmp-parts (suc n) [] ys long_xs long_ys = absurd (omega arith)
cmp-parts (suc n) (x ∷ xs) [] long_xs long_ys = absurd (omega arith)
cmp-parts (suc n) (x ∷ xs) (y ∷ ys) long_xs long_ys =
    ap (λ (o : Ordering). ordering_then (nat_cmp x y) o) (cmp-parts n xs ys (omega arith) (omega arith))
    ∙ sym (then-assoc (nat_cmp x y) (slice_cmp nat_cmp (take n xs) (take n ys)) (slice_cmp nat_cmp (drop n xs) (drop n ys)))

-- a digit decides over all below it
digit-below : (a b x y p : ℕ) → x < p → a < b → a * p + x < b * p + y
digit-below a b x y p low below =
    let more : (a + 1) * p ≤ b * p = mul-le-mul_right p (omega arith) in
    let next : (a + 1) * p ≡ a * p + p = omega arith in
    omega arith

-- what is the same before both changes nothing
below-by : (s x y : ℕ) (o : Ordering) → MatchOrdering o (x < y) (x ≡ y) (y < x) → nat_cmp (s + x) (s + y) ≡ o
below-by s x y Less is = sym (nat_cmp_is (s + x) (s + y) Less (omega arith))
below-by s x y Equal is = sym (nat_cmp_is (s + x) (s + y) Equal (omega arith))
below-by s x y Greater is = sym (nat_cmp_is (s + x) (s + y) Greater (omega arith))

digit-by : (a b x y p : ℕ) (o : Ordering) → MatchOrdering o (a < b) (a ≡ b) (b < a) → x < p → y < p → nat_cmp (a * p + x) (b * p + y) ≡ ordering_then o (nat_cmp x y)
digit-by a b x y p Less is low_x low_y = sym (nat_cmp_is (a * p + x) (b * p + y) Less (digit-below a b x y p low_x is))
digit-by a b x y p Greater is low_x low_y = sym (nat_cmp_is (a * p + x) (b * p + y) Greater (digit-below b a y x p low_y is))
digit-by a b x y p Equal is low_x low_y =
    subst (λ (c : ℕ). nat_cmp (a * p + x) (c * p + y) ≡ nat_cmp x y) is (below-by (a * p) x y (nat_cmp x y) (ranked x y (nat_cmp x y) refl))

digit : (a b x y p : ℕ) → x < p → y < p → nat_cmp (a * p + x) (b * p + y) ≡ ordering_then (nat_cmp a b) (nat_cmp x y)
digit a b x y p low_x low_y = digit-by a b x y p (nat_cmp a b) (ranked a b (nat_cmp a b) refl) low_x low_y

-- the number that digits to the base 256 are, the highest first
abbrev pub number_of : List ℕ → ℕ
number_of [] = 0
number_of (x ∷ xs) = x * 256 ^ length xs + number_of xs

abbrev pub AreDigits : List ℕ → Type 0
AreDigits xs = (i : ℕ) → slice_index xs i < 256

pub digits-drop : (n : ℕ) (xs : List ℕ) → AreDigits xs → AreDigits (drop n xs)
digits-drop zero xs are = are
digits-drop (suc n) [] are = are
digits-drop (suc n) (x ∷ xs) are = digits-drop n xs (λ i. are (suc i))

digits-take : (n : ℕ) (xs : List ℕ) → AreDigits xs → AreDigits (take n xs)
digits-take zero xs are i = omega arith
digits-take (suc n) [] are i = are i
digits-take (suc n) (x ∷ xs) are zero = are 0
digits-take (suc n) (x ∷ xs) are (suc i) = digits-take n xs (λ j. are (suc j)) i

number_of-below : (xs : List ℕ) → AreDigits xs → number_of xs < 256 ^ length xs
number_of-below [] are = omega arith
number_of-below (x ∷ xs) are =
    let rest : number_of xs < 256 ^ length xs = number_of-below xs (λ i. are (suc i)) in
    let first : (x + 1) * 256 ^ length xs ≤ 256 * 256 ^ length xs = mul-le-mul_right (256 ^ length xs) (omega (arith, are 0)) in
    let next : (x + 1) * 256 ^ length xs ≡ x * 256 ^ length xs + 256 ^ length xs = omega arith in
    let power : 256 ^ length (x ∷ xs) ≡ 256 ^ length xs * 256 = pow-suc 256 (length xs) in
    subst (λ (top : ℕ). number_of (x ∷ xs) < top) (sym power) (omega arith)

-- as many digits are ordered as their numbers
number_of-cmp : (xs ys : List ℕ) → length xs ≡ length ys → AreDigits xs → AreDigits ys → nat_cmp (number_of xs) (number_of ys) ≡ slice_cmp nat_cmp xs ys
number_of-cmp [] [] same are_xs are_ys = refl
number_of-cmp [] (y ∷ ys) same are_xs are_ys = absurd (omega arith)
number_of-cmp (x ∷ xs) [] same are_xs are_ys = absurd (omega arith)
number_of-cmp (x ∷ xs) (y ∷ ys) same are_xs are_ys =
    let alike : length xs ≡ length ys = omega arith in
    let low_ys : number_of ys < 256 ^ length xs = subst (λ (n : ℕ). number_of ys < 256 ^ n) (sym alike) (number_of-below ys (λ i. are_ys (suc i))) in
    ap (λ (n : ℕ). nat_cmp (number_of (x ∷ xs)) (y * 256 ^ n + number_of ys)) (sym alike)
    ∙ digit x y (number_of xs) (number_of ys) (256 ^ length xs) (number_of-below xs (λ i. are_xs (suc i))) low_ys
    ∙ ap (λ (o : Ordering). ordering_then (nat_cmp x y) o) (number_of-cmp xs ys alike (λ i. are_xs (suc i)) (λ i. are_ys (suc i)))

-- eight of them are read so
read-eight : (xs : List ℕ) → length xs ≡ 8 → from_be_bytes w64 xs ≡ number_of xs
read-eight (a ∷ b ∷ c ∷ d ∷ e ∷ f ∷ g ∷ h ∷ []) is =
    let flat : from_be_bytes w64 (a ∷ b ∷ c ∷ d ∷ e ∷ f ∷ g ∷ h ∷ []) ≡ a * 256 ^ 7 + b * 256 ^ 6 + c * 256 ^ 5 + d * 256 ^ 4 + e * 256 ^ 3 + f * 256 ^ 2 + g * 256 ^ 1 + h = refl in
    let nested : number_of (a ∷ b ∷ c ∷ d ∷ e ∷ f ∷ g ∷ h ∷ []) ≡ a * 256 ^ 7 + (b * 256 ^ 6 + (c * 256 ^ 5 + (d * 256 ^ 4 + (e * 256 ^ 3 + (f * 256 ^ 2 + (g * 256 ^ 1 + (h * 256 ^ 0 + 0))))))) = refl in
    let same : a * 256 ^ 7 + b * 256 ^ 6 + c * 256 ^ 5 + d * 256 ^ 4 + e * 256 ^ 3 + f * 256 ^ 2 + g * 256 ^ 1 + h ≡ a * 256 ^ 7 + (b * 256 ^ 6 + (c * 256 ^ 5 + (d * 256 ^ 4 + (e * 256 ^ 3 + (f * 256 ^ 2 + (g * 256 ^ 1 + (h * 256 ^ 0 + 0))))))) = omega arith in
    flat ∙ same ∙ sym nested
read-eight xs is = absurd (omega arith)

eight-cmp : (xs ys : List ℕ) → length xs ≡ 8 → length ys ≡ 8 → AreDigits xs → AreDigits ys → nat_cmp (from_be_bytes w64 xs) (from_be_bytes w64 ys) ≡ slice_cmp nat_cmp xs ys
eight-cmp xs ys eight_xs eight_ys are_xs are_ys =
    ap (λ (n : ℕ). nat_cmp n (from_be_bytes w64 ys)) (read-eight xs eight_xs)
    ∙ ap (λ (n : ℕ). nat_cmp (number_of xs) n) (read-eight ys eight_ys)
    ∙ number_of-cmp xs ys (eight_xs ∙ sym eight_ys) are_xs are_ys

-- bytes are ordered by the number of their first eight, and by the rest where that is the same
pub chunk-cmp : (xs ys : List ℕ) → 8 ≤ length xs → 8 ≤ length ys → AreDigits xs → AreDigits ys →
    slice_cmp nat_cmp xs ys ≡ ordering_then (nat_cmp (from_be_bytes w64 (take 8 xs)) (from_be_bytes w64 (take 8 ys))) (slice_cmp nat_cmp (drop 8 xs) (drop 8 ys))
chunk-cmp xs ys long_xs long_ys are_xs are_ys =
    cmp-parts 8 xs ys long_xs long_ys
    ∙ ap (λ (o : Ordering). ordering_then o (slice_cmp nat_cmp (drop 8 xs) (drop 8 ys)))
    (sym (eight-cmp (take 8 xs) (take 8 ys) (omega (arith, length-take 8 xs)) (omega (arith, length-take 8 ys)) (digits-take 8 xs are_xs) (digits-take 8 ys are_ys)))

-- what is left of both, and of which bytes
abbrev pub IsLeft : (left right left_rest right_rest : List ℕ) → Type 0
IsLeft left right left_rest right_rest =
    (slice_cmp nat_cmp left_rest right_rest ≡ slice_cmp nat_cmp left right) × AreDigits left_rest × AreDigits right_rest

by_order : (left right xs ys : List ℕ) (order : Ordering) → IsLeft left right xs ys → 8 ≤ length xs → 8 ≤ length ys →
    order ≡ nat_cmp (from_be_bytes w64 (take 8 xs)) (from_be_bytes w64 (take 8 ys)) → ordering_then order (slice_cmp nat_cmp (drop 8 xs) (drop 8 ys)) ≡ slice_cmp nat_cmp left right
by_order left right xs ys order was long_xs long_ys is =
    ap (λ (o : Ordering). ordering_then o (slice_cmp nat_cmp (drop 8 xs) (drop 8 ys))) is ∙ sym (chunk-cmp xs ys long_xs long_ys was.1 was.2) ∙ was.0

-- the first eight of some bytes, and those after them
pub record IsParted (bytes front behind : List ℕ) : Type 0 where
  pub front_is : front ≡ take 8 bytes
  pub behind_is : behind ≡ drop 8 bytes
  pub len : length behind + 8 ≡ length bytes

by_numbers : (left right xs ys f g b d : List ℕ) (n m : ℕ) (order : Ordering) → IsLeft left right xs ys → IsParted xs f b → IsParted ys g d →
    n ≡ from_be_bytes w64 f → m ≡ from_be_bytes w64 g → order ≡ nat_cmp n m → ordering_then order (slice_cmp nat_cmp b d) ≡ slice_cmp nat_cmp left right
by_numbers left right xs ys f g b d n m order was one other n_is m_is is =
    let low : n ≡ from_be_bytes w64 (take 8 xs) = n_is ∙ ap (λ (l : List ℕ). from_be_bytes w64 l) one.front_is in
    let high : m ≡ from_be_bytes w64 (take 8 ys) = m_is ∙ ap (λ (l : List ℕ). from_be_bytes w64 l) other.front_is in
    let by : order ≡ nat_cmp (from_be_bytes w64 (take 8 xs)) (from_be_bytes w64 (take 8 ys)) =
    is ∙ ap (λ (k : ℕ). nat_cmp k m) low ∙ ap (λ (k : ℕ). nat_cmp (from_be_bytes w64 (take 8 xs)) k) high in
    ap (λ (l : List ℕ). ordering_then order (slice_cmp nat_cmp l d)) one.behind_is
    ∙ ap (λ (l : List ℕ). ordering_then order (slice_cmp nat_cmp (drop 8 xs) l)) other.behind_is
    ∙ by_order left right xs ys order was (omega (arith, one.len)) (omega (arith, other.len)) by

ends-there : (order : Ordering) (rest : Ordering) (all : Ordering) → not (ordering_index order == 1) ≡ true → ordering_then order rest ≡ all → order ≡ all
ends-there Less rest all not_same is = is
ends-there Equal rest all not_same is = cc
ends-there Greater rest all not_same is = is

-- the first eight differ
pub differs : (left right xs ys f g b d : List ℕ) (n m : ℕ) (order : Ordering) → IsLeft left right xs ys → IsParted xs f b → IsParted ys g d →
    n ≡ from_be_bytes w64 f → m ≡ from_be_bytes w64 g → order ≡ nat_cmp n m → not (ordering_index order == 1) ≡ true → order ≡ slice_cmp nat_cmp left right
differs left right xs ys f g b d n m order was one other n_is m_is is not_same =
    ends-there order (slice_cmp nat_cmp b d) (slice_cmp nat_cmp left right) not_same (by_numbers left right xs ys f g b d n m order was one other n_is m_is is)

goes-there : (order : Ordering) (rest : Ordering) (all : Ordering) → not (ordering_index order == 1) ≡ false → ordering_then order rest ≡ all → rest ≡ all
goes-there Less rest all same is = cc
goes-there Equal rest all same is = is
goes-there Greater rest all same is = cc

-- they are the same
pub goes_on : (left right xs ys f g b d : List ℕ) (n m : ℕ) (order : Ordering) → IsLeft left right xs ys → IsParted xs f b → IsParted ys g d →
    n ≡ from_be_bytes w64 f → m ≡ from_be_bytes w64 g → order ≡ nat_cmp n m → not (ordering_index order == 1) ≡ false → IsLeft left right b d
goes_on left right xs ys f g b d n m order was one other n_is m_is is same = (
  goes-there order (slice_cmp nat_cmp b d) (slice_cmp nat_cmp left right) same (by_numbers left right xs ys f g b d n m order was one other n_is m_is is),
  subst AreDigits (sym one.behind_is) (digits-drop 8 xs was.1),
  subst AreDigits (sym other.behind_is) (digits-drop 8 ys was.2),
)
