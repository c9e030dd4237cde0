-- Members read one after the other, as a loop does, as far as they are whole.
use Rattle.std.proofs.Common.{◌≡◌, ℕ, suc, ◌+◌, ◌-◌, ◌<◌, List, [], ◌∷◌, ◌++◌, length, Option, Some, Result, Ok, Err, inl, inr, refl, sym, ap, ◌∙◌, append_assoc, length-append, arith}
use Rattle.std.specs.Prelude.{slice_get}
use Rattle.std.proofs.lemmas.List.{append-nil}
use Rattle.byte_codec.specs.Reading.{◌>>=◌}
use Rattle.map_image.specs.declared.fault.ImageFault.{ImageFault}
use Rattle.map_image.specs.declared.fault.ImageFault.TheVariants as faults
use Rattle.map_image.specs.Feeding.{Extends, GoesOnIn, IsRefusedIn, Member, StopsIn, members_from}
use Rattle.map_image.specs.ImageReading.{Fails, last_of, members_at}
use Rattle.map_image.proofs.SteadyLaws.{IsSteady}

abbrev pub AreSteady : {X : Type 0} → Member X → Type 0
AreSteady {X = X} member = (last : Option X) → IsSteady (member last)

get_end : {X : Type 0} (xs : List X) (x : X) → slice_get (xs ++ x ∷ []) (length xs) ≡ Some x
get_end [] x = refl
get_end (y ∷ xs) x = get_end xs x

-- the last of a list that was pushed to
pub last_pushed : {X : Type 0} (xs : List X) (x : X) → last_of (xs ++ x ∷ []) ≡ Some x
last_pushed xs x =
    let end : length (xs ++ x ∷ []) - 1 ≡ length xs = omega (arith, length-append xs (x ∷ [])) in
    ap (slice_get (xs ++ x ∷ [])) end ∙ get_end xs x

-- ---- what was read stands in front of what is still read

abbrev pub with_front : {X : Type 0} → List X → Result (List X × List ℕ) ImageFault → Result (List X × List ℕ) ImageFault
with_front front read = read >>= λ x. Ok (front ++ x.0, x.1)

regroup : {X : Type 0} (front : List X) (x : X) (read : Result (List X × List ℕ) ImageFault) → with_front front (read >>= λ y. Ok (x ∷ y.0, y.1)) ≡ with_front (front ++ x ∷ []) read
regroup {X = X} front x (Ok y) = ap (λ (xs : List X). Ok (xs, y.1)) (simp append_assoc)
regroup front x (Err fault) = refl

-- one member more
one_on : {X : Type 0} (member : Member X) (done : List X) (left : ℕ) (bytes : List ℕ) (x : X) (after : List ℕ) → member (last_of done) bytes ≡ Ok (x, after) → members_from member done (suc left) bytes ≡ members_from member (done ++ x ∷ []) left after
unfolding members_at
one_on {X = X} member done left bytes x after h =
    let one : members_from member done (suc left) bytes ≡ with_front (done ++ x ∷ []) (members_at member (Some x) left after) = rw h (regroup done x (members_at member (Some x) left after)) in
    one ∙ ap (λ (l : Option X). with_front (done ++ x ∷ []) (members_at member l left after)) (sym (last_pushed done x))

-- no more
pub none_on : {X : Type 0} (member : Member X) (done : List X) (bytes : List ℕ) → members_from member done 0 bytes ≡ Ok (done, bytes)
unfolding members_at
none_on {X = X} member done bytes = ap (λ (xs : List X). Ok (xs, bytes)) (append-nil done)

-- a member that has a fault
fault_on : {X : Type 0} (member : Member X) (done : List X) (left : ℕ) (bytes : List ℕ) (fault : ImageFault) → member (last_of done) bytes ≡ Err fault → members_from member done (suc left) bytes ≡ Err fault
unfolding members_at
fault_on member done left bytes fault h = rw h refl

-- ---- what a loop keeps

pub record IsSoFar {X : Type 0} (member : Member X) (old : List X) (count : ℕ) (bytes : List ℕ) (new : List X) (i : ℕ) (rest : List ℕ) : Type 0 where
  pub goes_on : (more : List ℕ) → members_from member old count (bytes ++ more) ≡ members_from member new (count - i) (rest ++ more)
  pub adds : Extends old new

pub starts : {X : Type 0} (member : Member X) (old : List X) (count : ℕ) (bytes : List ℕ) → IsSoFar member old count bytes old 0 bytes
starts member old count bytes =
    let k : count ≡ count - 0 = omega arith in
    record { goes_on = λ more. ap (λ (n : ℕ). members_from member old n (bytes ++ more)) k; adds = ([], sym (append-nil old)) }

pub extends_same : {X : Type 0} (xs : List X) → Extends xs xs
extends_same xs = ([], sym (append-nil xs))

pub extends_twice : {X : Type 0} (old mid new : List X) → Extends old mid → Extends mid new → Extends old new
extends_twice {X = X} old mid new e f = (e.0 ++ f.0, f.1 ∙ ap (λ (xs : List X). xs ++ f.0) e.1 ∙ append_assoc old e.0 f.0)

pub extends_push : {X : Type 0} (old new : List X) (x : X) → Extends old new → Extends old (new ++ x ∷ [])
extends_push {X = X} old new x e = (e.0 ++ x ∷ [], ap (λ (xs : List X). xs ++ x ∷ []) e.1 ∙ append_assoc old e.0 (x ∷ []))

pub steps : {X : Type 0} (member : Member X) (old : List X) (count : ℕ) (bytes : List ℕ) (new : List X) (i : ℕ) (rest : List ℕ) (x : X) (after : List ℕ) → AreSteady member → i < count
    → member (last_of new) rest ≡ Ok (x, after) → IsSoFar member old count bytes new i rest → IsSoFar member old count bytes (new ++ x ∷ []) (i + 1) after
steps member old count bytes new i rest x after steady lt h so_far =
    let k : count - i ≡ suc (count - (i + 1)) = omega arith in
    record {
      goes_on = λ more.
          so_far.goes_on more
          ∙ ap (λ (n : ℕ). members_from member new n (rest ++ more)) k
          ∙ one_on member new (count - (i + 1)) (rest ++ more) x (after ++ more) ((steady (last_of new)).stays rest (x, after) h more);
      adds = extends_push old new x so_far.adds;
    }

-- the next member is cut off
pub cuts : {X : Type 0} (member : Member X) (old : List X) (count : ℕ) (bytes : List ℕ) (new : List X) (i : ℕ) (rest : List ℕ) → i < count → member (last_of new) rest ≡ Err faults.Short → IsSoFar member old count bytes new i rest
    → GoesOnIn member old count bytes new (count - i) rest
cuts member old count bytes new i rest lt h so_far =
    let k : count - i ≡ suc (count - (i + 1)) = omega arith in
    record { goes_on = so_far.goes_on; cut = λ some. ap (λ (n : ℕ). members_from member new n rest) k ∙ fault_on member new (count - (i + 1)) rest faults.Short h }

refused : {X : Type 0} (member : Member X) (old : List X) (count : ℕ) (bytes : List ℕ) (new : List X) (i : ℕ) (rest : List ℕ) (fault : ImageFault) → AreSteady member → i < count → (fault ≡ faults.Short → ⊥)
    → member (last_of new) rest ≡ Err fault → IsSoFar member old count bytes new i rest → IsRefusedIn member old count bytes fault
refused member old count bytes new i rest fault steady lt other h so_far =
    let k : count - i ≡ suc (count - (i + 1)) = omega arith in
    elim ((steady (last_of new)).fault rest fault h) [
      | inl short ↦ absurd (other short)
      | inr stands ↦ record {
        lasts = stands.lasts;
        fails = λ more.
            so_far.goes_on more
            ∙ ap (λ (n : ℕ). members_from member new n (rest ++ more)) k
            ∙ fault_on member new (count - (i + 1)) (rest ++ more) fault (stands.fails more);
      }
    ]

-- a member has a fault, or memory ran out
pub stops : {X : Type 0} (member : Member X) (old : List X) (count : ℕ) (bytes : List ℕ) (new : List X) (i : ℕ) (rest : List ℕ) (fault : ImageFault) → AreSteady member → i < count → (fault ≡ faults.Short → ⊥)
    → Fails fault (member (last_of new) rest) → IsSoFar member old count bytes new i rest → StopsIn member old count bytes fault
stops member old count bytes new i rest faults.NoMemory steady lt other h so_far = tt
stops member old count bytes new i rest faults.BadMagic steady lt other h so_far = refused member old count bytes new i rest faults.BadMagic steady lt other h so_far
stops member old count bytes new i rest faults.BadVersion steady lt other h so_far = refused member old count bytes new i rest faults.BadVersion steady lt other h so_far
stops member old count bytes new i rest faults.Short steady lt other h so_far = refused member old count bytes new i rest faults.Short steady lt other h so_far
stops member old count bytes new i rest faults.Rest steady lt other h so_far = refused member old count bytes new i rest faults.Rest steady lt other h so_far
stops member old count bytes new i rest faults.NotRising steady lt other h so_far = refused member old count bytes new i rest faults.NotRising steady lt other h so_far
stops member old count bytes new i rest faults.BadName steady lt other h so_far = refused member old count bytes new i rest faults.BadName steady lt other h so_far
stops member old count bytes new i rest faults.BadMark steady lt other h so_far = refused member old count bytes new i rest faults.BadMark steady lt other h so_far
stops member old count bytes new i rest faults.ZeroUse steady lt other h so_far = refused member old count bytes new i rest faults.ZeroUse steady lt other h so_far
