-- What is said of data of a generation: messages that are no data say nothing of it.
use Rattle.std.proofs.Common.{◌≡◌, ℕ, ◌<◌, Bool, true, false, List, [], ◌∷◌, ◌++◌, refl, ap, ◌∙◌, arith}
use Rattle.std.specs.Prelude.{◌==◌, cond}
use Rattle.std.specs.List.{AllByRecursion}
use Rattle.std.proofs.lemmas.List.{append-nil}
use Rattle.std.proofs.lemmas.List.Elements.{filter-append}
use Rattle.eden_base.proofs.NumberTests.{true-eq}
use Rattle.broker_core.specs.declared.seat.Seat.{Seat}
use Rattle.takeover_core.specs.declared.message.Message.{Message}
use Rattle.takeover_core.specs.declared.message.Message.TheVariants.{Data, Part}
use Rattle.world.specs.State.{State, is_data_of}
use Rattle.world.specs.Handing.{IsPast, data_of}
use Rattle.world.proofs.Handing.{SaysNoMore}
use Rattle.world.proofs.Turns.{is_data}

-- none of these messages is data of this generation
abbrev pub AreOther : ℕ → List Message → Type 0
AreOther g ms = AllByRecursion (λ (m : Message). is_data_of g m ≡ false) ms

-- none of these messages is data
abbrev pub AreNoData : List Message → Type 0
AreNoData ms = AllByRecursion (λ (m : Message). is_data m ≡ false) ms

not-data : (g : ℕ) (m : Message) → is_data m ≡ false → is_data_of g m ≡ false
not-data g (Data s h bytes) e = absurd (let none : ⊥ = cc in none)
not-data g (Part s h i n bytes) e = absurd (let none : ⊥ = cc in none)
not-data g m e = refl

pub no-data : (g : ℕ) (ms : List Message) → AreNoData ms → data_of g ms ≡ []
no-data g [] all = refl
no-data g (m ∷ ms) all = ap (λ (b : Bool). cond b (m ∷ data_of g ms) (data_of g ms)) (not-data g m all.0) ∙ no-data g ms all.1

-- no message of a generation that was is data of a generation to come
not-before : (last g : ℕ) → last < g → (m : Message) → IsPast last m → is_data_of g m ≡ false
not-before last g rises (Data s h bytes) low = in_ (h == g) refl where
  in_ : (b : Bool) → (h == g) ≡ b → (h == g) ≡ false
  in_ false e = e
  in_ true e = absurd (let same : h ≡ g = true-eq h g e in omega arith)
not-before last g rises (Part s h i n bytes) low = in_ (h == g) refl where
  in_ : (b : Bool) → (h == g) ≡ b → (h == g) ≡ false
  in_ false e = e
  in_ true e = absurd (let same : h ≡ g = true-eq h g e in omega arith)
not-before last g rises m low = refl

pub past-data : (last g : ℕ) (ms : List Message) → last < g → AllByRecursion (IsPast last) ms → data_of g ms ≡ []
past-data last g [] rises all = refl
past-data last g (m ∷ ms) rises all = ap (λ (b : Bool). cond b (m ∷ data_of g ms) (data_of g ms)) (not-before last g rises m all.0) ∙ past-data last g ms rises all.1

-- messages that are no data are no data of a generation to come
pub no-data-past : (last : ℕ) (ms : List Message) → AreNoData ms → AllByRecursion (IsPast last) ms
no-data-past last [] all = tt
no-data-past last (m ∷ ms) all = (past-of m all.0, no-data-past last ms all.1) where
  past-of : (m : Message) → is_data m ≡ false → IsPast last m
  past-of (Data s g bytes) e = absurd (let none : ⊥ = cc in none)
  past-of (Part s g i n bytes) e = absurd (let none : ⊥ = cc in none)
  past-of m e = tt

-- ---- what was said before, and more

pub data-more : (g : ℕ) (ms more : List Message) → data_of g (ms ++ more) ≡ data_of g ms ++ data_of g more
data-more g ms more = filter-append (is_data_of g) ms more

pub data-same : (g : ℕ) (ms more : List Message) → data_of g more ≡ [] → data_of g (ms ++ more) ≡ data_of g ms
data-same g ms more none = data-more g ms more ∙ ap (λ (x : List Message). data_of g ms ++ x) none ∙ append-nil (data_of g ms)

pub data-quiet : (old : State) (more : List Message) → AreNoData more → (seat : Seat) → data_of seat.generation (old.messages ++ more) ≡ data_of seat.generation old.messages
data-quiet old more quiet seat = data-same seat.generation old.messages more (no-data seat.generation more quiet)

pub says-no-more : (old : State) (more : List Message) → AreNoData more → SaysNoMore old (old.messages ++ more)
says-no-more old more quiet seat was before has out = data-quiet old more quiet seat
