-- What a reading yields: a good value, or a fault that may occur. Two readings, one after the other, are one.
use Rattle.std.proofs.Common.{◌≡◌, Bool, true, false, cond, Result, Ok, Err, refl, subst}
use Rattle.byte_codec.specs.Reading.{◌>>=◌}
use Rattle.byte_codec.proofs.StepLemmas.{ok_is}

pub data Yields {F Y : Type 0} (Bad : F → Type 0) (Good : Y → Type 0) : Result Y F → Type 0 where
  Value : {y : Y} → Good y → Yields Bad Good (Ok y)
  Fault : {fault : F} → Bad fault → Yields Bad Good (Err fault)

-- the fault is the one that was named
abbrev pub Only : {F : Type 0} → F → F → Type 0
Only named fault = fault ≡ named

-- the value may be any
abbrev pub Any : {X : Type 0} → X → Type 0
Any x = Unit {0}

-- a value that a reading gave is a good one
pub yielded : {F Y : Type 0} {Bad : F → Type 0} {Good : Y → Type 0} (r : Result Y F) (y : Y) → Yields Bad Good r → r ≡ Ok y → Good y
yielded {Good = Good} (Ok x) y (Value good) e = subst Good (ok_is x y e) good
yielded (Err fault) y bad e = absurd cc

abbrev failed : {F Y : Type 0} → F → Result Y F
failed fault = Err fault

same_fault : {F Y : Type 0} (its fault : F) → failed {Y = Y} its ≡ failed fault → its ≡ fault
same_fault its fault e = cc

-- and a fault one that may be
pub faulted : {F Y : Type 0} {Bad : F → Type 0} {Good : Y → Type 0} (r : Result Y F) (fault : F) → Yields Bad Good r → r ≡ Err fault → Bad fault
faulted (Ok x) fault good e = absurd cc
faulted {Bad = Bad} (Err its) fault (Fault bad) e = subst Bad (same_fault its fault e) bad

-- a reading gives the value that it gives
pub its_value : {F Y : Type 0} (r : Result Y F) → Yields Any (λ y. r ≡ Ok y) r
its_value (Ok y) = Value refl
its_value (Err fault) = Fault tt

-- a good value is good in another sense
pub yields_as : {F Y : Type 0} {Bad : F → Type 0} {Good New : Y → Type 0} (r : Result Y F) → Yields Bad Good r → ((y : Y) → Good y → New y) → Yields Bad New r
yields_as (Ok y) (Value good) new = Value (new y good)
yields_as (Err fault) (Fault bad) new = Fault bad

-- a reading after another
pub then_yields : {F A Y : Type 0} {Bad : F → Type 0} {Mid : A → Type 0} {Good : Y → Type 0} (r : Result A F) (f : A → Result Y F) → Yields Bad Mid r → ((x : A) → Mid x → Yields Bad Good (f x)) → Yields Bad Good (r >>= f)
then_yields (Ok x) f (Value good) second = second x good
then_yields (Err fault) f (Fault bad) second = Fault bad

-- a reading where a test holds
pub if_yields : {F Y : Type 0} {Bad : F → Type 0} {Good : Y → Type 0} (b : Bool) (fault : F) (r : Result Y F) → Bad fault → (b ≡ true → Yields Bad Good r) → Yields Bad Good (cond b r (Err fault))
if_yields true fault r bad good = good refl
if_yields false fault r bad good = Fault bad

-- a reading where a test fails
pub unless_yields : {F Y : Type 0} {Bad : F → Type 0} {Good : Y → Type 0} (b : Bool) (fault : F) (r : Result Y F) → Bad fault → (b ≡ false → Yields Bad Good r) → Yields Bad Good (cond b (Err fault) r)
unless_yields true fault r bad good = Fault bad
unless_yields false fault r bad good = good refl
