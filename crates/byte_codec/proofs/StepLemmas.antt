-- Steps of a reader that did not fail.
use Rattle.std.proofs.Common.{◌≡◌, Bool, true, false, cond, Result, Ok, Err, refl}
use Rattle.byte_codec.specs.Reading.{◌>>=◌}

pub bind_ok : {F A B : Type 0} (r : Result A F) (f : A → Result B F) (y : B) → (r >>= f) ≡ Ok y → (x : A) × (r ≡ Ok x) × (f x ≡ Ok y)
bind_ok (Ok x) f y e = (x, refl, e)
bind_ok (Err fault) f y e = absurd cc

pub bind_assoc : {F A B C : Type 0} (r : Result A F) (f : A → Result B F) (g : B → Result C F) → (r >>= λ x. f x >>= g) ≡ ((r >>= f) >>= g)
bind_assoc (Ok x) f g = refl
bind_assoc (Err fault) f g = refl

-- a test that must fail did
pub guard_ok : {F A : Type 0} (b : Bool) (fault : F) (r : Result A F) (y : A) → cond b (Err fault) r ≡ Ok y → (b ≡ false) × (r ≡ Ok y)
guard_ok true fault r y e = absurd cc
guard_ok false fault r y e = (refl, e)

-- a test that must hold did
pub test_ok : {F A : Type 0} (b : Bool) (fault : F) (r : Result A F) (y : A) → cond b r (Err fault) ≡ Ok y → (b ≡ true) × (r ≡ Ok y)
test_ok true fault r y e = (refl, e)
test_ok false fault r y e = absurd cc

-- a value that was read, under any fault type
abbrev pub done : {F A : Type 0} → A → Result A F
done x = Ok x

pub ok_is : {F A : Type 0} (x y : A) → done {F = F} x ≡ done y → x ≡ y
ok_is x y e = cc

pub guard_is : {F A : Type 0} (b : Bool) (fault : F) (x y : A) → cond b (Err fault) (done x) ≡ Ok y → (b ≡ false) × (x ≡ y)
guard_is b fault x y e = let g = guard_ok b fault (done x) y e in (g.0, ok_is x y g.1)
