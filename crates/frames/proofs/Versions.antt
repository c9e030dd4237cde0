-- Versions that are read one by one.
use Rattle.std.proofs.Common.{◌≡◌, ℕ, suc, ◌+◌, ◌-◌, ◌<◌, ◌≤◌, List, [], ◌∷◌, ◌++◌, take, drop, append_assoc, arith}
use Rattle.std.proofs.lemmas.List.{append-nil}
use Rattle.std.specs.Int.{w16}
use Rattle.byte_codec.specs.Field.{number_in}
use Rattle.frames.specs.Reading.{numbers_at}

-- the next version stands after those that were read
pub one_more : (n i : ℕ) (done rest : List ℕ) → i < n → (done ++ number_in w16 (take 2 rest) ∷ []) ++ numbers_at (n - (i + 1)) (drop 2 rest) ≡ done ++ numbers_at (n - i) rest
one_more n i done rest lt =
    let left : n - i ≡ suc (n - (i + 1)) = omega arith in
    rw left (append_assoc done (number_in w16 (take 2 rest) ∷ []) (numbers_at (n - (i + 1)) (drop 2 rest)))

-- none is left
pub no_more : (n i : ℕ) (done rest : List ℕ) → n ≤ i → done ++ numbers_at (n - i) rest ≡ done
no_more n i done rest le =
    let left : n - i ≡ 0 = omega arith in
    rw left (append-nil done)
