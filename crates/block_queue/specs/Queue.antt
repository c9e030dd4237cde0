-- What a contract sees of a queue. Its definitions are this project's own.
use Rattle.std.specs.Prelude.{ℕ, List, refl}
use Rattle.std.specs.Coded.{Coded, code_by, coded×, coded_list, coded_ℕ}

-- a queue: its members, the first one first, and how many more can be appended without memory
pub record Queue (X : Type 0) : Type 0 where
  pub members : List X
  pub room : ℕ

module _ {X : Type 0} where
  -- the coding of a queue as its members and its room
  abbrev pub queue_code : Coded X → Coded (Queue X)
  queue_code x =
      code_by (List X × ℕ) (coded× (coded_list x) coded_ℕ) (λ q. (q.members, q.room))
      (λ p. record { members = p.0; room = p.1 }) (λ _. refl)
