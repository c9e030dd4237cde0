-- What holds of the broker's fields, whatever is asked of the broker.
use Rattle.std.specs.Prelude.{ℕ, ◌+◌, ◌<◌, ◌≤◌}
use Rattle.broker_core.specs.Broker.{last_generation, last_unique}
use Rattle.broker_core.specs.Held.{held_count}
use Rattle.broker_core.specs.Traffic.{IsLater, asks_under_way}
use Rattle.broker_core.specs.declared.broker.Broker.TheInside.{Inside}

-- the fields fit together; for each number, its count and the asks under way are together below the next unique
pub record IsConsistent (b : Inside) : Type 0 where
  pub generation : b.last ≤ last_generation
  pub uniques : b.next_unique ≤ last_unique + 1
  pub later : IsLater b.traffic b.next_unique
  pub asked_for : (n : ℕ) → held_count b.held n + asks_under_way b.traffic < b.next_unique
