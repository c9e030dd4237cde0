-- A map without numbers has none at any key.
use Rattle.std.proofs.Common.{ap, ◌∙◌}
use Rattle.directory_index.specs.Names.{at_key, Keys}
use Rattle.directory_index.proofs.Keyed.{at_key-empty}
use Rattle.directory_index.proofs.names.Names.for_numbers.Goals as goal

pub returns-clause-keys : goal.returns-clause-keys
returns-clause-keys c key = ap (λ (keys : Keys). at_key keys key) c.for_numbers.ensures.empty ∙ at_key-empty key
