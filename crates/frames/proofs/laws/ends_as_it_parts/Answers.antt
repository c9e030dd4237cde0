use Rattle.frames.proofs.PartedLaws.{ends_as_it_parts}
use Rattle.frames.proofs.laws.ends_as_it_parts.Goals as goal

pub returns : goal.returns
returns c = record { law = ends_as_it_parts }
