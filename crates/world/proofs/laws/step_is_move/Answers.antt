use Rattle.world.proofs.LawProofs.{answer-is-move, item-is-move}
use Rattle.world.proofs.Journals.{journal-is-run, member-is-move}
use Rattle.world.proofs.laws.step_is_move.Goals as goal

pub returns : goal.returns
returns c = record { answers = answer-is-move; items = item-is-move; members = member-is-move; journals = journal-is-run }
