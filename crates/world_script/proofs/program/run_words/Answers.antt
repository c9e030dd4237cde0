-- What the words ask for is done, and what is wrong with them is answered.
use Rattle.std.proofs.Common.{map, refl, string_bytes}
use Rattle.world_script.proofs.ServerCommands.{ends_by-answered, ends_by-asked}
use Rattle.world_script.proofs.program.run_words.Goals as goal

pub returns-in-Err : goal.returns-in-Err
returns-in-Err g c =
    record { ends = ends_by-answered (map string_bytes c.args.words.now) _ _ _ _ _ _ _ c.in-Err.ensures.refused c.answer.ensures refl }

pub returns-in-Ok : goal.returns-in-Ok
returns-in-Ok g c =
    record { ends = ends_by-asked (map string_bytes c.args.words.now) _ _ _ _ _ c.in-Ok.asked _ c.in-Ok.ensures.refused c.in-Ok.ensures.asked c.run_asked.ensures }
