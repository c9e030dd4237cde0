-- What the rows of the command's matches name.
use Rattle.std.proofs.Common.{refl, ap, sym, ◌∙◌, codes}
use Rattle.clap.specs.Words.{found_of}
use Rattle.clap.proofs.WalkLemmas.{first_value-rows}
use Rattle.command_line.proofs.CommandLemmas.{option_map_twice, script_in-world, text_or}
use Rattle.command_line.proofs.asked.script_in.Goals as goal

pub returns-in-Some : goal.returns-in-Some
returns-in-Some c =
    let name_is = option_map_twice _ _ _ ∙ (c.in-Some.ensures.found).0 refl in
    ap (λ s. s.now) c.unwrap_or.ensures
    ∙ text_or _ _ _ (c.get_str.ensures ∙ first_value-rows (found_of c.in-Some.world.now) (codes "SCRIPT"))
    ∙ sym (script_in-world _ _ name_is c.in-Some.ensures.rows)
