use Rattle.map_image.proofs.UsageLaws.{not_found}
use Rattle.map_image.proofs.usage.is_of_use.Goals as goal

pub returns-in-Err : goal.returns-in-Err
returns-in-Err c = λ entries are. not_found entries c.args.kept.now c.args.parents.now c.in-Err.field-0 are c.if-kept-gt0.false c.in-Err.ensures.position
