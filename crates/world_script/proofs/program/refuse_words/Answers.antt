-- Words that are no text are refused, whatever path they would name.
use Rattle.std.proofs.Common.{◌≡◌, rules}
use Rattle.std.specs.IoError.{error_kind}
use Rattle.std.specs.declared.io.ErrorKind.TheVariants as io_kind
use Rattle.world_script.proofs.ProgramEndLemmas.{ends-unread}
use Rattle.world_script.proofs.program.refuse_words.Goals as goal

pub returns-in-Ok : goal.returns-in-Ok
returns-in-Ok g c =
    let other : error_kind c.args.error.now ≡ io_kind.OutOfMemory → ⊥ = search rules in
    λ path known limit. ends-unread (error_kind c.args.error.now) path known limit _ _ _ _ other c.in-Ok.ensures.kind c.answer.ensures
