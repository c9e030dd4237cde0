-- Where there is no slash, the bytes have a separator if they have a NUL.
use Rattle.std.proofs.Common.{sym, ◌∙◌}
use Rattle.eden_base.proofs.Separators.{without-slash}
use Rattle.eden_base.proofs.name.has_separator.Goals as goal

pub returns-else-contains : goal.returns-else-contains
returns-else-contains c = c.contains-else-contains.ensures.value ∙ without-slash c.args.bytes.now (sym c.if-contains.ensures.value)
