-- The root's number names the root, and what is remembered is right.
use Rattle.std.proofs.Common.{refl, sym}
use Rattle.eden_base.proofs.NumberTests.{true-eq}
use Rattle.entry_table.specs.Entries.{is_root}
use Rattle.fuse_ops.proofs.served.Served.file_of.Goals as goal

pub returns-then-eq-clause-located : goal.returns-then-eq-clause-located
returns-then-eq-clause-located c = is_root _ _ (true-eq c.args.number.0 1 (sym c.if-eq.ensures)) refl
