-- One more piece was copied.
use Rattle.std.proofs.Common.{arith, refl, ◌-◌}
use denote.Param.Always.{mut_next}
use Rattle.git_objects.proofs.Copying.{copies_more}
use Rattle.git_objects.proofs.answer.copy_bytes.Goals as goal

pub loop-left-preserved : goal.loop-left-preserved
loop-left-preserved g c =
    let before = c.loop-left.invariant in
    let piece = c.min-piece.ensures in (
      mut_next g.F.FnMut _ _ _ _ _ c.told.ensures refl before.0,
      omega arith,
      before.2,
      copies_more _ _ _ _ _ _ _ _ _ (c.args.size - c.loop-left.left) c.min-piece.result _ before.3 c.in_ok-copy_piece.ensures.copied (omega arith),
    )
