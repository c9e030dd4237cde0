use Rattle.std.proofs.Common.{◌≤◌, ◌-◌}
use denote.Param.Always.{always_mut}
use Rattle.sha1.specs.Sha1.{Holds}
use Rattle.git_objects.specs.CatFile.{Copies}
use Rattle.git_objects.specs.Content.{hash_head}
use Rattle.git_objects.proofs.answer.copy_bytes.Given as goal

abbrev pub invariant-loop-left : goal.invariant-loop-left
invariant-loop-left g l =
    always_mut g.F.FnMut l.told
    × (l.left ≤ l.size)
    × Holds l.initial.hasher (hash_head l.size)
    × Copies (g.I.Read.remaining l.initial.input) (g.I.Read.remaining l.input)
    (g.W.Write.contents l.initial.out) (g.W.Write.contents l.out) l.initial.hasher l.hasher (l.size - l.left)

abbrev pub decreases-loop-left : goal.decreases-loop-left
decreases-loop-left g l = l.left
