-- The answer was read in its parts, and its bytes have the name that was asked for.
use Rattle.std.proofs.Common.{rules, ◌≡◌}
use Rattle.git_objects.proofs.Copying.{is_copied}
use Rattle.git_objects.proofs.answer.copy_blob.Goals as goal

pub returns : goal.returns
returns g c =
    let same : c.in_ok-name.name ≡ c.args.blob.object = search rules in
    record {
      answered = is_copied _ _ _ _ _ _ _ _ _ c.in_ok-read_head.ensures.head c.in_ok-name.ensures.copied c.in_ok-read_end.ensures.end same;
    }
