-- Four digits.
use Rattle.manifest.proofs.TextLemmas.{mode_from_digits}
use Rattle.manifest.proofs.field.mode_of.Goals as goal

pub returns : goal.returns
returns c =
    let (is_special, special) = c.in_ok-special.ensures in
    let (is_owner, owner) = c.in_ok-owner.ensures in
    let (is_group, group) = c.in_ok-group.ensures in
    let (is_others, others) = c.in_ok-others.ensures in
    record {
      mode = mode_from_digits c.args.digits.now _ _ _ _ c.of.result c.in-len4.len_at_least c.in-len4.len_below is_special special is_owner owner is_group group is_others others
          c.of.ensures.perm c.of.ensures.in_range.1;
    }
