-- The entries are the files of the list.
use Rattle.std.proofs.Common.{sym, ◌∙◌}
use Rattle.checkout.proofs.MadeLemmas.{listed-made}
use Rattle.checkout.proofs.made.MadeFiles.list.Goals as goal

pub returns : goal.returns
returns c =
    rw (← c.self.view_is) (c.in_ok-list.ensures.items ∙ c.as_slice.ensures.value ∙ sym (listed-made c.self.inside.files.items c.self.invariant))
