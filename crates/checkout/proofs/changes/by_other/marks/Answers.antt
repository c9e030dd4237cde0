-- Where ids are apart none is marked.
use Rattle.std.proofs.Common.{ℕ, Bool, List, sym, ap, subst, rules, ◌∙◌}
use Rattle.std.specs.BTreeMap.{is_at}
use Rattle.std.specs.List.{IsDistinct}
use Rattle.std.specs.Map.{lookup}
use Rattle.std.specs.Ordering.{eq_by_cmp, nat_cmp}
use Rattle.checkout.specs.Rounds.{is_marked}
use Rattle.checkout.proofs.MarkLaws.{apart-unmarked}
use Rattle.checkout.proofs.changes.by_other.marks.Goals as goal

pub returns-then-are_apart-clause-marks : goal.returns-then-are_apart-clause-marks
returns-then-are_apart-clause-marks c =
    let apart : IsDistinct (eq_by_cmp nat_cmp) c.in_ok-ids.ids.items = search rules in
    λ file. ap (λ (es : List (ℕ × Bool)). is_marked (lookup (is_at (nat_cmp file)) es)) c.new.ensures.empty
    ∙ sym (apart-unmarked file c.args.links.now (subst (IsDistinct (eq_by_cmp nat_cmp)) c.in_ok-ids.ensures.ids apart))
