-- The file is new, so that there is room for one more, and they stay apart.
use Rattle.std.proofs.Common.{◌≡◌, ◌==◌, ◌++◌, ◌∷◌, [], false, ap, ◌∙◌, arith}
use Rattle.std.specs.List.{list_any}
use Rattle.checkout.specs.UnlinkedFiles.{is_gone}
use Rattle.checkout.proofs.UnlinkedLemmas.{marks-push, length_below, below-push, distinct-push, length-push}
use Rattle.checkout.proofs.unlinked_files.UnlinkedFiles.add.Goals as goal

pub push_reserved-requires : goal.push_reserved-requires
push_reserved-requires c =
    let i = c.self.inside in
    let new : list_any (λ f. c.args.file.0 == f) i.files.items ≡ false = ap (λ g. is_gone g c.args.file.0) c.self.view_is ∙ c.requires.new in
    let room = ap (λ g. g.room) c.self.view_is in
    let within = c.requires.room in
    let below = length_below i.files.items c.args.file.0 new i.marks.room c.self.invariant.0 c.self.invariant.2 (omega (arith, room, within)) in
    omega (arith, below, c.self.invariant.3, c.self.invariant.4)

pub invariant_of-self : goal.invariant_of-self
invariant_of-self c =
    let i = c.self.inside in
    let file = c.args.file.0 in
    let new : list_any (λ f. file == f) i.files.items ≡ false = ap (λ g. is_gone g file) c.self.view_is ∙ c.requires.new in
    let room = ap (λ g. g.room) c.self.view_is in
    let within = c.requires.room in
    let marks = marks-push i.files.items file new i.marks c.set.new.self c.self.invariant.1 c.set.ensures.counts in
    let joined = c.join.ensures.marks (λ q. list_any (λ f. q == f) (i.files.items ++ file ∷ [])) marks in
    let below = below-push i.files.items file new i.marks.room c.self.invariant.2 (omega (arith, room, within)) in
    let same = c.push_reserved.ensures.items in
    let pushed = length-push i.files.items file in
    let len = c.push_reserved.ensures.len in
    let was = c.self.invariant.3 in
    let capacity = c.push_reserved.ensures.capacity in
    let fits = c.self.invariant.4 in
    rw (same, c.join.ensures.room, c.set.ensures.room) (distinct-push i.files.items file new c.self.invariant.0, joined, below, omega (arith, len, was, pushed), omega (arith, capacity, fits))
