-- The way is gone down again by its names.
use Rattle.std.proofs.Common.{◌<◌, ℕ, length, ap, sym, ◌∙◌}
use Rattle.manifest.specs.Tree.{child_of}
use Rattle.entry_table.proofs.Climbing.{step-down, no-child-no_file}
use Rattle.map_codec.specs.Named.{number_at}
use Rattle.map_codec.proofs.DirectoryLaws.{place_itself}
use Rattle.map_codec.proofs.NamedLaws.{one_found}
use Rattle.map_codec.proofs.WayLaws.{name_here, no_mark_here, numbers, place_last, places_before, way_shorter}
use Rattle.map_codec.proofs.named.locate.Goals as goal

pub loop-at-init : goal.loop-at-init
loop-at-init c =
    let way = c.in_ok-file.ensures.way c.args.tree.now (rw c.as_slice.ensures.value c.requires.known) in
    record { top = way.top; climbs = way.climbs; inside = way.inside; names = way.names; known = c.requires.known; capacity = c.in_ok-file.ensures.capacity }

pub unreachable-requires : goal.unreachable-requires
unreachable-requires c =
    let es = c.args.entries.now in
    let split = way_shorter es c.pop.new.self.items (number_at es c.args.place).0 c.in-Some.at c.loop-at.invariant.top (rw c.in-Some.ensures.items at c.loop-at.invariant.climbs) in
    let there = place_last (λ (i : ℕ). i < length es) c.pop.new.self.items c.in-Some.at (rw c.in-Some.ensures.items at c.loop-at.invariant.inside) in
    no_mark_here es c.requires.rise c.in-Some.at there c.index-entries-at.result c.index-entries-at.is c.loop-at.invariant.top c.in_default-place.field-0 split.1 c.in_default-place.is

pub returns-in_err-file-2-clause-file : goal.returns-in_err-file-2-clause-file
returns-in_err-file-2-clause-file c =
    let es = c.args.entries.now in
    let split = way_shorter es c.pop.new.self.items (number_at es c.args.place).0 c.in-Some.at c.loop-at.invariant.top (rw c.in-Some.ensures.items at c.loop-at.invariant.climbs) in
    let there = place_last (λ (i : ℕ). i < length es) c.pop.new.self.items c.in-Some.at (rw c.in-Some.ensures.items at c.loop-at.invariant.inside) in
    let name = name_here es c.requires.rise c.in-Some.at there c.index-entries-at.result c.index-entries-at.is c.loop-at.invariant.top split.1 c.in-Linked.parent c.in-Linked.name c.in-Linked.is in
    rw c.from_residual-in_err-file-2.ensures (λ file names. no-child-no_file c.args.tree.now es (numbers es c.pop.new.self.items) (number_at es c.args.place).0 (number_at es c.in-Some.at).0 c.loop-at.invariant.top
    c.loop-at.file file split.0 split.1 c.loop-at.invariant.names (ap (λ m. child_of c.args.tree.now c.loop-at.file m) name ∙ sym c.in_err-file-2.ensures.child) names)

pub loop-at-preserved : goal.loop-at-preserved
loop-at-preserved c =
    let es = c.args.entries.now in
    let split = way_shorter es c.pop.new.self.items (number_at es c.args.place).0 c.in-Some.at c.loop-at.invariant.top (rw c.in-Some.ensures.items at c.loop-at.invariant.climbs) in
    let there = place_last (λ (i : ℕ). i < length es) c.pop.new.self.items c.in-Some.at (rw c.in-Some.ensures.items at c.loop-at.invariant.inside) in
    let name = name_here es c.requires.rise c.in-Some.at there c.index-entries-at.result c.index-entries-at.is c.loop-at.invariant.top split.1 c.in-Linked.parent c.in-Linked.name c.in-Linked.is in
    let names = step-down c.args.tree.now es (number_at es c.in-Some.at).0 c.loop-at.invariant.top c.loop-at.file c.in_ok-file-2.file split.1 c.loop-at.invariant.names
    (ap (λ m. child_of c.args.tree.now c.loop-at.file m) name ∙ sym c.in_ok-file-2.ensures.child) in
    record {
      top = (number_at es c.in-Some.at).0;
      climbs = split.0;
      inside = places_before (λ (i : ℕ). i < length es) c.pop.new.self.items c.in-Some.at (rw c.in-Some.ensures.items at c.loop-at.invariant.inside);
      names = names;
      known = one_found c.args.tree.now es c.loop-at.found.items c.loop-at.invariant.known (number_at es c.in-Some.at).0 c.in-Some.at c.in_ok-file-2.file (place_itself es c.in-Some.at c.requires.rise there) names;
      capacity = c.in-Some.ensures.capacity ∙ c.loop-at.invariant.capacity;
    }
