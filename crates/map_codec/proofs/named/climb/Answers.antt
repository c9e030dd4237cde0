-- The way is climbed from the entry of one place to that of another.
use Rattle.std.proofs.Common.{All, ◌<◌, ℕ, length, refl, arith}
use Rattle.std.proofs.lemmas.List.Elements.{All-push}
use Rattle.entry_table.specs.Entries.{is_root}
use Rattle.map_codec.proofs.WayLaws.{above_inside, in_root, marked_here, no_way_on, step_from, way_above, way_longer}
use Rattle.map_codec.proofs.named.climb.Goals as goal

pub returns-then-len-entries-clause-way : goal.returns-then-len-entries-clause-way
returns-then-len-entries-clause-way c =
    no_way_on c.args.entries.now c.requires.rise c.loop-at.at c.loop-at.invariant.here c.index-entries-at.result c.index-entries-at.is
    c.loop-at.way.items _ c.in-Linked.parent c.in-Linked.name c.loop-at.invariant.climbs c.in-Linked.is (let l = c.len.ensures in omega arith)

pub returns-in_default-directories-clause-way : goal.returns-in_default-directories-clause-way
returns-in_default-directories-clause-way c = λ tree are.
    let es = c.args.entries.now in
    let step = step_from es c.requires.rise c.loop-at.at c.loop-at.invariant.here c.index-entries-at.result c.index-entries-at.is c.in-Linked.parent c.in-Linked.name c.in-Linked.is in
    let one = in_root es c.requires.rise c.loop-at.at c.loop-at.invariant.here c.index-entries-at.result c.index-entries-at.is
    c.args.directories.now c.requires.directories c.in-Linked.parent c.in-Linked.name c.in-Linked.is c.in_default-directories.not-Some in
    record {
      top = c.in-Linked.parent.0;
      climbs = rw c.push_reserved.ensures.items (way_longer es c.loop-at.way.items _ c.loop-at.at c.in-Linked.parent.0 c.loop-at.invariant.climbs step);
      inside = rw c.push_reserved.ensures.items (All-push (λ (i : ℕ). i < length es) c.loop-at.way.items c.loop-at.at c.loop-at.invariant.inside c.loop-at.invariant.here);
      names = is_root c.in-Linked.parent.0 (record { 0 = 1 }) one refl;
    }

pub loop-at-preserved : goal.loop-at-preserved
loop-at-preserved c =
    let es = c.args.entries.now in
    record {
      here = above_inside es c.requires.rise c.loop-at.at c.loop-at.invariant.here c.index-entries-at.result c.index-entries-at.is
          c.args.directories.now c.requires.directories c.in-Linked.parent c.in-Linked.name c.in-Linked.is c.in-Some-directories.above c.in-Some-directories.is;
      climbs = rw c.push_reserved.ensures.items (way_above es c.requires.rise c.loop-at.at c.loop-at.invariant.here c.index-entries-at.result c.index-entries-at.is
          c.args.directories.now c.requires.directories c.in-Linked.parent c.in-Linked.name c.in-Linked.is
          c.loop-at.way.items _ c.in-Some-directories.above c.in-Some-directories.is c.loop-at.invariant.climbs);
      inside = rw c.push_reserved.ensures.items (All-push (λ (i : ℕ). i < length es) c.loop-at.way.items c.loop-at.at c.loop-at.invariant.inside c.loop-at.invariant.here);
      long = let l = c.len.ensures in omega (arith, c.push_reserved.ensures.len, c.loop-at.invariant.long, c.if-len-entries.false);
      capacity = Rattle.std.proofs.Common.◌∙◌ c.push_reserved.ensures.capacity c.loop-at.invariant.capacity;
    }

pub returns-in-Unlinked-clause-way : goal.returns-in-Unlinked-clause-way
returns-in-Unlinked-clause-way c = λ tree are. record {
  top = _;
  climbs = c.loop-at.invariant.climbs;
  inside = c.loop-at.invariant.inside;
  names = marked_here c.args.entries.now c.requires.rise c.loop-at.at c.loop-at.invariant.here c.index-entries-at.result c.index-entries-at.is tree c.in-Unlinked.file c.in-Unlinked.is;
}
