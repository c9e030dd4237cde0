-- One file after another is found.
use Rattle.std.proofs.Common.{◌≡◌, ◌+◌, [], ◌∷◌, length, length-append, ap, ◌∙◌, arith, rules}
use Rattle.map_codec.proofs.DirectoryLaws.{each_of_none}
use Rattle.map_codec.proofs.NamedLaws.{IsFileAt, next_file_found, none_found}
use Rattle.map_codec.proofs.named.named_files.Goals as goal

pub loop-place-preserved : goal.loop-place-preserved
loop-place-preserved c =
    let files = c.loop-place.files.items in
    let file = c.in-Some.file in
    let longer : length c.push_reserved.new.self.items ≡ length files + 1 = ap length c.push_reserved.ensures.items ∙ length-append files (file ∷ []) in
    record {
      known = c.in-Some.ensures.known;
      way_room = omega (arith, c.in-Some.ensures.capacity, c.loop-place.invariant.way_room);
      files_room = omega (arith, c.push_reserved.ensures.capacity, c.loop-place.invariant.files_room);
      count = omega (arith, c.push_reserved.ensures.len, c.loop-place.invariant.count);
      len = omega (arith, longer, c.loop-place.invariant.len);
      each = rw c.push_reserved.ensures.items (next_file_found c.args.tree.now c.args.entries.now files c.loop-place.place file
          c.loop-place.invariant.len c.in-Some.ensures.file c.loop-place.invariant.each);
    }

pub loop-place-init : goal.loop-place-init
loop-place-init c =
    let files = c.in_ok-files.ensures in
    record {
      known = none_found c.args.tree.now c.args.entries.now c.in_ok-found.found.items (c.in_ok-found.ensures.items_if_clones_equal (search rules));
      way_room = omega (arith, c.in_ok-way.ensures.capacity);
      files_room = omega (arith, files.capacity);
      count = files.len;
      len = ap length files.items;
      each = each_of_none (IsFileAt c.args.tree.now c.args.entries.now) c.args.entries.now c.in_ok-files.files.items files.items;
    }

pub returns : goal.returns
returns c = record {
  len = omega (arith, c.loop-place.invariant.len, c.loop-place-test.false, c.loop-place.auto.place-end);
  each = c.loop-place.invariant.each;
}
