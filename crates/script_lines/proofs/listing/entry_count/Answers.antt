use Rattle.std.proofs.Common.{◌≡◌, ◌++◌, Ok, Some, rules}
use Rattle.fuse_wire.specs.DirectoryEntries.{entry_text, next_entry}
use Rattle.script_lines.specs.Listed.{listing_of}
use Rattle.script_lines.proofs.ListedLemmas.{first_and_rest, one_counted, fewer}
use Rattle.script_lines.proofs.listing.entry_count.Goals as goal

pub loop-entry-preserved : goal.loop-entry-preserved
loop-entry-preserved c =
    let text : c.loop-entry.entries ≡ entry_text c.in-Some._entry ++ c.next_entry.new.self = search rules in
    let read : next_entry c.loop-entry.entries ≡ Ok (Some c.in-Some._entry) = search rules in
    record {
      all = one_counted (listing_of c.loop-entry.entries) (listing_of c.next_entry.new.self) (listing_of c.args.bytes.now) c.in-Some._entry c.loop-entry.count (first_and_rest c.loop-entry.entries c.next_entry.new.self c.in-Some._entry read text) c.loop-entry.invariant.all;
      bytes = fewer c.loop-entry.entries c.next_entry.new.self c.in-Some._entry c.loop-entry.count c.args.bytes.now text c.loop-entry.invariant.bytes;
    }
