use Rattle.std.proofs.Common.{◌≡◌, ◌++◌, Ok, Some, ap, ◌∙◌, rules}
use Rattle.fuse_wire.specs.DirectoryEntries.{entry_text, next_entry}
use Rattle.script_lines.specs.Listed.{listing_of}
use Rattle.script_lines.proofs.ListedLemmas.{first_and_rest, first_of, line_more}
use Rattle.script_lines.proofs.listing.print_entries.Goals as goal

pub loop-entry-init : goal.loop-entry-init
loop-entry-init g c = λ listed is. (listed, ap listing_of c.of-entries.ensures.bytes ∙ is, λ end written. written)

pub loop-entry-preserved : goal.loop-entry-preserved
loop-entry-preserved g c = λ listed is.
    let (left, left_is, more) = c.loop-entry.invariant listed is in
    let text : c.loop-entry.entries ≡ entry_text c.in-Ok-Some.entry ++ c.next_entry.new.self = search rules in
    let read : next_entry c.loop-entry.entries ≡ Ok (Some c.in-Ok-Some.entry) = search rules in
    let first = first_of left (listing_of c.loop-entry.entries) (listing_of c.next_entry.new.self) c.in-Ok-Some.entry left_is (first_and_rest c.loop-entry.entries c.next_entry.new.self c.in-Ok-Some.entry read text) in
    (first.others, first.behind, λ end written. more end (line_more left first.others c.in-Ok-Some.entry _ _ end first.both c.in_ok-print_entry.ensures written))
