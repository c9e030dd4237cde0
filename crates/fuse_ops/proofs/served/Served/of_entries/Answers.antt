-- What fits together is what a map may have, and the files that entries name are remembered.
use Rattle.std.proofs.Common.{◌≡◌, max, rules}
use Rattle.inode_map.specs.InodeMap.{map_of}
use Rattle.fuse_ops.specs.Served.{served_of}
use Rattle.fuse_ops.proofs.FromEntries.{files-remembered, sound-entries}
use Rattle.fuse_ops.proofs.served.Served.of_entries.Goals as goal

pub of_entries-requires-clause-entries : goal.of_entries-requires-clause-entries
of_entries-requires-clause-entries c =
    sound-entries (served_of c.args.named.entries.items c.args.named.files.items c.args.next c.args.limit c.args.tree) c.requires.sound

pub invariant_of-result : goal.invariant_of-result
invariant_of-result c =
    let es = c.args.named.entries.items in
    let fs = c.args.named.files.items in
    let made : c.in_ok-map.map ≡ map_of es fs c.args.next (max c.args.limit 1) = search rules in
    rw made (c.requires.tree, c.requires.sound, files-remembered c.args.tree es fs c.args.next c.args.limit c.requires.files, λ n attr e. absurd (let none : ⊥ = cc in none))
