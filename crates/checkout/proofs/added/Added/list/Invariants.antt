-- What is listed and what is left are what was listed and all links.
use Rattle.std.proofs.Common.{◌≡◌, ◌++◌, map}
use Rattle.manifest.specs.Links.{added_change}
use Rattle.checkout.specs.Added.{link_of}
use Rattle.checkout.proofs.added.Added.list.Given as goal

abbrev pub invariant-loop-file : goal.invariant-loop-file
invariant-loop-file l =
    l.links.items ++ map added_change (map link_of l.file-iterator) ≡ l.initial.links.items ++ map added_change (map link_of l.initial.file-iterator)
