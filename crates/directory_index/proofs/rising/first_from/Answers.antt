-- The first number stands where a search ends.
use Rattle.std.proofs.Common.{◌∙◌, Ok, Err, ap, sym}
use Rattle.directory_index.proofs.Gaps.{copied-get, found-first, gap-first}
use Rattle.directory_index.proofs.rising.first_from.Goals.{in-Ok, in-Err}
use Rattle.directory_index.proofs.rising.first_from.Goals as goal

pub returns : goal.returns
returns c = record {
  first =
      let xs = c.args.numbers.now in
      let looked = c.copied.ensures ∙ copied-get xs c.match-binary_search.index c.get.result c.get.ensures.lookup in
      elim c.match-binary_search.branch [
        | in-Ok w ↦ found-first xs c.requires.rising c.args.least c.match-binary_search.index c.binary_search.result (w.in-Ok.is ∙ ap Ok (sym w.index-is)) c.binary_search.ensures.position c.copied.result looked
        | in-Err w ↦ gap-first xs c.requires.rising c.args.least c.match-binary_search.index c.binary_search.result (w.in-Err.is ∙ ap Err (sym w.index-is)) c.binary_search.ensures.position c.copied.result looked
      ];
}
