-- The entry that stands near, or the one that a search finds.
use Rattle.std.proofs.Common.{ap, ◌∙◌, rules}
use Rattle.std.proofs.lemmas.List.Sorted.{answers_always}
use Rattle.entry_table.specs.declared.kept.Kept.{Kept}
use Rattle.map_codec.proofs.DirectoryLaws.{place_read}
use Rattle.map_codec.proofs.PlaceLaws.{searched_place}
use Rattle.map_codec.proofs.directories.place_of.Goals as goal

pub returns-then-entries-near : goal.returns-then-entries-near
returns-then-entries-near c =
    let number = ap (λ (kept : Kept). kept.number.0) c.index-entries-near.is ∙ c.if-entries-near.true in
    record { place = place_read c.args.entries.now c.args.number.0 c.args.near c.index-entries-near.result c.requires.rise c.if-near-entries.true c.index-entries-near.is number }

pub returns : goal.returns
returns c =
    let facts = c.binary_search_by_key.ensures in
    record {
      place = rw c.ok.ensures.value (searched_place c.args.entries.now c.args.number.0 _ c.requires.rise facts.bound (facts.position (λ kept. kept.number.0) (answers_always _ _ _ (λ f a r g called. search rules))));
    }
