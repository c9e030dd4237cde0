-- What an image tells that may be raised fits together.
use Rattle.std.proofs.Common.{◌≡◌, true, List, None, sym, subst, rules}
use Rattle.std.specs.List.{list_all}
use Rattle.manifest.specs.Tree.{Tree}
use Rattle.entry_table.specs.Entries.{is_of_use, AreFilesOf}
use Rattle.entry_table.specs.declared.kept.Kept.{Kept}
use Rattle.map_image.specs.Fit.{CountsFit, entry_follows, rises}
use Rattle.map_codec.specs.Raising.{AreRaisable}
use Rattle.map_codec.proofs.RaisedLaws.{raised_sound}
use Rattle.map_codec.proofs.raising.raise.Goals as goal

pub of_entries-requires-clause-sound : goal.of_entries-requires-clause-sound
of_entries-requires-clause-sound c =
    let entries = c.entries_of-entries.result.items in
    let next = c.args.image.next_number in
    let same = sym c.entries_of-entries.ensures in
    let rise = subst (λ (es : List Kept). rises entry_follows None es ≡ true) same c.requires.fit.entries_rise in
    let of_use = subst (λ (es : List Kept). list_all (is_of_use es) es ≡ true) same c.requires.fit.each_of_use in
    let counts = subst CountsFit same c.requires.counts in
    let tree = c.in-Ok.named.tree in
    let told = subst (λ (tree : Tree). AreRaisable tree c.args.image.entries next) (sym c.in-Ok.ensures.tree) c.in-Ok.ensures.accepted.entries in
    let may = subst (λ (es : List Kept). AreRaisable tree es next) same told in
    raised_sound tree entries c.in-Ok.named.files.items next c.args.limit rise of_use counts may c.in-Ok.ensures.is_tree

pub of_entries-requires-clause-files : goal.of_entries-requires-clause-files
of_entries-requires-clause-files c =
    let files = c.in-Ok.named.files.items in
    subst (λ (es : List Kept). AreFilesOf c.in-Ok.named.tree es files) (sym c.entries_of-entries.ensures)
    (subst (λ (tree : Tree). AreFilesOf tree c.args.image.entries files) (sym c.in-Ok.ensures.tree) c.in-Ok.ensures.files)

pub returns-clause-raised : goal.returns-clause-raised
returns-clause-raised c = record {
  files = c.in-Ok.named.files.items;
  are = c.in-Ok.ensures.files;
  is = search rules;
}
