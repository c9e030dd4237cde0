-- What the parts of the overlay list is what tells the tree from its manifest's.
use Rattle.std.proofs.Common.{◌++◌, map, refl, ap, sym, subst, ◌∙◌}
use Rattle.std.proofs.lemmas.List.Sorted.{IsPermutation-append_left}
use Rattle.std.specs.FinMap.{entries}
use Rattle.std.specs.List.Sorted.{IsPermutation}
use Rattle.checkout.specs.Changes.{AreLinkChanges, AreMade}
use Rattle.checkout.specs.UnlinkedFiles.{is_gone}
use Rattle.checkout.specs.Listing.{gone_changes, listed_file, HaveLines}
use Rattle.manifest.specs.Links.{added_change}
use Rattle.manifest.specs.Tally.{count_of}
use Rattle.manifest.specs.Tree.{IsTree, tree_of}
use Rattle.checkout.proofs.ChangesLaws.{changed_names, one_changes, one_tree}
use Rattle.checkout.proofs.UnlinkedListing.{all_gone, all_have_lines}
use Rattle.checkout.proofs.LinkPlaces.{AreLinkChanges-over}
use Rattle.checkout.proofs.MadeChanges.{AreMade-over}
use Rattle.manifest.proofs.ManifestIsTree.{tree_of-IsTree}
use Rattle.checkout.proofs.tree.Tree.changes.Goals as goal

pub list-requires-3 : goal.list-requires-3
list-requires-3 c =
    let i = c.self.inside in
    record { lines = subst (λ ls. HaveLines ls i.gone.files) (sym c.lines.ensures.lines) (all_have_lines i.manifest i.gone c.self.invariant.0.parts.gone_are_lines) }

pub returns-clause-changes : goal.returns-clause-changes
returns-clause-changes c =
    let i = c.self.inside in
    let o = c.self.invariant.0 in
    let made = c.of.ensures.files ∙ c.in_ok-made.ensures in
    let added = map added_change (entries i.added) in
    let gone = gone_changes i.added i.manifest.lines i.gone.files in
    let listed = c.in_ok-list-2.ensures.listed ∙ ap (λ ls. c.list-2.new.links.items ++ gone_changes i.added ls i.gone.files) c.lines.ensures.lines in
    let are_added = subst (λ xs. IsPermutation xs c.list-2.new.links.items) (ap (λ xs. xs ++ added) c.new-links.ensures.items) c.in_ok-list.ensures in
    let listed_all = subst (λ xs. IsPermutation (added ++ gone) xs) (sym listed) (IsPermutation-append_left gone added c.list-2.new.links.items are_added) in
    let moved = subst (λ xs. IsPermutation xs c.sort.new.links.items) c.leave_out_same.ensures c.sort.ensures.permutation in
    let links = AreLinkChanges-over i.manifest i.made i.added (is_gone i.gone) (count_of i.lost) i.next_file o.parts i.gone.files c.list-3.new.links.items c.sort.new.links.items (λ q. refl) c.in_ok-list-2.ensures.distinct (all_gone i.gone) listed_all moved c.sort.ensures.sorted in
    record {
      made = subst (AreMade c.args.self.now) (sym made) (subst (λ t. AreMade t (map listed_file (entries i.made))) c.self.view_is (AreMade-over i.manifest i.made i.added (is_gone i.gone) (count_of i.lost) i.next_file o.parts));
      links = subst (AreLinkChanges c.args.self.now) (sym c.of-2.ensures.links) (subst (λ t. AreLinkChanges t c.sort.new.links.items) c.self.view_is links);
      next = c.next_file.ensures.next_file;
    }

pub returns-clause-of_no_other : goal.returns-clause-of_no_other
returns-clause-of_no_other c other tree one too =
    one_tree c.args.self.now other _ c.next_file.ensures.is_tree tree one (returns-clause-changes c) too

pub returns-clause-no_others : goal.returns-clause-no_others
returns-clause-no_others c others too = one_changes c.args.self.now _ others (returns-clause-changes c) too

pub returns-clause-names : goal.returns-clause-names
returns-clause-names c =
    let first = subst (λ t. IsTree (tree_of t.manifest)) c.self.view_is (tree_of-IsTree c.self.inside.manifest c.self.invariant.0.parts.is_manifest) in
    changed_names c.args.self.now _ c.next_file.ensures.is_tree first (returns-clause-changes c)
