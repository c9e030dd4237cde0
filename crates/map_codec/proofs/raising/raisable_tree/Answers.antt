-- What stands against the entries is why the image is not restored, since its tree was made.
use Rattle.std.proofs.Common.{◌≡◌, List, IfOk, sym, subst, ◌∙◌}
use Rattle.manifest.specs.Tree.{Tree}
use Rattle.entry_table.specs.Entries.{AreFilesOf}
use Rattle.entry_table.specs.declared.kept.Kept.{Kept}
use Rattle.map_codec.specs.Raising.{fault_in, tree_told, StandsAgainst}
use Rattle.map_codec.proofs.RaiseRefusals.{files-told, refusal-told}
use Rattle.map_codec.proofs.raising.raisable_tree.Goals as goal

pub returns-in-Err-clause-refused : goal.returns-in-Err-clause-refused
returns-in-Err-clause-refused c =
    let m = c.args.manifest.now in
    let image = c.args.image.now in
    let found = c.entry_files-found.result in
    let over = subst (λ (tree : Tree). IfOk found (λ told. StandsAgainst tree c.as_slice.result.now image.next_number (fault_in told))) c.in_ok-tree.ensures.tree c.entry_files-found.ensures.fault in
    let against = subst (λ (es : List Kept). IfOk found (λ told. StandsAgainst (tree_told m image) es image.next_number (fault_in told))) c.as_slice.ensures.entries over in
    refusal-told m image found c.in-Err.fault c.in_ok-tree.ensures.tells against (sym c.entries_told.ensures ∙ c.in-Err.is)

pub returns-in-Ok-clause-files : goal.returns-in-Ok-clause-files
returns-in-Ok-clause-files c =
    let m = c.args.manifest.now in
    let image = c.args.image.now in
    let found = c.entry_files-found.result in
    let tree = tree_told m image in
    let over = subst (λ (tree : Tree). IfOk found (λ told. StandsAgainst tree c.as_slice.result.now image.next_number (fault_in told))) c.in_ok-tree.ensures.tree c.entry_files-found.ensures.fault in
    let against = subst (λ (es : List Kept). IfOk found (λ told. StandsAgainst tree es image.next_number (fault_in told))) c.as_slice.ensures.entries over in
    let of_tree = subst (λ (tree : Tree). IfOk found (λ told. IfOk told (λ files. AreFilesOf tree c.as_slice.result.now files.items))) c.in_ok-tree.ensures.tree c.entry_files-found.ensures.files in
    let are = subst (λ (es : List Kept). IfOk found (λ told. IfOk told (λ files. AreFilesOf tree es files.items))) c.as_slice.ensures.entries of_tree in
    (files-told tree image.entries image.next_number (λ files. AreFilesOf tree image.entries files.items) found c.in-Ok.files against are (sym c.entries_told.ensures ∙ c.in-Ok.is)).1

pub returns-in-Ok-clause-accepted : goal.returns-in-Ok-clause-accepted
returns-in-Ok-clause-accepted c =
    let m = c.args.manifest.now in
    let image = c.args.image.now in
    let found = c.entry_files-found.result in
    let tree = tree_told m image in
    let over = subst (λ (tree : Tree). IfOk found (λ told. StandsAgainst tree c.as_slice.result.now image.next_number (fault_in told))) c.in_ok-tree.ensures.tree c.entry_files-found.ensures.fault in
    let against = subst (λ (es : List Kept). IfOk found (λ told. StandsAgainst tree es image.next_number (fault_in told))) c.as_slice.ensures.entries over in
    let of_tree = subst (λ (tree : Tree). IfOk found (λ told. IfOk told (λ files. AreFilesOf tree c.as_slice.result.now files.items))) c.in_ok-tree.ensures.tree c.entry_files-found.ensures.files in
    let are = subst (λ (es : List Kept). IfOk found (λ told. IfOk told (λ files. AreFilesOf tree es files.items))) c.as_slice.ensures.entries of_tree in
    record {
      tree = c.in_ok-tree.ensures.tells;
      entries = (files-told tree image.entries image.next_number (λ files. AreFilesOf tree image.entries files.items) found c.in-Ok.files against are (sym c.entries_told.ensures ∙ c.in-Ok.is)).0;
    }
