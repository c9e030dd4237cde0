-- Each rule that was found broken, after those that hold.
use Rattle.std.proofs.Common.{◌≡◌, ℕ, true, false, List, Option, Vec, Global, sym, subst, ◌∙◌}
use Rattle.std.specs.Prelude.{MatchOption}
use Rattle.eden_base.specs.declared.number.FileId.{FileId}
use Rattle.manifest.specs.Tree.{Tree}
use Rattle.entry_table.specs.Entries.{AreFilesOf}
use Rattle.entry_table.specs.declared.kept.Kept.{Kept}
use Rattle.map_codec.specs.Named.{AreDirectories, EachNames}
use Rattle.map_codec.specs.Raising.{have_parents}
use Rattle.map_codec.proofs.RaisingLaws.{each_has_file, files_alike, files_apart, found_names, one_mark_wrong, one_names_none}
use Rattle.map_codec.proofs.raising.entry_files.Goals as goal

-- what is said of directories and of files that may have been found, as lists
abbrev Above : List Kept → Option (Vec (Option ℕ) Global) → Type 0
Above es found = MatchOption found (have_parents es ≡ false) (λ places. (have_parents es ≡ true) × AreDirectories es places.items)

abbrev Found : Tree → List Kept → Option (Vec FileId Global) → Type 0
Found tree es found = MatchOption found (EachNames tree es → ⊥) (λ files. AreFilesOf tree es files.items)

pub returns-in-None-2-clause-fault : goal.returns-in-None-2-clause-fault
returns-in-None-2-clause-fault c =
    let parents = (subst (Above c.args.entries.now) c.in-Some.is c.in_ok-directories.ensures).0 in
    let none = subst (Found c.args.tree.now c.args.entries.now) c.in-None-2.is c.in_ok-files.ensures in
    (parents, one_names_none c.args.tree.now c.args.entries.now none)

pub returns-then-not-are_right_marks-clause-fault : goal.returns-then-not-are_right_marks-clause-fault
returns-then-not-are_right_marks-clause-fault c =
    let parents = (subst (Above c.args.entries.now) c.in-Some.is c.in_ok-directories.ensures).0 in
    (parents, one_mark_wrong c.args.tree.now c.args.entries.now (sym c.if-not-are_right_marks.ensures))

pub returns-then-not-are_apart-clause-fault : goal.returns-then-not-are_apart-clause-fault
returns-then-not-are_apart-clause-fault c =
    let parents = (subst (Above c.args.entries.now) c.in-Some.is c.in_ok-directories.ensures).0 in
    let found = subst (Found c.args.tree.now c.args.entries.now) c.in-Some-2.is c.in_ok-files.ensures in
    let have = each_has_file c.args.tree.now c.args.entries.now (found_names c.args.tree.now c.args.entries.now c.in-Some-2.files.items found) (sym c.if-not-are_right_marks.ensures) in
    let two = files_alike c.args.tree.now c.args.entries.now c.in-Some-2.files.items found c.if-not-are_apart.ensures in
    (parents, have, two)

pub returns-then-not-is_next-clause-fault : goal.returns-then-not-is_next-clause-fault
returns-then-not-is_next-clause-fault c =
    let parents = (subst (Above c.args.entries.now) c.in-Some.is c.in_ok-directories.ensures).0 in
    let found = subst (Found c.args.tree.now c.args.entries.now) c.in-Some-2.is c.in_ok-files.ensures in
    let have = each_has_file c.args.tree.now c.args.entries.now (found_names c.args.tree.now c.args.entries.now c.in-Some-2.files.items found) (sym c.if-not-are_right_marks.ensures) in
    let one = files_apart c.args.tree.now c.args.entries.now c.in-Some-2.files.items found c.if-not-are_apart.ensures in
    (parents, have, one, sym c.if-not-is_next.ensures)

pub returns-clause-fault : goal.returns-clause-fault
returns-clause-fault c =
    let parents = (subst (Above c.args.entries.now) c.in-Some.is c.in_ok-directories.ensures).0 in
    let found = subst (Found c.args.tree.now c.args.entries.now) c.in-Some-2.is c.in_ok-files.ensures in
    let have = each_has_file c.args.tree.now c.args.entries.now (found_names c.args.tree.now c.args.entries.now c.in-Some-2.files.items found) (sym c.if-not-are_right_marks.ensures) in
    let one = files_apart c.args.tree.now c.args.entries.now c.in-Some-2.files.items found c.if-not-are_apart.ensures in
    record { parents = parents; files = have; apart = one; next_is = sym c.if-not-is_next.ensures }

pub returns-clause-files : goal.returns-clause-files
returns-clause-files c =
    let found = subst (Found c.args.tree.now c.args.entries.now) c.in-Some-2.is c.in_ok-files.ensures in
    subst (AreFilesOf c.args.tree.now c.args.entries.now) (sym (c.in_ok-in_order.ensures.copy ∙ c.as_slice-2.ensures.value)) found
