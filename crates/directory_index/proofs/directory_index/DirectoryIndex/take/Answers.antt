-- The number that was found is removed, or there was none.
use Rattle.std.proofs.Common.{sym, ◌∙◌}
use Rattle.directory_index.specs.declared.directory_index.DirectoryIndex.{DirectoryIndex}
use Rattle.directory_index.proofs.Indexing.{index-removed, index-same}
use Rattle.directory_index.proofs.directory_index.DirectoryIndex.take.Goals as goal

pub returns-then-remove_at-clause-removed : goal.returns-then-remove_at-clause-removed
returns-then-remove_at-clause-removed g c at is known =
    let old : DirectoryIndex = c.args.self.now in
    let new : DirectoryIndex = record { places = c.remove_at.new.self; children = c.remove.new.self } in
    let stood = sym (c.in-Some.ensures.number at is.below is.places known) in
    index-removed at old new c.args.dir c.args.name.now c.in-Some.number is (sym c.remove_at.ensures.had ∙ c.if-remove_at.true) stood
    (c.remove_at.ensures.removed at is.below is.places stood c.if-remove_at.true) c.remove.ensures.removed

pub returns-in_default-clause-removed : goal.returns-in_default-clause-removed
returns-in_default-clause-removed g c at is known = index-same at c.args.self.now c.args.dir c.args.name.now (sym (c.in_default.ensures.number at is.below is.places known)) is
