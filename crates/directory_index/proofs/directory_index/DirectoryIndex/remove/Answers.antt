-- The number is taken out of the maps and out of its directory.
use Rattle.std.proofs.Common.{sym, ◌∙◌}
use Rattle.directory_index.specs.declared.directory_index.DirectoryIndex.{DirectoryIndex}
use Rattle.directory_index.proofs.Indexing.{index-removed}
use Rattle.directory_index.proofs.directory_index.DirectoryIndex.remove.Goals as goal

pub returns-then-remove-clause-removed : goal.returns-then-remove-clause-removed
returns-then-remove-clause-removed c at is stood =
    let old : DirectoryIndex = c.args.self.now in
    let new : DirectoryIndex = record { places = c.remove.new.self; children = c.remove-then-remove.new.self } in
    index-removed at old new c.args.dir c.args.name.now c.args.number is (sym c.remove.ensures.had ∙ c.if-remove.true) stood
    (c.remove.ensures.removed at is.below is.places stood c.if-remove.true) c.remove-then-remove.ensures.removed
