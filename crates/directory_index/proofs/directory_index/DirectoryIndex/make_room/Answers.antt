-- The number that was inserted last goes into the maps and to its directory.
use Rattle.directory_index.specs.declared.directory_index.DirectoryIndex.{DirectoryIndex}
use Rattle.directory_index.proofs.Indexing.{index-moved}
use Rattle.directory_index.proofs.directory_index.DirectoryIndex.make_room.Goals as goal

pub returns-clause-same : goal.returns-clause-same
returns-clause-same g c at is known =
    let old : DirectoryIndex = c.args.self.now in
    let new : DirectoryIndex = record { places = c.make_room.new.self; children = c.add.new.self } in
    index-moved at old new is c.in-Some.link c.in-Some.is (c.in-Ok.ensures.moved at is.below is.places known) c.in_ok-add.ensures.added
