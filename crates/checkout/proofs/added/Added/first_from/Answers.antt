-- What the index has for a directory is the first file of its links.
use Rattle.checkout.specs.Added.{links_of, standing_of}
use Rattle.manifest.proofs.FirstFile.{first-file}
use Rattle.checkout.proofs.added.Added.first_from.Goals as goal

pub returns : goal.returns
returns c =
    let links = links_of c.self.inside.places.files.entries in
    rw (← c.self.view_is) (first-file links c.args.dir c.args.least.0 c.first_from.result c.map.result (c.first_from.ensures.first (standing_of links) c.self.invariant.is_index) c.map.ensures.cases)
