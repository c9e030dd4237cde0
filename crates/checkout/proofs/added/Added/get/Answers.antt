-- What the index finds is the file of the link. No name is there where no link stands in the directory.
use Rattle.std.proofs.Common.{ap, sym, ◌∙◌}
use Rattle.std.specs.FinMap.{get}
use Rattle.std.specs.Option.{option_map}
use Rattle.checkout.specs.Added.{links_of}
use Rattle.checkout.proofs.AddedLinks.{found-link, no-link-in}
use Rattle.checkout.proofs.AddedPlaces.{file_of}
use Rattle.checkout.proofs.added.Added.get.Goals as goal

pub returns-then-not-has_links : goal.returns-then-not-has_links
returns-then-not-has_links c = sym (no-link-in c.args.self.now c.args.dir.0 (sym c.if-not-has_links.ensures) c.args.name.now)

pub returns-in_err-file : goal.returns-in_err-file
returns-in_err-file c =
    let i = c.self.inside in
    c.from_residual.ensures ∙ ap (option_map file_of) (sym c.in_err-file.was)
    ∙ found-link (links_of i.places.files.entries) i.places i.index c.self.invariant c.args.dir.0 c.bytes.result.now c.args.name.now c.get.result c.bytes.ensures.bytes c.get.ensures.number
    ∙ ap (λ m. get m (c.args.dir.0, c.args.name.now)) c.self.view_is

pub returns : goal.returns
returns c =
    let i = c.self.inside in
    ap (option_map file_of) (sym c.in_ok-file.was)
    ∙ found-link (links_of i.places.files.entries) i.places i.index c.self.invariant c.args.dir.0 c.bytes.result.now c.args.name.now c.get.result c.bytes.ensures.bytes c.get.ensures.number
    ∙ ap (λ m. get m (c.args.dir.0, c.args.name.now)) c.self.view_is
