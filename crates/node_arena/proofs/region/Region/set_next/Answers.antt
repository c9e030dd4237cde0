use Rattle.std.proofs.Common.{refl}
use Rattle.node_arena.specs.Links.{updated}
use Rattle.node_arena.specs.Region.{place_of, next_in, prev_in, held_in, next_of, prev_of, value_of}
use Rattle.node_arena.proofs.Edits.{written, kept, becomes}
use Rattle.node_arena.proofs.region.Region.set_next.Goals as goal

pub returns : goal.returns
returns g c =
    let r = c.args.self.now in let i = place_of r c.args.link in let to = place_of r c.args.to in
    let old = c.node_mut.result.now in let n = record old { next = c.args.to } in
    let was = c.node_mut.ensures.value in let sound = c.requires.0 in
    becomes r i old n was sound (sound.placed i old was).0 c.requires.2 refl (updated (next_of r) i to) (prev_of r) (value_of r)
    (written r i old n was (next_in r) to refl) (kept r i old n was (prev_in r) refl) (kept r i old n was (held_in r) refl)
