use Rattle.std.proofs.Common.{refl, Some}
use Rattle.node_arena.specs.Links.{updated}
use Rattle.node_arena.specs.Region.{place_of, next_in, prev_in, held_in, next_of, prev_of, value_of}
use Rattle.node_arena.proofs.Edits.{written, kept, becomes}
use Rattle.node_arena.proofs.region.Region.put.Goals as goal

pub returns : goal.returns
returns g c =
    let r = c.args.self.now in let i = place_of r c.args.link in
    let old = c.node_mut.result.now in let n = record old { content = c.put.new.self } in
    let was = c.node_mut.ensures.value in let sound = c.requires.0 in let on = sound.placed i old was in
    becomes r i old n was sound on.0 on.1 c.put.ensures.index (next_of r) (prev_of r) (updated (value_of r) i (Some c.args.value))
    (kept r i old n was (next_in r) refl) (kept r i old n was (prev_in r) refl) (written r i old n was (held_in r) (Some c.args.value) c.put.ensures.filled)
