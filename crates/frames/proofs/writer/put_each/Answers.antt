use Rattle.std.proofs.Common.{◌<◌, arith, get_or, sym, subst}
use Rattle.std.proofs.lemmas.Grind.{get_or_default_zero}
use Rattle.std.proofs.lemmas.List.Folds.{length-flat_map-take}
use Rattle.frames.specs.FrameText.{version_text}
use Rattle.byte_codec.proofs.WriteLemmas.{len_two}
use Rattle.frames.proofs.writer.put_each.Goals as goal

pub put_u16-requires : goal.put_u16-requires
put_u16-requires c =
    let xs = c.args.versions.now in
    let i = c.loop-version.version-index in
    record { room = omega (arith, length-flat_map-take version_text xs i 0 c.loop-version-test.true, len_two (get_or xs i 0), c.requires.room, c.loop-version.invariant.len, c.loop-version.invariant.capacity) }

pub returns-clause-fits : goal.returns-clause-fits
returns-clause-fits c = λ k d lt.
    let xs = c.args.versions.now in
    let low : get_or xs k 0 < 65536 = omega (arith, c.type_inv.versions k) in
    subst (λ v. v < 65536) (sym (get_or_default_zero xs k d lt)) low
