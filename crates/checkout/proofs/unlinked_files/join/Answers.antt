-- Each step sets one mark, where both halves of its block are gone.
use Rattle.std.proofs.Common.{◌+◌, ◌-◌, ◌%◌, ◌≤◌, ap, ◌∙◌, arith}
use Rattle.manifest.specs.Tally.{count_of}
use Rattle.checkout.proofs.JoinedMarks.{AreMarks-joined}
use Rattle.checkout.proofs.unlinked_files.join.Goals as goal

pub loop-half-preserved : goal.loop-half-preserved
loop-half-preserved c =
    let old = c.loop-half.marks in
    let half = c.loop-half.half in
    let first = c.args.file - c.args.file % c.from-in-loop-half.result in
    let second = first + c.from-in-loop-half-2.result in
    let some = c.loop-half.invariant.half in
    let at_first : half ≤ count_of old first = let is = c.count.ensures in let least = c.if-count-half.false in omega (arith, is, least) in
    let at_second : half ≤ count_of old second = let is = c.count-else-count-half.ensures in let least = c.if-count-half-2.false in omega (arith, is, least) in
    record {
      half = omega (arith, some);
      room = c.set.ensures.room ∙ c.loop-half.invariant.room;
      marks = λ gone are. AreMarks-joined gone old c.set.new.self first second half (c.loop-half.invariant.marks gone are) some (ap (λ n. first + n) c.from-in-loop-half-2.ensures) at_first at_second c.set.ensures.counts;
    }
