-- Each write follows those that were refused.
use Rattle.std.proofs.Common.{sym, ◌∙◌, arith, List, Option, ℕ}
use Rattle.broker_process.specs.declared.reply_write.Written.{Written}
use Rattle.broker_process.specs.declared.reply_write.Written.TheVariants.{Refused}
use Rattle.broker_process.proofs.WritingSteps.{none_left, write_before, write_last}
use Rattle.broker_process.proofs.reply_write.write_reply.Goals as goal

pub returns-in-Some : goal.returns-in-Some
returns-in-Some g c = record {
  writes = c.loop-refusals.invariant c.in-Some.written _ (write_last c.loop-refusals.refusals c.args.texts.now.reply.now c.args.texts.now.error.now c.next_text.result.now c.give-given.result c.in-Some.written _ _
      (omega (arith, c.loop-refusals-test.true)) c.next_text.ensures.text c.give-given.ensures.gives (sym c.written_by.ensures.written ∙ c.in-Some.is));
}

pub loop-refusals-preserved : goal.loop-refusals-preserved
loop-refusals-preserved g c =
    λ (result : Written). λ (new : Option (List ℕ)). λ rest.
    c.loop-refusals.invariant result new (write_before c.loop-refusals.refusals c.args.texts.now.reply.now c.args.texts.now.error.now c.next_text.result.now c.give-given.result result _ _ new
    (omega (arith, c.loop-refusals-test.true)) c.next_text.ensures.text c.give-given.ensures.gives (sym c.written_by.ensures.written ∙ c.in_default.is) rest)

pub returns : goal.returns
returns g c = record {
  writes = c.loop-refusals.invariant Refused _ (none_left c.loop-refusals.refusals c.args.texts.now.reply.now c.args.texts.now.error.now _
      (omega (arith, c.loop-refusals-test.false, c.loop-refusals.auto.refusals-end)));
}
