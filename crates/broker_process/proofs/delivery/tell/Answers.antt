use Rattle.std.proofs.Common.{◌∙◌}
use Rattle.broker_process.proofs.Telling.{tells_lack, tells_whole}
use Rattle.broker_process.proofs.delivery.tell.Goals as goal

pub returns-in-Ok : goal.returns-in-Ok
returns-in-Ok g c = record {
  tells = tells_whole c.args.told.kept c.args.told.reply c.args.own.now _ _ _ _ _ (c.as_slice.ensures.bytes ∙ c.in-Ok.ensures.text)
      (c.as_slice-in-Ok.ensures.bytes ∙ c.tell_error-error.ensures.text) c.write_reply.ensures.writes;
}

pub returns-in-Err : goal.returns-in-Err
returns-in-Err g c = record {
  tells = tells_lack c.args.told.kept c.args.told.reply c.args.own.now _ _ _ _ _ c.in-Err.ensures.lacks
      (c.as_slice-in-Err.ensures.bytes ∙ c.tell_error-text.ensures.text) (c.as_slice-in-Err-2.ensures.bytes ∙ c.tell_error-error.ensures.text)
      c.write_reply-in-Err.ensures.writes;
}
