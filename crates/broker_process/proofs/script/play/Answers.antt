-- Each line is done after the ones before it.
use Rattle.std.proofs.Common.{◌+◌, ◌∷◌, drop, ap, sym, ◌∙◌, arith}
use Rattle.std.proofs.Math.ListN.{drop_of_length-le}
use Rattle.std.proofs.lemmas.List.{drop_more}
use Rattle.script_lines.specs.declared.broker_line.BrokerLine.{BrokerLine}
use Rattle.broker_process.proofs.PlayingLemmas.{played-all, played-more}
use Rattle.broker_process.proofs.script.play.Goals as goal

pub loop-line-init : goal.loop-line-init
loop-line-init g c = λ new rest. rest

pub loop-line-preserved : goal.loop-line-preserved
loop-line-preserved g c =
    let i = c.loop-line.line-index in
    let left = drop_more c.args.script.now i c.line-item.result (omega arith) ∙ ap (λ (line : BrokerLine). line ∷ drop (i + 1) c.args.script.now) (sym c.line-item.is) in
    played-more c.args.script.now (drop i c.args.script.now) (drop (i + 1) c.args.script.now) c.line-item.result _ _ _ _ c.loop-line.invariant left c.in_ok-play_line.ensures.plays c.flush.ensures.bytes

pub returns : goal.returns
returns g c = record {
  plays = played-all c.args.script.now (drop c.loop-line.line-index c.args.script.now) _ _ _ _ c.loop-line.invariant (drop_of_length-le c.args.script.now (omega arith)) c.in_ok-write_all.ensures.bytes c.flush-2.ensures.bytes;
}
