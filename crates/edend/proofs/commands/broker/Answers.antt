-- What the broker printed before it failed, and which fault is told.
use Rattle.std.proofs.Common.{ℕ, List, Result, inr, subst}
use Rattle.broker_process.specs.Playing.{RunsBroker}
use Rattle.broker_process.specs.declared.fault.BrokerFault.{BrokerFault}
use Rattle.broker_script.specs.Reading.{IsRefusal, Says}
use Rattle.script_lines.specs.declared.broker_line.BrokerLine.{BrokerLine}
use Rattle.edend.proofs.FailedCommands.{broker-refused, broker-unread}
use Rattle.edend.proofs.commands.broker.Goals as goal

pub returns-in-Err : goal.returns-in-Err
returns-in-Err g c =
    broker-unread (g.S.Sources.input_bytes c.args.sources.now) (g.S.Sources.file_bytes c.args.sources.now) c.args.words.now c.of_run.result c.in-Err.error.fault c.fails.result.ended (g.W.Write.contents c.args.out) (g.W.Write.contents c.fails.result.out) c.fails.ensures.ended c.fails.ensures.same c.of_run.ensures.fault c.in-Err.ensures.refused c.in-Err.ensures.too_long (c.of_run.ensures.name c.in-Err.ensures.caused)

pub returns-in-Err-read_broker_script : goal.returns-in-Err-read_broker_script
returns-in-Err-read_broker_script g c =
    let refused = c.in-Err-read_broker_script.fault in
    let why = subst (λ (text : List ℕ). IsRefusal text refused) c.as_slice.ensures.value c.in-Err-read_broker_script.ensures.refused in
    broker-refused (g.S.Sources.input_bytes c.args.sources.now) (g.S.Sources.file_bytes c.args.sources.now) c.args.words.now c.failure_of_script.result c.in-Ok.text.items refused c.fails-in-Err-read_broker_script.result.ended (g.W.Write.contents c.args.out) (g.W.Write.contents c.fails-in-Err-read_broker_script.result.out)
    c.fails-in-Err-read_broker_script.ensures.ended c.fails-in-Err-read_broker_script.ensures.same c.failure_of_script.ensures.names c.in-Ok.ensures.whole why c.failure_of_script.ensures.told

pub returns : goal.returns
returns g c =
    let old = g.W.Write.contents c.args.out in
    let new = g.W.Write.contents c.run_broker-run.result.out in
    let script = c.in-Ok-read_broker_script.script.items in
    let says = subst (λ (text : List ℕ). Says text script) c.as_slice.ensures.value c.in-Ok-read_broker_script.ensures.says in
    let played = subst (λ (lines : List BrokerLine). RunsBroker lines c.run_broker-run.result.ended old new) c.as_slice-2.ensures.value c.run_broker-run.ensures.runs in
    let ran = subst (λ (ended : Result (Unit {0}) BrokerFault). RunsBroker script ended old new) c.in-Err-ended.is played in
    record {
      names = c.failure_of_broker.ensures.names;
      told = inr (inr (record {
        script = c.in-Ok.text.items;
        is = c.in-Ok.ensures.whole;
        holds = record { script = script; says = says; fault = c.in-Err-ended.fault; ran = ran; is_told = c.failure_of_broker.ensures.told };
      }));
      first = c.failure_of_broker.ensures.first script old new ran;
    }
