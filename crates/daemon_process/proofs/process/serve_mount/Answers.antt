-- A daemon that gets no seat printed nothing, and ends by the end of its standard input only as its options say.
use Rattle.daemon_process.proofs.LinesPrinted.{may_end, serving-none}
use Rattle.daemon_process.proofs.process.serve_mount.Goals as goal

pub returns-in-Err : goal.returns-in-Err
returns-in-Err g c = record {
  prints = serving-none _;
  may_end = may_end c.args.options.now.until_closed _ c.ending_before-ending.ensures.closes;
}
