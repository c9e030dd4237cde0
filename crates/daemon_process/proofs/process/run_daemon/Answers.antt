-- A daemon that ends before it begins printed nothing.
use Rattle.std.proofs.Common.{ℕ, List, Option, subst, sym}
use Rattle.daemon_process.specs.Ending.{PrintsServing}
use Rattle.daemon_process.proofs.LinesPrinted.{serving-none}
use Rattle.daemon_process.proofs.process.run_daemon.Goals as goal

pub returns-in-Err : goal.returns-in-Err
returns-in-Err g c =
    let old = g.W.Write.contents c.args.streams.out in
    record {
      runs = c.end_run.ensures.runs c.args.options.now.until_closed old tt
          (subst (λ (known : Option (List ℕ)). PrintsServing old known) (sym c.write_behind.ensures.same) (serving-none old));
    }

pub returns-in-Err-open_contents : goal.returns-in-Err-open_contents
returns-in-Err-open_contents g c =
    let old = g.W.Write.contents c.args.streams.out in
    record {
      runs = c.end_run-in-Err-open_contents.ensures.runs c.args.options.now.until_closed old tt
          (subst (λ (known : Option (List ℕ)). PrintsServing old known) (sym c.write_behind.ensures.same) (serving-none old));
    }

pub returns-in-Err-close_with_input : goal.returns-in-Err-close_with_input
returns-in-Err-close_with_input g c =
    let old = g.W.Write.contents c.args.streams.out in
    record {
      runs = c.end_run-in-Err-close_with_input.ensures.runs c.args.options.now.until_closed old tt
          (subst (λ (known : Option (List ℕ)). PrintsServing old known) (sym c.write_behind.ensures.same) (serving-none old));
    }

pub returns-in_default-new : goal.returns-in_default-new
returns-in_default-new g c =
    let old = g.W.Write.contents c.args.streams.out in
    record {
      runs = c.end_run-in_default-new.ensures.runs c.args.options.now.until_closed old tt
          (subst (λ (known : Option (List ℕ)). PrintsServing old known) (sym c.write_behind.ensures.same) (serving-none old));
    }
