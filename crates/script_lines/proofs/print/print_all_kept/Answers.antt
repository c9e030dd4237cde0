use Rattle.std.proofs.Common.{sym, ◌∙◌, arith}
use Rattle.script_lines.proofs.NumberLemmas.{above-all, next-is, none-above, no_entry, kept-is}
use Rattle.script_lines.proofs.PrintLemmas.{kept_lines_same, kept_lines_none, kept_lines_more}
use Rattle.script_lines.proofs.print.print_all_kept.Goals as goal

pub loop-number-init : goal.loop-number-init
loop-number-init g c = record {
  lines = λ are end more. kept_lines_same c.args.world.now c.args.daemon _ c.args.map.now.entries _ end (above-all 2 c.args.map.now.next 1 c.args.map.now.entries are (omega arith)) more;
  gathered = c.add_all.ensures.gathered;
}

pub unreachable-requires : goal.unreachable-requires
unreachable-requires g c =
    let (kept, i) = next-is 2 c.args.map.now.next c.loop-number.last.0 c.args.map.now.entries c.in-Some.number c.after.ensures.numbers (sym c.after.ensures.after ∙ c.in-Some.is) in
    no_entry c.args.map.now.entries c.in-Some.number.0 kept c.entry.result i.entry c.entry.ensures.place c.in_default-entry.is

pub loop-number-smaller : goal.loop-number-smaller
loop-number-smaller g c =
    let (kept, i) = next-is 2 c.args.map.now.next c.loop-number.last.0 c.args.map.now.entries c.in-Some.number c.after.ensures.numbers (sym c.after.ensures.after ∙ c.in-Some.is) in
    omega (arith, i.higher, i.below)

pub loop-number-preserved : goal.loop-number-preserved
loop-number-preserved g c = record {
  lines = λ are end more.
      let (kept, i) = next-is 2 c.args.map.now.next c.loop-number.last.0 c.args.map.now.entries c.in-Some.number are (sym c.after.ensures.after ∙ c.in-Some.is) in
      let is = kept-is c.args.map.now.next c.loop-number.last.0 c.args.map.now.entries c.in-Some.number kept c.entry.result c.in-Some-entry.place c.count-count.result i c.entry.ensures.place c.in-Some-entry.is c.count-count.ensures.count in
      c.loop-number.invariant.lines are end (kept_lines_more c.args.world.now c.args.daemon kept _ _ _ _ end i.goes_on (c.in_ok-print_kept.ensures kept is) more);
  gathered = c.of-counts.ensures.gathered;
}

pub returns : goal.returns
returns g c =
    let none = none-above c.loop-number.last.0 c.args.map.now.entries (sym c.after.ensures.after ∙ c.in_default.is) in
    c.loop-number.invariant.lines c.after.ensures.numbers _ (kept_lines_none c.args.world.now c.args.daemon _ _ none)
