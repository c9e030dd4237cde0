use Rattle.std.proofs.Common.{◌≡◌, ◌≤◌, Bool, true, false, refl, sym, ap, ◌∙◌, arith}
use Rattle.std.proofs.lemmas.Bool.Decides.{nat_tests}
use Rattle.std.proofs.lemmas.List.Folds.{list_any_at}
use Rattle.map_image.specs.ImageText.{entry_text, FitsEntry}
use Rattle.map_image.specs.Writing.{is_too_large}
use Rattle.map_image.proofs.Members.{all_put, none_put, put_next, room_for}
use Rattle.map_image.proofs.member_writer.put_each_entry.Goals as goal

pub put_entry-requires-clause-room : goal.put_entry-requires-clause-room
put_entry-requires-clause-room c =
    let room = room_for (entry_text c.args.form.count_width) c.args.entries.now c.loop-kept.kept-index c.kept-item.result c.loop-kept-test.true c.kept-item.is in
    omega (arith, room, c.requires.room, c.loop-kept.invariant.lines.len, c.loop-kept.invariant.lines.capacity)

pub put_entry-requires-clause-count : goal.put_entry-requires-clause-count
put_entry-requires-clause-count c = small (is_too_large c.args.form.greatest_count c.kept-item.result) refl where
  small : (large : Bool) → large ≡ is_too_large c.args.form.greatest_count c.kept-item.result → c.kept-item.result.count ≤ c.args.form.greatest_count
  small true is =
      let any = list_any_at (is_too_large c.args.form.greatest_count) c.args.entries.now c.loop-kept.kept-index c.kept-item.result
      c.loop-kept-test.true (ap (is_too_large c.args.form.greatest_count) (sym c.kept-item.is) ∙ sym is) in
      let few = c.requires.counts in
      let none : ⊥ = cc in absurd none
  small false is = grind (arith, nat_tests)

pub loop-kept-preserved : goal.loop-kept-preserved
loop-kept-preserved c =
    put_next (entry_text c.args.form.count_width) (FitsEntry c.args.form.greatest_count) c.args.out.now c.loop-kept.out c.put_entry.new.out c.args.entries.now c.loop-kept.kept-index c.kept-item.result c.loop-kept-test.true c.kept-item.is c.loop-kept.invariant c.put_entry.ensures.text c.put_entry.ensures.fits

pub loop-kept-init : goal.loop-kept-init
loop-kept-init c = none_put (entry_text c.args.form.count_width) (FitsEntry c.args.form.greatest_count) c.args.out.now

pub returns-clause-text : goal.returns-clause-text
returns-clause-text c = (all_put (entry_text c.args.form.count_width) (FitsEntry c.args.form.greatest_count) c.args.out.now c.loop-kept.out c.args.entries.now c.loop-kept.kept-index c.loop-kept-test.false c.loop-kept.invariant).lines

pub returns-clause-fits : goal.returns-clause-fits
returns-clause-fits c = (all_put (entry_text c.args.form.count_width) (FitsEntry c.args.form.greatest_count) c.args.out.now c.loop-kept.out c.args.entries.now c.loop-kept.kept-index c.loop-kept-test.false c.loop-kept.invariant).fit
