use Rattle.std.proofs.Common.{take}
use Rattle.map_image.specs.ImageText.{entry_text, FitsEntry}
use Rattle.map_image.proofs.Members.{ArePut}
use Rattle.map_image.proofs.member_writer.put_each_entry.Given as goal

abbrev pub invariant-loop-kept : goal.invariant-loop-kept
invariant-loop-kept l = ArePut (entry_text l.form.count_width) (FitsEntry l.form.greatest_count) l.initial.out l.out (take l.kept-index l.entries)
