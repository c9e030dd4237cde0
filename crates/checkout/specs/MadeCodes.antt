-- The code of the made files, by which a proof tells two maps of them apart.
use Rattle.std.specs.Coded.{Coded, coded_ℕ}
use Rattle.std.specs.FinMap as map
use Rattle.std.specs.Ordering.{nat_cmp}
use Rattle.checkout.specs.contracts.made.MadeFile as made
use Rattle.checkout.specs.declared.made.MadeFile.{MadeFile}

-- the code of a map from ids to the made files
abbrev pub made_code : Coded (map.FinMap nat_cmp MadeFile)
made_code = map.code coded_ℕ made.the_row.coded
