-- The words that printed lines have for the result of a forget. (This project's own.)
use Rattle.std.specs.Prelude.{ℕ, List, codes}
use Rattle.inode_map.specs.declared.inode_map.Forgot.{Forgot}
use Rattle.inode_map.specs.declared.inode_map.Forgot.TheVariants as forgot

-- the word for the result of a forget
abbrev pub forgot_name : Forgot → List ℕ
forgot_name forgot.Lowered = codes "Lowered"
forgot_name forgot.Dropped = codes "Dropped"
forgot_name forgot.Bad = codes "Bad"
forgot_name forgot.Root = codes "Root"
