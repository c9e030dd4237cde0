-- The counts of an image that has a text are those that the kernel may hold.
use Rattle.std.proofs.Common.{All, ◌≤◌, ℕ, suc, List, [], ◌∷◌, arith}
use Rattle.eden_base.specs.Limits.{greatest_count}
use Rattle.entry_table.specs.declared.kept.Kept.{Kept}
use Rattle.map_image.specs.Fit.{CountsFit}
use Rattle.map_image.specs.ImageText.{FitsEntry, IsImageText}
use Rattle.map_image.specs.declared.image.Image.{Image}
use Rattle.map_image.proofs.VersionLaws.{row}

each_fits : (greatest : ℕ) (es : List Kept) → greatest ≤ greatest_count → All (FitsEntry greatest) es → CountsFit es
each_fits greatest [] held all = tt
each_fits greatest (x ∷ es) held all =
    let first : x.count ≤ greatest = (all 0 x (omega arith)).count in
    ((omega (arith, first, held)), each_fits greatest es held (λ i d lt. all (suc i) d (omega (arith, lt))))

-- in each version the greatest count is one that the kernel may hold
pub counts_fit : (image : Image) (version : ℕ) (bytes : List ℕ) → IsImageText image version bytes → CountsFit image.entries
counts_fit image version bytes is =
    each_fits is.form.greatest_count image.entries (row version is.form is.known).keeps.count_is_held is.members.entries
