-- One image: of what is served at a generation, and of a text.
use Rattle.std.proofs.Common.{◌≡◌, ℕ, List, Result, Ok, sym, ◌∙◌}
use Rattle.checkout.proofs.ChangesLaws.{one_changes}
use Rattle.fuse_ops.specs.Served.{ServedState}
use Rattle.map_image.proofs.ImageLaws.{image_again}
use Rattle.map_image.specs.ImageText.{IsImageText}
use Rattle.map_codec.specs.Taking.{IsImageOf}
use Rattle.map_image.specs.declared.fault.ImageFault.{ImageFault}
use Rattle.map_image.specs.declared.image.Image.{Image}
use Rattle.map_image.specs.declared.version.NamedBy.{NamedBy}

pub one_of_served : (served : ServedState) (at : ℕ) (by : NamedBy) (a b : Image) → IsImageOf served at by a → IsImageOf served at by b → b ≡ a
one_of_served served at by a b is other = λ i. record {
  name = (other.name ∙ sym is.name) i;
  generation = (other.generation ∙ sym is.generation) i;
  next_number = (other.next_number ∙ sym is.next_number) i;
  entries = (other.entries ∙ sym is.entries) i;
  changes = one_changes served.tree a.changes b.changes is.changes other.changes i;
}

same_ok : (a b : Image) → (let one : Result Image ImageFault = Ok a in one) ≡ Ok b → a ≡ b
same_ok a b e = cc

pub one_of_text : (a b : Image) (version other : ℕ) (bytes : List ℕ) → IsImageText a version bytes → IsImageText b other bytes → a ≡ b
one_of_text a b version other bytes is of_other = same_ok a b (sym (image_again a version bytes is) ∙ image_again b other bytes of_other)
