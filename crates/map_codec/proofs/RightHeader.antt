-- The header of bytes that are an image.
use Rattle.std.proofs.Common.{◌≡◌, ℕ, List, Result, Ok, sym, ap, subst, ◌∙◌}
use Rattle.manifest.specs.Manifest.{Manifest}
use Rattle.map_image.proofs.HeaderLaws.{headed_text}
use Rattle.map_image.specs.ImageText.{IsImageText}
use Rattle.map_image.specs.declared.fault.ImageFault.{ImageFault}
use Rattle.map_image.specs.declared.header.ImageHeader.{ImageHeader}
use Rattle.map_image.specs.declared.image.Image.{Image}
use Rattle.map_codec.specs.Handover.{HasRightHeader}
use Rattle.map_codec.specs.Taking.{IsNameOf}

pub right_header : (m : Manifest) (at : ℕ) (bytes : List ℕ) (image : Image) (version : ℕ) → IsImageText image version bytes → image.generation ≡ at → IsNameOf m image.name → HasRightHeader m at bytes
right_header m at bytes image version is generation name =
    let headed = headed_text image version bytes is in
    record { header = headed.header; is = headed.is; generation = headed.generation ∙ generation; name = subst (IsNameOf m) (sym headed.name) name }

same_header : (a b : ImageHeader) → (let one : Result ImageHeader ImageFault = Ok a in one) ≡ Ok b → a ≡ b
same_header a b e = cc

pub generation_is : (m : Manifest) (at : ℕ) (bytes : List ℕ) (image : Image) (version : ℕ) → IsImageText image version bytes → HasRightHeader m at bytes → image.generation ≡ at
generation_is m at bytes image version is right =
    let headed = headed_text image version bytes is in
    let same : headed.header ≡ right.header = same_header headed.header right.header (sym headed.is ∙ right.is) in
    sym headed.generation ∙ ap (λ (h : ImageHeader). h.generation) same ∙ right.generation
