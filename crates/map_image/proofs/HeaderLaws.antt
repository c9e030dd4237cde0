-- The header of bytes is that of the image which they are.
use Rattle.std.proofs.Common.{◌≡◌, ℕ, ltb, List, length, Ok, refl}
use Rattle.byte_codec.proofs.YieldLemmas.{Any, Yields, Value, if_yields, its_value, then_yields, unless_yields, yielded}
use Rattle.map_image.specs.declared.fault.ImageFault.TheVariants.{Rest, ZeroUse}
use Rattle.map_image.specs.declared.header.ImageHeader.{ImageHeader}
use Rattle.map_image.specs.declared.image.Image.{Image}
use Rattle.map_image.specs.ImageText.{IsImageText}
use Rattle.map_image.specs.declared.version.VersionForm.{VersionForm}
use Rattle.map_image.specs.ImageReading.{are_of_use, changes_at, entry_at, fields_at, form_at, header_at, header_of_bytes, image_of_bytes, list_at, magic_at}
use Rattle.map_image.proofs.ImageLaws.{image_again}

-- what an image has of its header
pub record IsHeaded (bytes : List ℕ) (image : Image) : Type 0 where
  pub header : ImageHeader
  pub is : header_of_bytes bytes ≡ Ok header
  pub name : header.name ≡ image.name
  pub generation : header.generation ≡ image.generation

-- the fields in front of the lists, one after the other
header_read : (bytes fields : List ℕ) (form : VersionForm × List ℕ) (header : ImageHeader × List ℕ) → magic_at bytes ≡ Ok fields → form_at fields ≡ Ok form → header_at form.0.named_by form.1 ≡ Ok header → header_of_bytes bytes ≡ Ok header.0
unfolding header_of_bytes
header_read bytes fields form header first second third = rw (first, second, third) refl

headed : (bytes : List ℕ) → Yields Any (IsHeaded bytes) (image_of_bytes bytes)
unfolding image_of_bytes fields_at
headed bytes =
    then_yields {Mid = λ (x : Image × List ℕ). IsHeaded bytes x.0} _ _ (
    then_yields _ _ (its_value (magic_at bytes)) (λ fields first.
    then_yields _ _ (its_value (form_at fields)) (λ form second.
    then_yields _ _ (its_value (header_at form.0.named_by form.1)) (λ header third.
    then_yields _ _ (its_value (list_at (entry_at form.0) header.1)) (λ entries _.
    then_yields _ _ (its_value (changes_at header.0.next_file entries.1)) (λ changes _.
    Value (record { header = header.0; is = header_read bytes fields form header first second third; name = refl; generation = refl })))))))
    (λ image is.
    unless_yields (ltb 0 (length image.1)) Rest _ tt (λ _.
    if_yields (are_of_use image.0.entries) ZeroUse _ tt (λ _. Value is)))

pub headed_text : (image : Image) (version : ℕ) (bytes : List ℕ) → IsImageText image version bytes → IsHeaded bytes image
headed_text image version bytes is = yielded (image_of_bytes bytes) image (headed bytes) (image_again image version bytes is)
