use Rattle.std.proofs.Common.{ℕ, List, Result, Ok, Err, subst}
use Rattle.std.specs.Prelude.{IfOk}
use Rattle.byte_codec.specs.Field.{AreBytes}
use Rattle.map_image.specs.declared.fault.ImageFault.{ImageFault}
use Rattle.map_image.specs.declared.image.Image.{Image}
use Rattle.map_image.specs.Fit.{CountsFit, IsFit}
use Rattle.map_image.specs.ImageText.{IsImageText}
use Rattle.map_image.specs.ImageReading.{Tells, image_of_bytes}
use Rattle.map_image.proofs.ImageLaws.{image_found, image_again}
use Rattle.map_image.proofs.CountLaws.{counts_fit}
use Rattle.map_image.proofs.image_reader.ImageReader.finish.Goals as goal

is_found : (bytes : List ℕ) (r : Result Image ImageFault) → AreBytes bytes → Tells (λ (image : Image). image) r (image_of_bytes bytes) → IfOk r (λ (image : Image). (version : ℕ) × IsImageText image version bytes)
is_found bytes (Ok image) are told = let found = image_found bytes image are told in (found.version, found.text)
is_found bytes (Err fault) are told = tt

pub returns-clause-text : goal.returns-clause-text
returns-clause-text c = is_found c.args.self c.into_image.result c.into_image.ensures.are c.into_image.ensures.exact

is_fit : (bytes : List ℕ) (r : Result Image ImageFault) → AreBytes bytes → Tells (λ (image : Image). image) r (image_of_bytes bytes) → IfOk r IsFit
is_fit bytes (Ok image) are told = (image_found bytes image are told).text.is_fit
is_fit bytes (Err fault) are told = tt

pub returns-clause-fit : goal.returns-clause-fit
returns-clause-fit c = is_fit c.args.self c.into_image.result c.into_image.ensures.are c.into_image.ensures.exact

fit_counts : (bytes : List ℕ) (r : Result Image ImageFault) → AreBytes bytes → Tells (λ (image : Image). image) r (image_of_bytes bytes) → IfOk r (λ (image : Image). CountsFit image.entries)
fit_counts bytes (Ok image) are told = let found = image_found bytes image are told in counts_fit image found.version bytes found.text
fit_counts bytes (Err fault) are told = tt

pub returns-clause-counts : goal.returns-clause-counts
returns-clause-counts c = fit_counts c.args.self c.into_image.result c.into_image.ensures.are c.into_image.ensures.exact

pub returns-clause-only : goal.returns-clause-only
returns-clause-only c = λ image version is. subst (Tells (λ (i : Image). i) c.into_image.result) (image_again image version c.args.self is) c.into_image.ensures.exact
