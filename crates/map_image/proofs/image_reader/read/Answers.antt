use Rattle.std.proofs.Common.{ℕ, List, Result, Ok, Err, subst, arith}
use Rattle.std.specs.Prelude.{IfOk}
use Rattle.byte_codec.specs.Field.{AreBytes}
use Rattle.map_image.specs.declared.fault.ImageFault.{ImageFault}
use Rattle.map_image.specs.declared.image.Image.{Image}
use Rattle.map_image.specs.Fit.{CountsFit, IsFit}
use Rattle.map_image.specs.ImageText.{IsImageText}
use Rattle.map_image.specs.ImageReading.{Gives, image_of_bytes}
use Rattle.map_image.proofs.ImageLaws.{image_found, image_again}
use Rattle.map_image.proofs.CountLaws.{counts_fit}
use Rattle.map_image.proofs.image_reader.read.Goals as goal

is_found : (bytes : List ℕ) (r : Result Image ImageFault) → AreBytes bytes → Gives (λ (image : Image). image) r (image_of_bytes bytes) → IfOk r (λ (image : Image). (version : ℕ) × IsImageText image version bytes)
is_found bytes (Ok image) are given = let found = image_found bytes image are given in (found.version, found.text)
is_found bytes (Err fault) are given = tt

pub returns-clause-text : goal.returns-clause-text
returns-clause-text c = is_found c.args.bytes.now c.read_image.result (λ i. omega (arith, c.type_inv.bytes i)) c.read_image.ensures.gives

is_fit : (bytes : List ℕ) (r : Result Image ImageFault) → AreBytes bytes → Gives (λ (image : Image). image) r (image_of_bytes bytes) → IfOk r IsFit
is_fit bytes (Ok image) are given = (image_found bytes image are given).text.is_fit
is_fit bytes (Err fault) are given = tt

pub returns-clause-fit : goal.returns-clause-fit
returns-clause-fit c = is_fit c.args.bytes.now c.read_image.result (λ i. omega (arith, c.type_inv.bytes i)) c.read_image.ensures.gives

fit_counts : (bytes : List ℕ) (r : Result Image ImageFault) → AreBytes bytes → Gives (λ (image : Image). image) r (image_of_bytes bytes) → IfOk r (λ (image : Image). CountsFit image.entries)
fit_counts bytes (Ok image) are given = let found = image_found bytes image are given in counts_fit image found.version bytes found.text
fit_counts bytes (Err fault) are given = tt

pub returns-clause-counts : goal.returns-clause-counts
returns-clause-counts c = fit_counts c.args.bytes.now c.read_image.result (λ i. omega (arith, c.type_inv.bytes i)) c.read_image.ensures.gives

pub returns-clause-only : goal.returns-clause-only
returns-clause-only c = λ image version is. subst (Gives (λ (i : Image). i) c.read_image.result) (image_again image version c.args.bytes.now is) c.read_image.ensures.gives
