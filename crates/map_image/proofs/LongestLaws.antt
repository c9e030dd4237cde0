-- A text that may be written is no longer than the longest of its version.
use Rattle.std.proofs.Common.{◌≡◌, ◌≤◌, ℕ, Bool, true, false, not, cond, ltb, List, length, Option, Some, None, refl, sym, subst}
use Rattle.std.specs.List.{list_any}
use Rattle.std.proofs.lemmas.Bool.{ltb-false}
use Rattle.map_image.specs.ImageText.{image_text, IsImageText}
use Rattle.map_image.specs.Versions.{is_named_so, IsNoLonger}
use Rattle.map_image.specs.Writing.{is_too_large, refusal, write_fault}
use Rattle.map_image.specs.declared.fault.WriteFault.TheVariants.{CountTooLarge, NamedOtherwise, TooLong}
use Rattle.map_image.specs.declared.image.Image.{Image}
use Rattle.map_image.specs.declared.version.VersionForm.{VersionForm}

not_too_long : (named large long : Bool) → cond (not named) (Some NamedOtherwise) (cond large (Some CountTooLarge) (cond long (Some TooLong) None)) ≡ None → long ≡ false
not_too_long true false false e = refl
not_too_long true false true e = absurd cc
not_too_long true true long e = absurd cc
not_too_long false large long e = absurd cc

pub no_longer : (image : Image) (version : ℕ) (bytes : List ℕ) → IsImageText image version bytes → refusal image version ≡ None → IsNoLonger version bytes
no_longer image version bytes is accepted =
    let form = is.form in
    let text = image_text form.count_width version image in
    let none = subst (λ (f : Option VersionForm). write_fault image version f ≡ None) is.known accepted in
    let short : length text ≤ form.longest = ltb-false _ _ (not_too_long (is_named_so image.name.by form.named_by) (list_any (is_too_large form.greatest_count) image.entries) (ltb form.longest (length text)) none) in
    record { form = form; known = is.known; at_most = subst (λ (t : List ℕ). length t ≤ form.longest) (sym is.is) short }
