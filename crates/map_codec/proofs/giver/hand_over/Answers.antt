use Rattle.std.proofs.Common.{◌≡◌, ℕ, true, Result, Ok, Err, Vec, Global, subst, rules}
use Rattle.std.specs.Prelude.{IfErr, None, is_some}
use Rattle.fuse_ops.specs.Served.{ServedState}
use Rattle.map_codec.specs.Taking.{IsImageOf}
use Rattle.map_image.specs.Versions.{form_of, named_by}
use Rattle.map_image.specs.Writing.{refusal}
use Rattle.map_image.specs.declared.image.Image.{Image}
use Rattle.map_image.specs.declared.version.NamedBy.{NamedBy}
use Rattle.map_codec.specs.Handover.{IsHandingRefusal, IsTextRefusal}
use Rattle.map_codec.specs.declared.fault.HandoverFault.{HandoverFault}
use Rattle.map_codec.specs.declared.fault.HandoverFault.TheVariants.{Refused, NoMemory}
use Rattle.map_codec.proofs.OneImage.{one_of_served}
use Rattle.map_codec.proofs.giver.hand_over.Goals as goal

-- of one image that was refused, no other can be written; and memory was wanted in a version that there is
handing_refused : (served : ServedState) (at version : ℕ) (image : Image) → is_some (form_of version) ≡ true → IsImageOf served at (named_by version) image → (r : Result (Vec ℕ Global) HandoverFault) → IfErr r (IsTextRefusal image version) → IfErr r (IsHandingRefusal served at version)
handing_refused served at version image known is (Ok bytes) refused = tt
handing_refused served at version image known is (Err Refused) refused = λ other of_other none.
    refused (subst (λ (i : Image). refusal i version ≡ None) (one_of_served served at (named_by version) image other is of_other) none)
handing_refused served at version image known is (Err NoMemory) refused = known

pub returns-in-Ok-clause-refused : goal.returns-in-Ok-clause-refused
returns-in-Ok-clause-refused c =
    handing_refused c.args.served.now c.args.generation c.args.version c.in-Ok.image (search rules)
    (subst (λ (by : NamedBy). IsImageOf c.args.served.now c.args.generation by c.in-Ok.image) c.named_by.ensures.by c.in-Ok.ensures.image)
    c.text_of-text.result c.text_of-text.ensures.refused

-- What a wrong body of must-fail/ breaks; an answer makes its refusal cheap.
pub returns-in-Err-clause-refused : goal.returns-in-Err-clause-refused
returns-in-Err-clause-refused c = search rules
