use Rattle.std.proofs.Common.{◌≡◌, ℕ, eqb, List, length, Err, sym, ap, subst, ◌∙◌}
use Rattle.map_image.specs.declared.fault.ImageFault.TheVariants.{NoMemory}
use Rattle.map_image.specs.declared.image.Image.{Image}
use Rattle.map_image.specs.Feeding.{IsReader}
use Rattle.map_image.specs.ImageReading.{Tells, image_of_bytes}
use Rattle.map_image.proofs.FedLaws.{at_last, ended, failed_ends, tail_ends}
use Rattle.map_image.proofs.image_reader.ImageReader.into_image.Goals as goal

pub returns-in-Some-clause-exact : goal.returns-in-Some-clause-exact
returns-in-Some-clause-exact c =
    subst (λ (b : List ℕ). (c.in-Some.fault ≡ NoMemory → ⊥) × (image_of_bytes b ≡ Err c.in-Some.fault)) c.self.view_is
    (failed_ends c.self.inside.taken.bytes c.in-Some.fault (subst (IsReader c.self.inside.taken.bytes c.self.inside.reading c.self.inside.tail.items) c.in-Some.is c.self.invariant))

pub returns-then-not-is_empty-clause-exact : goal.returns-then-not-is_empty-clause-exact
returns-then-not-is_empty-clause-exact c =
    (λ is. absurd cc, ap image_of_bytes (sym c.self.view_is) ∙ tail_ends c.self.inside.reading c.self.inside.taken.bytes c.self.inside.tail.items c.self.inside.fault c.is_empty.result c.in_default.is c.self.invariant (subst (λ (t : List ℕ). c.is_empty.result ≡ eqb (length t) 0) c.as_slice.ensures.value c.is_empty.ensures) c.if-not-is_empty.true)

pub returns-clause-exact : goal.returns-clause-exact
returns-clause-exact c =
    let last = at_last c.self.inside.reading c.self.inside.taken.bytes c.self.inside.tail.items c.self.inside.fault c.is_empty.result c.in_default.is c.self.invariant (subst (λ (t : List ℕ). c.is_empty.result ≡ eqb (length t) 0) c.as_slice.ensures.value c.is_empty.ensures) c.if-not-is_empty.false in
    subst (Tells (λ (i : Image). i) c.finish.result) (sym (ended c.self.inside.reading c.self.inside.taken.bytes last) ∙ ap image_of_bytes c.self.view_is) c.finish.ensures
