-- What stands under the name goes; nothing does, if the file doesn't stand there.
use Rattle.std.proofs.Common.{◌≡◌, List, ℕ, Option, None, Some, IfSome, true, false, refl, subst, sym, ◌∙◌}
use Rattle.std.specs.FinMap.{get}
use Rattle.directory_index.specs.Standing.{is_at}
use Rattle.eden_base.specs.declared.number.FileId.{FileId}
use Rattle.checkout.specs.Added.{place_of, place_of_file, without, AreLinks}
use Rattle.checkout.specs.declared.added.places.AddedPlace.{AddedPlace}
use Rattle.checkout.proofs.AddedLinks.{stands-not, stands-place, unmoved-AreLinks}
use Rattle.checkout.proofs.added.unlink_at.Goals as goal

-- no file is the one that a link gives
missing : (o : Option FileId) → IfSome o (λ other. None ≡ Some other) → o ≡ None
missing None h = refl
missing (Some other) h = absurd (let no : ⊥ = cc in no)

pub returns-in_default-clause-links : goal.returns-in_default-clause-links
returns-in_default-clause-links c links are stood =
    let at : ℕ × List ℕ = (c.args.dir.0, c.args.name.now) in
    unmoved-AreLinks links c.args.places.now c.args.index.now at
    (missing (get links at) (subst (λ (f : Option FileId). IfSome (get links at) (λ other. f ≡ Some other)) c.in_default.is stood)) are

pub returns-then-stands-clause-links : goal.returns-then-stands-clause-links
returns-then-stands-clause-links c links are stood =
    let places = c.args.places.now in
    let file = c.in-Some.file.0 in
    let there = subst (λ (n : List ℕ). is_at (place_of places file) c.args.dir.0 n ≡ true) c.bytes.ensures.bytes (sym c.stands.ensures.stands ∙ c.if-stands.true) in
    subst (λ (o : Option AddedPlace). AreLinks (without links o) c.unlink.new.places c.unlink.new.index) (stands-place (place_of_file places file) c.args.dir.0 c.args.name.now there) (c.unlink.ensures.links links are)

pub returns-else-stands-clause-links : goal.returns-else-stands-clause-links
returns-else-stands-clause-links c links are stood =
    let places = c.args.places.now in
    let at : ℕ × List ℕ = (c.args.dir.0, c.args.name.now) in
    let elsewhere = subst (λ (n : List ℕ). is_at (place_of places c.in-Some.file.0) c.args.dir.0 n ≡ false) c.bytes.ensures.bytes (sym c.stands.ensures.stands ∙ c.if-stands.false) in
    unmoved-AreLinks links places c.args.index.now at
    (stands-not links places are.are_places at c.in-Some.file (subst (λ (f : Option FileId). IfSome (get links at) (λ other. f ≡ Some other)) c.in-Some.is stood) elsewhere) are
