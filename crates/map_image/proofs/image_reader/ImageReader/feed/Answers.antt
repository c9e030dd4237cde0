use Rattle.std.proofs.Common.{◌≡◌, ◌++◌, ℕ, List, None, Some, sym, ap, subst, ◌∙◌, arith}
use Rattle.map_image.specs.Feeding.{IsFailed, IsReader, Stands, standing_fault}
use Rattle.map_image.proofs.FedLaws.{failed_reader, fed_reader, none_stands, none_told, stands_at, takes_at, told_again, unchanged_reader}
use Rattle.map_image.proofs.image_reader.ImageReader.feed.Goals as goal

pub returns-in-Some-clause-stands : goal.returns-in-Some-clause-stands
returns-in-Some-clause-stands c = λ other stands.
    told_again c.self.inside.taken.bytes c.in-Some.fault other (subst (IsReader c.self.inside.taken.bytes c.self.inside.reading c.self.inside.tail.items) c.in-Some.is c.self.invariant)
    (subst (λ (b : List ℕ). standing_fault b ≡ Some other) (sym c.self.view_is) stands)

pub invariant_of-self-in-Ok : goal.invariant_of-self-in-Ok
invariant_of-self-in-Ok c =
    subst (IsReader c.add-in-Ok.new.self.bytes c.feed.new.reading c.feed.new.tail.items) (sym c.in_default.is)
    (fed_reader c.self.inside.reading c.feed.new.reading c.self.inside.taken.bytes c.self.inside.tail.items c.args.piece.now c.feed.new.tail.items c.add-in-Ok.new.self.bytes c.self.inside.fault c.in_default.is c.add-in-Ok.ensures c.self.invariant (λ i. omega (arith, c.type_inv.piece i)) c.in-Ok.ensures.feeds c.in-Ok.ensures.parents)

pub invariant_of-self-in-NoMemory : goal.invariant_of-self-in-NoMemory
invariant_of-self-in-NoMemory c =
    subst (IsReader c.self.inside.taken.bytes c.feed.new.reading c.feed.new.tail.items) (sym c.in_default.is)
    (unchanged_reader c.self.inside.reading c.feed.new.reading c.self.inside.taken.bytes c.self.inside.tail.items c.args.piece.now c.feed.new.tail.items c.self.inside.fault c.in-Err.fault c.in_default.is c.self.invariant c.in-NoMemory.is c.in-Err.ensures.feeds)

pub invariant_of-self-in_default-fault : goal.invariant_of-self-in_default-fault
invariant_of-self-in_default-fault c =
    failed_reader c.self.inside.reading c.feed.new.reading c.self.inside.taken.bytes c.self.inside.tail.items c.args.piece.now c.feed.new.tail.items c.add-in_default-fault.new.self.bytes c.self.inside.fault c.in-Err.fault c.in_default.is c.add-in_default-fault.ensures c.self.invariant (λ i. omega (arith, c.type_inv.piece i)) c.in_default-fault.not-NoMemory c.in-Err.ensures.feeds

pub returns-in-Ok-clause-exact : goal.returns-in-Ok-clause-exact
returns-in-Ok-clause-exact c =
    let reading = fed_reader c.self.inside.reading c.feed.new.reading c.self.inside.taken.bytes c.self.inside.tail.items c.args.piece.now c.feed.new.tail.items c.add-in-Ok.new.self.bytes c.self.inside.fault c.in_default.is c.add-in-Ok.ensures c.self.invariant (λ i. omega (arith, c.type_inv.piece i)) c.in-Ok.ensures.feeds c.in-Ok.ensures.parents in
    subst (λ (b : List ℕ). standing_fault b ≡ None) (c.add-in-Ok.ensures ∙ ap (λ (b : List ℕ). b ++ c.args.piece.now) c.self.view_is) (none_stands c.feed.new.reading c.add-in-Ok.new.self.bytes c.feed.new.tail.items reading)

pub returns-in-Ok-clause-stands : goal.returns-in-Ok-clause-stands
returns-in-Ok-clause-stands c = λ fault stands.
    absurd (none_told c.self.inside.reading c.self.inside.taken.bytes c.self.inside.tail.items fault (subst (IsReader c.self.inside.taken.bytes c.self.inside.reading c.self.inside.tail.items) c.in_default.is c.self.invariant) (subst (λ (b : List ℕ). standing_fault b ≡ Some fault) (sym c.self.view_is) stands))

pub returns-in-NoMemory-clause-stands : goal.returns-in-NoMemory-clause-stands
returns-in-NoMemory-clause-stands c = λ fault stands.
    absurd (none_told c.self.inside.reading c.self.inside.taken.bytes c.self.inside.tail.items fault (subst (IsReader c.self.inside.taken.bytes c.self.inside.reading c.self.inside.tail.items) c.in_default.is c.self.invariant) (subst (λ (b : List ℕ). standing_fault b ≡ Some fault) (sym c.self.view_is) stands))

pub returns-in_default-fault : goal.returns-in_default-fault
returns-in_default-fault c =
    let grown : c.add-in_default-fault.new.self.bytes ≡ c.args.self.now ++ c.args.piece.now = c.add-in_default-fault.ensures ∙ ap (λ (b : List ℕ). b ++ c.args.piece.now) c.self.view_is in
    let failed : IsFailed c.add-in_default-fault.new.self.bytes c.in-Err.fault = failed_reader c.self.inside.reading c.feed.new.reading c.self.inside.taken.bytes c.self.inside.tail.items c.args.piece.now c.feed.new.tail.items c.add-in_default-fault.new.self.bytes c.self.inside.fault c.in-Err.fault c.in_default.is c.add-in_default-fault.ensures c.self.invariant (λ i. omega (arith, c.type_inv.piece i)) c.in_default-fault.not-NoMemory c.in-Err.ensures.feeds in
    record {
      takes = takes_at c.args.self.now c.args.piece.now c.add-in_default-fault.new.self.bytes c.in-Err.fault failed.lasts grown;
      exact = subst (λ (b : List ℕ). Stands b c.in-Err.fault) grown (stands_at c.add-in_default-fault.new.self.bytes c.in-Err.fault failed);
      stands = λ fault stands. absurd (none_told c.self.inside.reading c.self.inside.taken.bytes c.self.inside.tail.items fault (subst (IsReader c.self.inside.taken.bytes c.self.inside.reading c.self.inside.tail.items) c.in_default.is c.self.invariant) (subst (λ (b : List ℕ). standing_fault b ≡ Some fault) (sym c.self.view_is) stands));
    }
