use Rattle.std.proofs.Common.{◌≡◌, ◌++◌, ℕ, List, None, sym, ap, subst, ◌∙◌, arith}
use Rattle.std.specs.List.{concat}
use Rattle.map_image.specs.Feeding.{IsFailed, Stands, standing_fault}
use Rattle.map_image.specs.PartReading.{IsPartReader}
use Rattle.map_image.proofs.FedLaws.{stands_at, still_failed, takes_at}
use Rattle.map_image.proofs.PartReaderLaws.{failed_part_reader, fed_part_reader, grown_by, none_stands_of_parts, unchanged_part_reader}
use Rattle.map_image.proofs.part_reader.PartReader.feed.Goals as goal

pub invariant_of-self-in-Some : goal.invariant_of-self-in-Some
invariant_of-self-in-Some c =
    let old = concat c.self.inside.parts.items in
    let grown : concat c.push_reserved.new.self.items ≡ old ++ c.args.part.now = grown_by c.self.inside.parts.items c.reserve.new.self.items c.push_reserved.new.self.items c.in-Ok.kept c.args.part.now c.reserve.ensures.items c.push_reserved.ensures.items c.in-Ok.ensures in
    let failed : IsFailed old c.in-Some.fault = subst (IsPartReader old c.self.inside.reading c.self.inside.tail.items) c.in-Some.is c.self.invariant in
    rw (grown, c.in-Some.is) (still_failed old c.args.part.now c.in-Some.fault failed (λ i. omega (arith, c.type_inv.part i)))

pub returns-in-Some-clause-takes : goal.returns-in-Some-clause-takes
returns-in-Some-clause-takes c =
    let old = concat c.self.inside.parts.items in
    let grown : concat c.push_reserved.new.self.items ≡ old ++ c.args.part.now = grown_by c.self.inside.parts.items c.reserve.new.self.items c.push_reserved.new.self.items c.in-Ok.kept c.args.part.now c.reserve.ensures.items c.push_reserved.ensures.items c.in-Ok.ensures in
    let failed : IsFailed old c.in-Some.fault = subst (IsPartReader old c.self.inside.reading c.self.inside.tail.items) c.in-Some.is c.self.invariant in
    takes_at c.args.self.now c.args.part.now (concat c.push_reserved.new.self.items) c.in-Some.fault failed.lasts (grown ∙ ap (λ (b : List ℕ). b ++ c.args.part.now) c.self.view_is)

pub returns-in-Some-clause-exact : goal.returns-in-Some-clause-exact
returns-in-Some-clause-exact c =
    let old = concat c.self.inside.parts.items in
    let failed : IsFailed old c.in-Some.fault = subst (IsPartReader old c.self.inside.reading c.self.inside.tail.items) c.in-Some.is c.self.invariant in
    subst (λ (b : List ℕ). Stands (b ++ c.args.part.now) c.in-Some.fault) c.self.view_is
    (stands_at (old ++ c.args.part.now) c.in-Some.fault (still_failed old c.args.part.now c.in-Some.fault failed (λ i. omega (arith, c.type_inv.part i))))

pub invariant_of-self-in-Ok-feed : goal.invariant_of-self-in-Ok-feed
invariant_of-self-in-Ok-feed c =
    let old = concat c.self.inside.parts.items in
    let new = concat c.push_reserved-in-Ok-feed.new.self.items in
    let grown : new ≡ old ++ c.args.part.now = grown_by c.self.inside.parts.items c.reserve.new.self.items c.push_reserved-in-Ok-feed.new.self.items c.in-Ok.kept c.args.part.now c.reserve.ensures.items c.push_reserved-in-Ok-feed.ensures.items c.in-Ok.ensures in
    subst (IsPartReader new c.keep_last.new.self c.feed.new.tail.items) (sym c.in_default-fault.is)
    (fed_part_reader c.self.inside.reading c.feed.new.reading c.keep_last.new.self old c.self.inside.tail.items c.args.part.now c.feed.new.tail.items new c.self.inside.fault c.in_default-fault.is grown c.self.invariant (λ i. omega (arith, c.type_inv.part i)) c.in-Ok-feed.ensures.feeds c.keep_last.ensures)

pub returns-in-Ok-feed-clause-takes : goal.returns-in-Ok-feed-clause-takes
returns-in-Ok-feed-clause-takes c =
    grown_by c.self.inside.parts.items c.reserve.new.self.items c.push_reserved-in-Ok-feed.new.self.items c.in-Ok.kept c.args.part.now c.reserve.ensures.items c.push_reserved-in-Ok-feed.ensures.items c.in-Ok.ensures
    ∙ ap (λ (b : List ℕ). b ++ c.args.part.now) c.self.view_is

pub returns-in-Ok-feed-clause-exact : goal.returns-in-Ok-feed-clause-exact
returns-in-Ok-feed-clause-exact c =
    let old = concat c.self.inside.parts.items in
    let new = concat c.push_reserved-in-Ok-feed.new.self.items in
    let grown : new ≡ old ++ c.args.part.now = grown_by c.self.inside.parts.items c.reserve.new.self.items c.push_reserved-in-Ok-feed.new.self.items c.in-Ok.kept c.args.part.now c.reserve.ensures.items c.push_reserved-in-Ok-feed.ensures.items c.in-Ok.ensures in
    let reading = fed_part_reader c.self.inside.reading c.feed.new.reading c.keep_last.new.self old c.self.inside.tail.items c.args.part.now c.feed.new.tail.items new c.self.inside.fault c.in_default-fault.is grown c.self.invariant (λ i. omega (arith, c.type_inv.part i)) c.in-Ok-feed.ensures.feeds c.keep_last.ensures in
    subst (λ (b : List ℕ). standing_fault b ≡ None) (grown ∙ ap (λ (b : List ℕ). b ++ c.args.part.now) c.self.view_is) (none_stands_of_parts c.keep_last.new.self new c.feed.new.tail.items reading)

pub invariant_of-self-in-Err : goal.invariant_of-self-in-Err
invariant_of-self-in-Err c =
    let old = concat c.self.inside.parts.items in
    rw (c.reserve.ensures.items) (subst (IsPartReader old c.feed.new.reading c.feed.new.tail.items) (sym c.in_default-fault.is)
    (unchanged_part_reader c.self.inside.reading c.feed.new.reading old c.self.inside.tail.items c.args.part.now c.feed.new.tail.items c.self.inside.fault c.in-Err.fault c.in_default-fault.is c.self.invariant c.in-NoMemory.is c.in-Err.ensures.feeds))

pub invariant_of-self-in_default-fault-2 : goal.invariant_of-self-in_default-fault-2
invariant_of-self-in_default-fault-2 c =
    let old = concat c.self.inside.parts.items in
    let new = concat c.push_reserved-in_default-fault-2.new.self.items in
    let grown : new ≡ old ++ c.args.part.now = grown_by c.self.inside.parts.items c.reserve.new.self.items c.push_reserved-in_default-fault-2.new.self.items c.in-Ok.kept c.args.part.now c.reserve.ensures.items c.push_reserved-in_default-fault-2.ensures.items c.in-Ok.ensures in
    failed_part_reader c.self.inside.reading c.feed.new.reading old c.self.inside.tail.items c.args.part.now c.feed.new.tail.items new c.self.inside.fault c.in-Err.fault c.in_default-fault.is grown c.self.invariant (λ i. omega (arith, c.type_inv.part i)) c.in_default-fault-2.not-NoMemory c.in-Err.ensures.feeds

pub returns-in_default-fault-2 : goal.returns-in_default-fault-2
returns-in_default-fault-2 c =
    let old = concat c.self.inside.parts.items in
    let new = concat c.push_reserved-in_default-fault-2.new.self.items in
    let grown : new ≡ old ++ c.args.part.now = grown_by c.self.inside.parts.items c.reserve.new.self.items c.push_reserved-in_default-fault-2.new.self.items c.in-Ok.kept c.args.part.now c.reserve.ensures.items c.push_reserved-in_default-fault-2.ensures.items c.in-Ok.ensures in
    let failed : IsFailed new c.in-Err.fault = failed_part_reader c.self.inside.reading c.feed.new.reading old c.self.inside.tail.items c.args.part.now c.feed.new.tail.items new c.self.inside.fault c.in-Err.fault c.in_default-fault.is grown c.self.invariant (λ i. omega (arith, c.type_inv.part i)) c.in_default-fault-2.not-NoMemory c.in-Err.ensures.feeds in
    let now = grown ∙ ap (λ (b : List ℕ). b ++ c.args.part.now) c.self.view_is in
    record {
      takes = takes_at c.args.self.now c.args.part.now new c.in-Err.fault failed.lasts now;
      exact = subst (λ (b : List ℕ). Stands b c.in-Err.fault) now (stands_at new c.in-Err.fault failed);
    }
