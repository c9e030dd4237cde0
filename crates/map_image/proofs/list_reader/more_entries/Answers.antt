use Rattle.std.proofs.Common.{◌≡◌, Ok, Err, subst}
use Rattle.map_image.specs.declared.fault.ImageFault.{ImageFault}
use Rattle.map_image.specs.declared.fault.ImageFault.TheVariants.{Short}
use Rattle.map_image.specs.ImageReading.{Fails, entry_at, last_of}
use Rattle.map_image.proofs.Loop.{cuts, extends_same, extends_twice, starts, steps, stops}
use Rattle.map_image.proofs.SteadyMembers.{steady_entry}
use Rattle.map_image.proofs.list_reader.more_entries.Goals as goal

pub loop-i-init : goal.loop-i-init
loop-i-init c = rw c.make_room.ensures.same (starts (entry_at c.args.form) c.args.entries.now.items c.args.left c.args.bytes.now, extends_same c.args.parents.now.items, λ has. has)

pub loop-i-preserved : goal.loop-i-preserved
loop-i-preserved c =
    let read : (entry_at c.args.form) (last_of c.loop-i.entries.items) c.loop-i.rest.now ≡ Ok (c.in-Ok.entry, c.in-Ok.after.now) = subst (λ xs. (entry_at c.args.form) (last_of xs) c.loop-i.rest.now ≡ Ok (c.in-Ok.entry, c.in-Ok.after.now)) c.as_slice.ensures.value c.in-Ok.ensures in
    let next = steps (entry_at c.args.form) c.args.entries.now.items c.args.left c.args.bytes.now c.loop-i.entries.items c.loop-i.i c.loop-i.rest.now c.in-Ok.entry c.in-Ok.after.now (steady_entry c.args.form) c.loop-i-test.true read c.loop-i.invariant.0 in (
      rw c.in-Ok-add_entry.ensures.entries next,
      extends_twice c.args.parents.now.items c.loop-i.parents.items c.add_entry.new.parents.items c.loop-i.invariant.1 c.in-Ok-add_entry.ensures.adds.1,
      λ has. c.in-Ok-add_entry.ensures.parents (c.loop-i.invariant.2 has),
    )

pub returns-in-Short-clause-reads : goal.returns-in-Short-clause-reads
returns-in-Short-clause-reads c =
    let short = subst (λ (f : ImageFault). Fails f ((entry_at c.args.form) (last_of c.as_slice.result.now) c.loop-i.rest.now)) c.in-Short.is c.in-Err.ensures in
    let read : (entry_at c.args.form) (last_of c.loop-i.entries.items) c.loop-i.rest.now ≡ Err Short = subst (λ xs. (entry_at c.args.form) (last_of xs) c.loop-i.rest.now ≡ Err Short) c.as_slice.ensures.value short in
    cuts (entry_at c.args.form) c.args.entries.now.items c.args.left c.args.bytes.now c.loop-i.entries.items c.loop-i.i c.loop-i.rest.now c.loop-i-test.true read c.loop-i.invariant.0

pub returns-in_default-fault-clause-reads : goal.returns-in_default-fault-clause-reads
returns-in_default-fault-clause-reads c =
    let fault = c.in-Err.fault in
    let fails : Fails fault ((entry_at c.args.form) (last_of c.loop-i.entries.items) c.loop-i.rest.now) = subst (λ xs. Fails fault ((entry_at c.args.form) (last_of xs) c.loop-i.rest.now)) c.as_slice.ensures.value c.in-Err.ensures in
    stops (entry_at c.args.form) c.args.entries.now.items c.args.left c.args.bytes.now c.loop-i.entries.items c.loop-i.i c.loop-i.rest.now fault (steady_entry c.args.form) c.loop-i-test.true c.in_default-fault.not-Short fails c.loop-i.invariant.0
