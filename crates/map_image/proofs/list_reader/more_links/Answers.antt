use Rattle.std.proofs.Common.{◌≡◌, Ok, Err, subst}
use Rattle.map_image.specs.declared.fault.ImageFault.{ImageFault}
use Rattle.map_image.specs.declared.fault.ImageFault.TheVariants.{Short}
use Rattle.map_image.specs.ImageReading.{Fails, last_of, link_at}
use Rattle.map_image.proofs.Loop.{cuts, starts, steps, stops}
use Rattle.map_image.proofs.SteadyMembers.{steady_link}
use Rattle.map_image.proofs.list_reader.more_links.Goals as goal

pub loop-i-init : goal.loop-i-init
loop-i-init c = rw c.make_room.ensures.same (starts link_at c.args.links.now.items c.args.left c.args.bytes.now)

pub loop-i-preserved : goal.loop-i-preserved
loop-i-preserved c =
    let read : link_at (last_of c.loop-i.links.items) c.loop-i.rest.now ≡ Ok (c.in-Ok.link, c.in-Ok.after.now) = subst (λ xs. link_at (last_of xs) c.loop-i.rest.now ≡ Ok (c.in-Ok.link, c.in-Ok.after.now)) c.as_slice.ensures.value c.in-Ok.ensures in
    rw c.in-Ok-push.ensures.items (steps link_at c.args.links.now.items c.args.left c.args.bytes.now c.loop-i.links.items c.loop-i.i c.loop-i.rest.now c.in-Ok.link c.in-Ok.after.now steady_link c.loop-i-test.true read c.loop-i.invariant)

pub returns-in-Short-clause-reads : goal.returns-in-Short-clause-reads
returns-in-Short-clause-reads c =
    let short = subst (λ (f : ImageFault). Fails f (link_at (last_of c.as_slice.result.now) c.loop-i.rest.now)) c.in-Short.is c.in-Err.ensures in
    let read : link_at (last_of c.loop-i.links.items) c.loop-i.rest.now ≡ Err Short = subst (λ xs. link_at (last_of xs) c.loop-i.rest.now ≡ Err Short) c.as_slice.ensures.value short in
    cuts link_at c.args.links.now.items c.args.left c.args.bytes.now c.loop-i.links.items c.loop-i.i c.loop-i.rest.now c.loop-i-test.true read c.loop-i.invariant

pub returns-in_default-fault-clause-reads : goal.returns-in_default-fault-clause-reads
returns-in_default-fault-clause-reads c =
    let fault = c.in-Err.fault in
    let fails : Fails fault (link_at (last_of c.loop-i.links.items) c.loop-i.rest.now) = subst (λ xs. Fails fault (link_at (last_of xs) c.loop-i.rest.now)) c.as_slice.ensures.value c.in-Err.ensures in
    stops link_at c.args.links.now.items c.args.left c.args.bytes.now c.loop-i.links.items c.loop-i.i c.loop-i.rest.now fault steady_link c.loop-i-test.true c.in_default-fault.not-Short fails c.loop-i.invariant
