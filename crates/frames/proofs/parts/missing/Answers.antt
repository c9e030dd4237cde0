use Rattle.std.proofs.Common.{sym}
use Rattle.frames.proofs.LackingLaws.{lacking_fault, lacking_few, lacking_some}
use Rattle.frames.proofs.parts.missing.Goals as goal

pub returns-in-Ok : goal.returns-in-Ok
returns-in-Ok c =
    let bytes = c.args.bytes.now in
    let count = c.in-Ok.count in
    let is = sym c.in-Ok.ensures.lacks in
    record { missing = c.in-Ok.ensures.lacks; not_yet = lacking_some bytes count is; faulty = tt; faults = tt; at_most = lacking_few bytes count is }

pub returns-in-Err : goal.returns-in-Err
returns-in-Err c =
    let bytes = c.args.bytes.now in
    let fault = c.in-Err.fault in
    let is = sym c.in-Err.ensures.lacks in
    let shows = lacking_fault bytes fault is in
    record { missing = c.in-Err.ensures.lacks; not_yet = tt; faulty = shows.0; faults = shows.1; at_most = tt }
