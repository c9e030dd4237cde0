-- what was written is dropped, and its room is kept
use Rattle.std.proofs.Common.{rules, arith}
use Rattle.std.proofs.lemmas.List.{with_items_is}
use Rattle.std.proofs.lemmas.List.Elements.{All-same}
use Rattle.workers.specs.Buffers.{HasNone, HasPlaces}
use Rattle.workers.proofs.round_buffers.RoundBuffers.emptied.Goals as goal

pub returns : goal.returns
returns c =
    let cleared = c.clear.ensures in
    let after = c.clear_all.new.receipts in
    let same = with_items_is c.args.receipts after (search rules) in
    record {
      emptied = record {
        records = cleared.records;
        receipts = All-same HasNone _ after same c.clear_all.ensures.none;
        room = λ channels turns had. record {
          room = omega (arith, had.room, cleared.room);
          workers = had.workers;
          places = All-same (HasPlaces turns) _ after same (c.clear_all.ensures.places turns
              (All-same (HasPlaces turns) _ c.args.receipts.items c.as_mut_slice.ensures.value had.places));
        };
      };
    }
