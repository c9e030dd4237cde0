-- all is looked at
use Rattle.std.proofs.Common.{◌≡◌, length, vec_len, sym, ◌∙◌, rules, arith}
use Rattle.std.proofs.lemmas.List.{nil_from_length}
use Rattle.workers.proofs.Fitting.{fit_by}
use Rattle.workers.proofs.round_buffers.RoundBuffers.fit.Goals as goal

pub returns : goal.returns
returns c =
    let inside = c.self.inside in
    let none : length c.records.result.now ≡ 0 = search rules in
    record {
      fit = fit_by c.args.channels c.args.turns c.args.self.now inside.journal inside.receipts.items
          (vec_len inside.receipts) c.are_fresh.result (search rules)
          (sym c.records.ensures.records ∙ nil_from_length c.records.result.now none)
          (omega (arith, c.if-room-records_of.false, c.records_of.ensures.records, c.room.ensures.room))
          (search rules) (search rules);
    }
