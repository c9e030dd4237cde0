use Rattle.std.proofs.Common.{◌≡◌, sym, ap, ◌∙◌, rules}
use Rattle.std.specs.Option.{option_copied}
use Rattle.broker_core.specs.Held.{HeldMap, raised}
use Rattle.broker_core.specs.declared.broker.Broker.TheInside.{Inside}
use Rattle.broker_core.proofs.Consistency.{given-number, given-none, consistent-delivered}
use Rattle.broker_core.proofs.broker.Broker.deliver.Goals.{in-Some-given_out+in_ok-map_err, in_default-given_out}
use Rattle.broker_core.proofs.broker.Broker.deliver.Goals as goal

pub invariant_of-self-2 : goal.invariant_of-self-2
invariant_of-self-2 c =
    let b = c.self.inside in
    let reply = c.in-Some.reply.now in
    let holding : HeldMap → Inside = λ held. record b { held = held } in
    let first = sym c.next_reply.ensures.first ∙ ap option_copied c.in-Some.is in
    elim c.match-given_out.branch [
      | in-Some-given_out+in_ok-map_err w ↦ (
          let number = w.in-Some-given_out.number in
          let more : w.raise.new.self ≡ raised b.held number.0 = search rules in
          let held = given-number b.held reply number (sym c.given_out.ensures.number ∙ w.in-Some-given_out.is) in
          consistent-delivered b c.match-given_out.self-inside reply c.deliver.new.self first c.self.invariant (w.self-inside-is ∙ ap holding (more ∙ sym held)) c.deliver.ensures.left)
      | in_default-given_out w ↦ (
          let held = given-none b.held reply (sym c.given_out.ensures.number ∙ w.in_default-given_out.is) in
          consistent-delivered b c.match-given_out.self-inside reply c.deliver.new.self first c.self.invariant (w.self-inside-is ∙ ap holding (sym held)) c.deliver.ensures.left)
    ]
