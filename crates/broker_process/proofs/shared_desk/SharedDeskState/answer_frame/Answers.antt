-- Each part of the answer is what the call of that part says, over what the ones before it left.
use Rattle.std.proofs.Common.{◌∙◌, ◌||◌, ℕ, Bool, false, List, Option, ap, is_none, subst}
use Rattle.std.specs.Option.{option_map_or}
use Rattle.broker_desk.specs.Desk.{told_by}
use Rattle.broker_desk.specs.Kernel.{KernelState}
use Rattle.broker_process.specs.Answering.{is_kept_out, is_turned_away, AnswersFrame}
use Rattle.broker_process.specs.HeldTakes.{answer_wakes, Holds}
use Rattle.broker_process.specs.Posting.{PostsBehind}
use Rattle.broker_process.specs.SharedDesk.{wakes}
use Rattle.broker_process.specs.declared.connections.OpenConnection.{OpenConnection}
use Rattle.broker_process.specs.declared.delivery.ReplyWriter.{ReplyWriter}
use Rattle.broker_process.specs.declared.held_takes.HeldTake.{HeldTake}
use Rattle.broker_process.specs.declared.shared_desk.AcceptedConnection.{AcceptedConnection}
use Rattle.broker_process.proofs.shared_desk.SharedDeskState.answer_frame.Goals as goal

pub returns-clause-answers : goal.returns-clause-answers
returns-clause-answers c =
    let old = c.args.self.now in
    let accepted = c.args.accepted.now in
    let frame = c.args.frame.now in
    let rest = c.answer_earlier.ensures.rest in
    let mid = c.answer_earlier.new.self in
    let answer = c.answer-response in
    let took = answer.ensures.takes in
    let last = c.hold_or_post-response in
    record {
      earlier = c.answer_earlier.result;
      before = mid.desk;
      waiting = mid.takes.takes.items;
      first = c.answer_earlier.ensures.answers;
      first_is = c.answer_of-earlier.ensures.answer;
      response = answer.result.0;
      peer = answer.new.accepted.peer;
      desk = answer.new.self.desk;
      then_answers =
          subst (λ (there : List OpenConnection). AnswersFrame (is_turned_away there accepted.number accepted.peer frame) (is_kept_out old.is_mounted mid.desk.broker accepted.peer frame) mid.desk accepted.peer frame answer.result.0 answer.new.self.desk answer.new.accepted.peer)
          (ap (λ s. s.connections.list.items) rest)
          (subst (λ (mounted : Bool). AnswersFrame (is_turned_away mid.connections.list.items accepted.number accepted.peer frame) (is_kept_out mounted mid.desk.broker accepted.peer frame) mid.desk accepted.peer frame answer.result.0 answer.new.self.desk answer.new.accepted.peer)
          (ap (λ s. s.is_mounted) rest) answer.ensures.answers);
      response_is = last.ensures.response;
      holds =
          subst (λ (a : AcceptedConnection). Holds a c.args.handle.now old.takes.tick answer.new.frame (is_none last.result.0) mid.takes.takes.items last.new.self.takes.takes.items)
          answer.ensures.accepted
          (subst (λ (tick : ℕ). Holds answer.new.accepted c.args.handle.now tick answer.new.frame (is_none last.result.0) mid.takes.takes.items last.new.self.takes.takes.items)
          (ap (λ t. t.tick) took ∙ c.answer_earlier.ensures.tick)
          (subst (λ (takes : List HeldTake). Holds answer.new.accepted c.args.handle.now answer.new.self.takes.tick answer.new.frame (is_none last.result.0) takes last.new.self.takes.takes.items)
          (ap (λ t. t.takes.items) took) last.ensures.holds));
      posting = last.result.1;
      posts =
          subst (λ (writer : Option ReplyWriter). PostsBehind (told_by answer.result.0) writer answer.new.self.desk old.kernel last.result.1 last.new.self.desk last.new.self.kernel)
          (answer.ensures.writer ∙ ap (λ s. s.writer) rest)
          (subst (λ (kernel : KernelState). PostsBehind (told_by answer.result.0) answer.new.self.writer answer.new.self.desk kernel last.result.1 last.new.self.desk last.new.self.kernel)
          (answer.ensures.kernel ∙ ap (λ s. s.kernel) rest) last.ensures.posts);
      delivery_is = c.split-delivery.ensures.delivery;
      wakes_is =
          c.is_woken.ensures.woken
          ∙ ap (λ b. (b || answer.result.1) || c.split-delivery.result.1) c.answer_of-earlier.ensures.wakes
          ∙ ap (λ b. (answer_wakes c.answer_earlier.result || b) || c.split-delivery.result.1)
          (answer.ensures.wakes ∙ ap (λ s. option_map_or (wakes s.waiting) (told_by answer.result.0) false) rest)
          ∙ ap (λ b. (answer_wakes c.answer_earlier.result || option_map_or (wakes old.waiting) (told_by answer.result.0) false) || b)
          c.split-delivery.ensures.left;
    }
