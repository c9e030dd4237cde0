-- After a message was heard, and after a daemon was drained or gave up, each daemon that serves has the seat, and the
-- broker waits for what the daemon of the seat has to answer.
use Rattle.std.proofs.Common.{◌≡◌, ℕ, ◌+◌, Bool, true, false, ◌&&◌, List, ◌++◌, Some, None, refl, sym, ap, ◌∙◌, subst, inl, inr}
use Rattle.std.specs.Prelude.{◌==◌, nat_lt}
use Rattle.eden_base.specs.declared.number.DaemonId.{DaemonId}
use Rattle.takeover_core.specs.Phases as table
use Rattle.takeover_core.specs.Node.{NodeState}
use Rattle.takeover_core.specs.declared.heard.Heard.{Heard as Answer}
use Rattle.takeover_core.specs.declared.heard.Heard.TheVariants as answer
use Rattle.takeover_core.specs.declared.message.Message.{Message}
use Rattle.takeover_core.specs.declared.phase.Phase.{Phase}
use Rattle.takeover_core.specs.declared.phase.Phase.TheVariants.{Serving, Gone, Handed, Holding, Raising, Reading}
use Rattle.daemon.specs.Daemon.{DaemonState, turned_to, in_hand, unposted}
use Rattle.daemon.specs.Server.{ServerState}
use Rattle.daemon.specs.Serving.{beginning}
use Rattle.daemon.specs.Talking.{GivesUpSo, IsReady, ReactsBy, TakesData, ReadsBy, TurnsBy, bytes_of, read_before}
use Rattle.daemon.specs.declared.turn.Reaction.{Reaction}
use Rattle.daemon.specs.declared.happened.Happened.{Happened}
use Rattle.world.specs.Attending.{serving_at, IsAttended}
use Rattle.world.specs.Handing.{part_at, IsHanding}
use Rattle.world.specs.State.{State, daemon_of}
use Rattle.world.specs.Step.{Reacts, Hears}
use Rattle.world.proofs.Attending.{after_one, serves-along, attended-one, seated-back}
use Rattle.world.proofs.HandingTalks.{HandsText, handed-text, no-seat, waits-alone, behind-more, behind-last}
use Rattle.world.proofs.Turns.{IsTurn, node_of, turn-hear, turn-give_up, turn-drained, turn-made, turn-failed, turn-gone, MakesIt, makes-it, takes-it, PartIt, part-it}

-- a state stays attended if a daemon turned to another phase, and serves what it served
turned-attended : (old : State) (messages : List Message) (daemon : DaemonId) (was later : DaemonState) (idle : Bool) → daemon_of old daemon ≡ Some was → later.server ≡ was.server → ((g : ℕ) → IsTurn g idle was.node.phase later.node.phase) → IsAttended old → IsAttended (after_one old old.broker messages daemon later)
turned-attended old messages daemon was later idle there same turn a =
    attended-one old old.broker messages daemon was later there
    (record {
      at = λ server serves. (turn server.generation).part_on ((a.daemons daemon was there).at server (sym same ∙ serves));
      has_seat = λ g e. (a.daemons daemon was there).has_seat g ((turn g).serving_back e);
    })
    (λ other d apart e. serves-along old _ other d refl (a.daemons other d e))
    (λ seat server at. a.asked seat server (seated-back old old.broker messages daemon was later there refl (λ s e here. same) seat server at))

-- a state stays attended after an answer of the table that brings no data
by-turn : (old : State) (messages : List Message) (daemon : DaemonId) (was : DaemonState) (node : NodeState) (said : Answer) (reaction : Reaction) (later : DaemonState) → daemon_of old daemon ≡ Some was → ((g : ℕ) → IsTurn g false was.node.phase node.phase) → IsAttended old →
    TurnsBy was node said reaction later → IsAttended (after_one old old.broker messages daemon later)
by-turn old messages daemon was node said reaction later there turn a t = in_ said t where
  turned : later ≡ turned_to was node → IsAttended (after_one old old.broker messages daemon later)
  turned becomes = turned-attended old messages daemon was later false there (ap (λ (d : DaemonState). d.server) becomes) (λ g. subst (λ (d : DaemonState). IsTurn g false was.node.phase d.node.phase) (sym becomes) (turn g)) a

  in_ : (x : Answer) → TurnsBy was node x reaction later → IsAttended (after_one old old.broker messages daemon later)
  in_ answer.Ignored t = turned t.becomes
  in_ answer.Heard t = turned t.becomes
  in_ (answer.Say message) t = turned t.becomes
  in_ (answer.MakeData s g v) t = absurd t
  in_ (answer.GotData s g v) t = absurd t
  in_ (answer.GotPart s g v i n) t = absurd t

-- a state stays attended after a daemon handed over
hands-attended : (old : State) (messages : List Message) (daemon : DaemonId) (was : DaemonState) (s g v : ℕ) (text : List ℕ) (reaction : Reaction) (later : DaemonState) → IsAttended old → HandsText old daemon was s g v text reaction later → IsAttended (after_one old old.broker messages daemon later)
hands-attended old messages daemon was s g v text reaction later a t =
    turned-attended old messages daemon was later false t.there t.same (λ x. subst (λ (p : Phase). IsTurn x false was.node.phase p) (sym t.phase) (subst (λ (p : Phase). IsTurn x false p (Handed g s)) (sym t.drained) (turn-made s v g x))) a

-- a state stays attended if a daemon turned to this phase, and serves what it served
turns-attended : (old : State) (messages : List Message) (daemon : DaemonId) (was later : DaemonState) (phase : Phase) → daemon_of old daemon ≡ Some was → later.server ≡ was.server → later.node.phase ≡ phase → ((x : ℕ) → IsTurn x false was.node.phase phase) → IsAttended old → IsAttended (after_one old old.broker messages daemon later)
turns-attended old messages daemon was later phase there same is turn a =
    turned-attended old messages daemon was later false there same (λ x. subst (λ (p : Phase). IsTurn x false was.node.phase p) (sym is) (turn x)) a

-- a state stays attended after a daemon took data, or could not take it
takes-attended : (old : State) (messages : List Message) (daemon : DaemonId) (was : DaemonState) (bytes : List ℕ) (node : NodeState) (s g : ℕ) (reaction : Reaction) (later : DaemonState) → IsHanding old → IsAttended old → daemon_of old daemon ≡ Some was → part_at was.node.phase ≡ None → ((x : ℕ) → IsTurn x false was.node.phase Gone) → node.phase ≡ Raising s g →
    TakesData old.manifest old.limit was bytes node g reaction later → IsAttended (after_one old old.broker messages daemon later)
takes-attended old messages daemon was bytes node s g reaction later h a there alone turn raising (inl t) =
    attended-one old old.broker messages daemon was later there
    (record {
      at = λ server serves.
          let two : Some (beginning g t.served) ≡ Some server = sym (ap (λ (d : DaemonState). d.server) t.becomes) ∙ serves in
          let same : beginning g t.served ≡ server = cc in
          ap part_at phase ∙ ap (λ (x : ServerState). Some x.generation) same;
      has_seat = λ x f. absurd (let two : None ≡ Some x = sym (ap serving_at phase) ∙ f in let none : ⊥ = cc in none);
    })
    (λ other d apart f. serves-along old _ other d refl (a.daemons other d f))
    (λ seat server at. a.asked seat server (seated-back old old.broker messages daemon was later there refl (λ x f here. absurd (no-seat old daemon was h there alone x f here)) seat server at)) where
      phase : later.node.phase ≡ Holding g
      phase = ap (λ (d : DaemonState). d.node.phase) t.becomes ∙ ap (λ (p : Phase). (table.after (node_of node.versions node.sessions p) (table.Raised true)).phase) raising
takes-attended old messages daemon was bytes node s g reaction later h a there alone turn raising (inr t) =
    turns-attended old messages daemon was later Gone there (ap (λ (d : DaemonState). d.server) (t.loses).becomes)
    (ap (λ (d : DaemonState). d.node.phase) (t.loses).becomes ∙ ap (λ (p : Phase). (table.after (node_of node.versions node.sessions p) (table.Raised false)).phase) raising) turn a

-- a state stays attended if a daemon waits for the next part
reads-attended : (old : State) (messages : List Message) (daemon : DaemonId) (was : DaemonState) (s g v i n : ℕ) (later : DaemonState) → IsAttended old → daemon_of old daemon ≡ Some was → part_at was.node.phase ≡ None → later.server ≡ was.server → later.node.phase ≡ Reading s g v i n → IsAttended (after_one old old.broker messages daemon later)
reads-attended old messages daemon was s g v i n later a there alone same phase =
    attended-one old old.broker messages daemon was later there
    (record {
      at = λ server serves. absurd (
          let two : None ≡ Some server.generation = sym alone ∙ (a.daemons daemon was there).at server (sym same ∙ serves) in
          let none : ⊥ = cc in none);
      has_seat = λ x f. absurd (let two : None ≡ Some x = sym (ap serving_at phase) ∙ f in let none : ⊥ = cc in none);
    })
    (λ other d apart f. serves-along old _ other d refl (a.daemons other d f))
    (λ seat server at. a.asked seat server (seated-back old old.broker messages daemon was later there refl (λ x f here. same) seat server at))

-- a state stays attended after a message was heard
heard-attended : (old : State) (messages : List Message) (daemon : DaemonId) (was : DaemonState) (said : Message) (told : Answer) (reaction : Reaction) (later : DaemonState) → IsHanding old → IsAttended old → daemon_of old daemon ≡ Some was → table.heard was.node (table.Hear said) ≡ told →
    ReactsBy old.manifest old.limit (bytes_of said) was (table.after was.node (table.Hear said)) told reaction later → IsAttended (after_one old old.broker messages daemon later)
heard-attended old messages daemon was said (answer.MakeData s g v) reaction later h a there e (inl t) = hands-attended old messages daemon was s g v t.bytes reaction later a (handed-text old daemon was said s g v reaction later there e t)
heard-attended old messages daemon was said (answer.MakeData s g v) reaction later h a there e (inr t) =
    turns-attended old messages daemon was later (Serving g) there (ap (λ (d : DaemonState). d.server) t.becomes)
    (ap (λ (d : DaemonState). d.node.phase) t.becomes ∙ ap (λ (p : Phase). (table.after (node_of made.versions made.sessions p) table.DataFailed).phase) it.now)
    (λ x. subst (λ (p : Phase). IsTurn x false p (Serving g)) (sym it.was) (turn-failed s v g x)) a where
      it : MakesIt was.node.versions was.node.sessions was.node.phase said s g v
      it = makes-it was.node.versions was.node.sessions was.node.phase said s g v e

      made : NodeState
      made = table.after was.node (table.Hear said)
heard-attended old messages daemon was said (answer.GotData s g v) reaction later h a there e t =
    let it = takes-it was.node.versions was.node.sessions was.node.phase said s g v e in
    takes-attended old messages daemon was (bytes_of said) (table.after was.node (table.Hear said)) s g reaction later h a there (ap part_at it.was) (λ x. subst (λ (p : Phase). IsTurn x false p Gone) (sym it.was) (turn-gone s v x)) it.now t
heard-attended old messages daemon was said (answer.GotPart s g v i n) reaction later h a there e (inr l) =
    let it = part-it was.node.versions was.node.sessions was.node.phase said s g v i n e in
    let got = table.after was.node (table.Hear said) in
    turns-attended old messages daemon was later Gone there (ap (λ (d : DaemonState). d.server) l.becomes)
    (ap (λ (d : DaemonState). d.node.phase) l.becomes ∙ ap (λ (p : Phase). (table.after (node_of got.versions got.sessions p) (table.Fed false)).phase) it.now)
    (waits-alone s g v i n was.node.phase it.was).1 a
heard-attended old messages daemon was said (answer.GotPart s g v i n) reaction later h a there e (inl r) = in_ (nat_lt i n) refl r.reads where
  it : PartIt was.node.versions was.node.sessions was.node.phase said s g v i n
  it = part-it was.node.versions was.node.sessions was.node.phase said s g v i n e

  got : NodeState
  got = table.after was.node (table.Hear said)

  alone : (part_at was.node.phase ≡ None) × ((x : ℕ) → IsTurn x false was.node.phase Gone)
  alone = waits-alone s g v i n was.node.phase it.was

  in_ : (b : Bool) → nat_lt i n ≡ b → ReadsBy b old.manifest old.limit was (read_before i was ++ bytes_of said) got g reaction later → IsAttended (after_one old old.broker messages daemon later)
  in_ true more on = reads-attended old messages daemon was s g v (i + 1) n later a there alone.0 (ap (λ (d : DaemonState). d.server) on.becomes)
      (ap (λ (d : DaemonState). d.node.phase) on.becomes ∙ behind-more got s g v i n it.now more)
  in_ false last taken = takes-attended old messages daemon was (read_before i was ++ bytes_of said) (table.after got (table.Fed true)) s g reaction later h a there alone.0 alone.1 (behind-last got s g v i n it.now last) taken
heard-attended old messages daemon was said told reaction later h a there e t =
    by-turn old messages daemon was (table.after was.node (table.Hear said)) told reaction later there (λ g. turn-hear was.node.versions was.node.sessions was.node.phase said g) a t

pub hears-attended : (old : State) (daemon : DaemonId) (position : ℕ) (told : Happened) (new : State) → IsHanding old → IsAttended old → Hears old daemon position told new → IsAttended new
hears-attended old daemon position told new h a t =
    let r = t.reacts in
    subst IsAttended (sym r.makes) (heard-attended old _ daemon r.was t.said (table.heard (r.was).node (table.Hear t.said)) r.reaction r.later h a r.there refl r.does)

pub gives-up-attended : (old : State) (daemon : DaemonId) (told : Happened) (new : State) → IsAttended old → Reacts old daemon GivesUpSo told new → IsAttended new
gives-up-attended old daemon told new a r = subst IsAttended (sym r.makes)
    (by-turn old _ daemon r.was (table.after (r.was).node table.GiveUp) (table.heard (r.was).node table.GiveUp) r.reaction r.later r.there (λ g. turn-give_up (r.was).node.versions (r.was).node.sessions (r.was).node.phase g) a r.does)

pub drains-attended : (old : State) (daemon : DaemonId) (told : Happened) (new : State) → IsAttended old → Reacts old daemon IsReady told new → IsAttended new
drains-attended old daemon told new a r =
    let t = r.does in
    subst IsAttended (sym r.makes) (turned-attended old _ daemon r.was r.later (in_hand r.was == 0 && unposted r.was == 0) r.there (ap (λ (d : DaemonState). d.server) t.becomes)
    (λ g. subst (λ (d : DaemonState). IsTurn g (in_hand r.was == 0 && unposted r.was == 0) (r.was).node.phase d.node.phase) (sym t.becomes) (turn-drained (r.was).node.versions (r.was).node.sessions (r.was).node.phase (in_hand r.was) (unposted r.was) g)) a)
