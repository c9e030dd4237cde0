-- Daemons and messages stand after a message was heard, and after a daemon was drained or gave up.
use Rattle.std.proofs.Common.{◌≡◌, ℕ, ◌+◌, ◌-◌, ◌<◌, ◌≤◌, Bool, true, false, ◌&&◌, List, [], ◌∷◌, ◌++◌, length, Option, Some, None, refl, sym, ap, ◌∙◌, subst, inl, inr, ◌⊎◌, arith}
use Rattle.std.specs.Prelude.{◌==◌, nat_lt, unwrap_or, take, slice_get, if◌then◌else◌}
use Rattle.std.specs.Option.{option_and_then, option_map_or}
use Rattle.std.specs.List.{concat}
use Rattle.std.proofs.lemmas.Bool.Decides.{nat_tests}
use Rattle.eden_base.specs.declared.number.DaemonId.{DaemonId}
use Rattle.eden_base.proofs.NumberTests.{true-eq, eq-true, eq-false}
use Rattle.manifest.specs.Tree.{Tree, IsTree}
use Rattle.broker_core.specs.declared.seat.Seat.{Seat}
use Rattle.fuse_ops.specs.Served.{plain}
use Rattle.map_image.proofs.PartsLaws.{one_cutting}
use Rattle.map_codec.specs.Handover.{IsHandedOver}
use Rattle.map_codec.proofs.HandedOver.{taken_knows}
use Rattle.takeover_core.specs.Phases as table
use Rattle.takeover_core.specs.Histories.{seat_of}
use Rattle.takeover_core.specs.Node.{NodeState}
use Rattle.takeover_core.specs.declared.heard.Heard.{Heard as Answer}
use Rattle.takeover_core.specs.declared.heard.Heard.TheVariants as answer
use Rattle.takeover_core.specs.declared.message.Message.{Message}
use Rattle.takeover_core.specs.declared.message.Message.TheVariants.{Data, Part, Failed}
use Rattle.takeover_core.specs.declared.phase.Phase.{Phase}
use Rattle.takeover_core.specs.declared.phase.Phase.TheVariants.{Chosen, Raising, Taking, Reading, Holding, Serving, Making, Pinged, Handed, Gone}
use Rattle.world.specs.World.{World}
use Rattle.world.specs.Agreement.{Follows}
use Rattle.daemon.specs.Daemon.{DaemonState, turned_to, in_hand, unposted}
use Rattle.world.specs.Handing.{part_at, is_drained, is_out, reads_at, data_of, HasTheSeat, HasHanded, HasRead, IsPast, DaemonStands, HandsOnce, IsHanding}
use Rattle.daemon.specs.Server.{ServerState, IsIdle, at_position}
use Rattle.daemon.specs.Serving.{beginning}
use Rattle.world.specs.State.{State, daemon_of, with_daemon, is_data_of, IsSeated}
use Rattle.world.specs.Step.{Hears, Reacts}
use Rattle.daemon.specs.Saying.{what_is_said}
use Rattle.daemon.specs.Talking.{HasData, HandsOver, IsSent, ServesOn, TakesOver, CannotTakeOver, TakesData, ReadsOn, LosesPart, TakesPart, ReadsBy, ReactsBy, TurnsBy, IsReady, GivesUpSo, drained, bytes_of, read_before}
use Rattle.daemon.specs.declared.turn.Reaction.{Reaction}
use Rattle.daemon.specs.declared.turn.Reaction.TheVariants.{Ignores, Accepts, Says}
use Rattle.daemon.specs.declared.happened.Happened.{Happened}
use Rattle.world.proofs.Daemons.{daemon_of-with, holder-is, HolderIs, at-is}
use Rattle.world.proofs.Handing.{KeepsSeat, IsBase, all-at, once-at, handing-stays, handing-quiet, stays}
use Rattle.world.proofs.Once.{AreNoData, no-data-past, data-quiet, data-same, data-more, says-no-more}
use Rattle.world.proofs.Pieces.{IsPartOf, IsPieceOf, filter-at, filter-some, take-whole, handed-pieces, handed-data, handed-other, handed-past, reads-behind}
use Rattle.world.proofs.Standing.{Turned, turned-out, turned-stands, read-kept}
use Rattle.world.proofs.Turns.{IsTurn, is_data, says_data, node_of, turn-hear, turn-give_up, turn-drained, turn-made, turn-failed, turn-gone, turn-lost, hear-no-data, give_up-no-data, drained-no-data, MakesIt, makes-it, takes-it, part-it}

-- ---- a turn

-- a reaction says no data
abbrev pub SaysNoData : Reaction → Type 0
SaysNoData reaction = AreNoData (what_is_said reaction)

-- a reaction that is known to say no data says none
says-none : (is reaction : Reaction) → reaction ≡ is → SaysNoData is → SaysNoData reaction
says-none is reaction same quiet = subst SaysNoData (sym same) quiet

-- the state with the messages of a reaction added
abbrev saying : State → Reaction → State
saying old reaction = record old { messages = old.messages ++ what_is_said reaction }

said-base : (old : State) (reaction : Reaction) → IsBase old (saying old reaction) (what_is_said reaction)
said-base old reaction = record { manifest = refl; daemons = refl; messages = refl }

-- daemons and messages stand after a daemon turned and said no data
turned-handing : (old : State) (daemon : DaemonId) (was later : DaemonState) (idle : Bool) (reaction : Reaction) (new : State) → IsHanding old → Turned old daemon was later idle → SaysNoData reaction →
    new ≡ with_daemon (saying old reaction) daemon later → IsHanding new
turned-handing old daemon was later idle reaction new h t quiet makes =
    handing-quiet old (saying old reaction) new daemon was later (what_is_said reaction) (said-base old reaction) makes t.there h keeps (λ seat at. data-quiet old (what_is_said reaction) quiet seat)
    (turned-stands old daemon was later idle t (h.daemons daemon was t.there)) (no-data-past old.broker.last (what_is_said reaction) quiet) where
      keeps : KeepsSeat old new
      keeps = stays old (saying old reaction) new daemon was later (what_is_said reaction) (said-base old reaction) makes t.there h refl refl (says-no-more old (what_is_said reaction) quiet) (λ seat e here. turned-out old daemon was later idle t)

-- an answer of the table that says no data makes a reaction that says none
no_data_of : (a : Answer) (said : Message) → says_data a ≡ false → a ≡ answer.Say said → SaysNoData (Says said [])
no_data_of a said silent is = (ap says_data (sym is) ∙ silent, tt)

-- a daemon that turned to a phase by a message and waits for a part keeps what it read
read_by_turn : (was later : DaemonState) (node : NodeState) → later ≡ turned_to was node → (g : ℕ) → reads_at later.node.phase ≡ Some g → later.reading ≡ was.reading
read_by_turn was later node becomes g e =
    ap (λ (d : DaemonState). d.reading) becomes ∙ read-kept node.phase g was.reading (ap (λ (d : DaemonState). reads_at d.node.phase) (sym becomes) ∙ e)

-- daemons and messages stand after an answer of the table that brings no data
by-turn : (old : State) (daemon : DaemonId) (was : DaemonState) (node : NodeState) (a : Answer) (reaction : Reaction) (later : DaemonState) (new : State) → IsHanding old → daemon_of old daemon ≡ Some was →
    ((g : ℕ) → IsTurn g false was.node.phase node.phase) → says_data a ≡ false → TurnsBy was node a reaction later → new ≡ with_daemon (saying old reaction) daemon later → IsHanding new
by-turn old daemon was node a reaction later new h there turn silent t makes = in_ a refl t where
  turned : later ≡ turned_to was node → Turned old daemon was later false
  turned becomes = record {
    there = there;
    same = ap (λ (d : DaemonState). d.server) becomes;
    turn = λ g. subst (λ (d : DaemonState). IsTurn g false was.node.phase d.node.phase) (sym becomes) (turn g);
    empty = λ e. absurd (let none : ⊥ = cc in none);
    read = read_by_turn was later node becomes;
  }

  in_ : (b : Answer) → a ≡ b → TurnsBy was node b reaction later → IsHanding new
  in_ answer.Ignored e t = turned-handing old daemon was later false reaction new h (turned t.becomes) (says-none Ignores reaction t.reacts tt) makes
  in_ answer.Heard e t = turned-handing old daemon was later false reaction new h (turned t.becomes) (says-none Accepts reaction t.reacts tt) makes
  in_ (answer.Say said) e t = turned-handing old daemon was later false reaction new h (turned t.becomes) (says-none (Says said []) reaction t.reacts (no_data_of a said silent e)) makes
  in_ (answer.MakeData s g v) e t = absurd t
  in_ (answer.GotData s g v) e t = absurd t
  in_ (answer.GotPart s g v i n) e t = absurd t

-- ---- the data is made

-- a daemon that has the seat and serves is seated
seated-by : (state : State) (seat : Seat) (was : DaemonState) (server : ServerState) → HasTheSeat state seat was server → IsSeated state seat server
seated-by state seat was server has = record { has_seat = has.seated; serves = ap (option_and_then (λ (d : DaemonState). d.server)) has.there ∙ has.serves }

-- a daemon that was drained handed a text over, and serves what it served
pub record HandsText (old : State) (daemon : DaemonId) (was : DaemonState) (s g v : ℕ) (text : List ℕ) (reaction : Reaction) (later : DaemonState) : Type 0 where
  pub there : daemon_of old daemon ≡ Some was
  pub drained : was.node.phase ≡ Pinged g s v
  pub has : HasData was.server g v text
  pub said : IsSent v s g text (what_is_said reaction)
  pub phase : later.node.phase ≡ Handed g s
  pub same : later.server ≡ was.server

-- daemons and messages stand after a daemon handed over what it serves
hands-handing : (old : State) (daemon : DaemonId) (was : DaemonState) (s g v : ℕ) (text : List ℕ) (reaction : Reaction) (later : DaemonState) (new : State) → IsHanding old → HandsText old daemon was s g v text reaction later →
    new ≡ with_daemon (saying old reaction) daemon later → IsHanding new
hands-handing old daemon was s g v text reaction later new h t makes =
    handing-stays old (saying old reaction) new daemon was later more (said-base old reaction) makes t.there h keeps stands (handed-past (table.goes_whole v) old.broker.last s g text more (was_stands.at_most g part) t.said) once where
      more : List Message
      more = what_is_said reaction

      part : part_at was.node.phase ≡ Some g
      part = ap part_at t.drained

      not_out : is_out was.node.phase ≡ false
      not_out = ap is_out t.drained

      was_stands : DaemonStands old daemon was
      was_stands = h.daemons daemon was t.there

      -- if the seat is at this generation, its daemon is this one
      here : (seat : Seat) → old.broker.seat ≡ Some seat → (g == seat.generation) ≡ true → daemon ≡ seat.daemon
      here seat at e = was_stands.only seat at (ap seat_of t.drained ∙ ap Some (true-eq g seat.generation e))

      -- data of the seat that was out before is not of this generation
      said : (seat : Seat) (holder : DaemonState) (before : ServerState) → HasTheSeat old seat holder before → is_out holder.node.phase ≡ true → data_of seat.generation (old.messages ++ more) ≡ data_of seat.generation old.messages
      said seat holder before has out = in_ (g == seat.generation) refl where
        in_ : (b : Bool) → (g == seat.generation) ≡ b → data_of seat.generation (old.messages ++ more) ≡ data_of seat.generation old.messages
        in_ true e = absurd (
            let two : Some was ≡ Some holder = sym t.there ∙ ap (daemon_of old) (here seat has.seated e) ∙ has.there in
            let one : was ≡ holder = cc in
            let both : false ≡ true = sym not_out ∙ ap (λ (d : DaemonState). is_out d.node.phase) one ∙ out in
            let none : ⊥ = cc in none)
        in_ false e = data-same seat.generation old.messages more (handed-other (table.goes_whole v) s g seat.generation text more e t.said)

      turned : Turned old daemon was later false
      turned = record {
        there = t.there;
        same = t.same;
        turn = λ at. subst (λ (p : Phase). IsTurn at false was.node.phase p) (sym t.phase) (subst (λ (p : Phase). IsTurn at false p (Handed g s)) (sym t.drained) (turn-made s v g at));
        empty = λ x. absurd (let none : ⊥ = cc in none);
        read = λ at e. absurd (let two : None ≡ Some at = sym (ap reads_at t.phase) ∙ e in let none : ⊥ = cc in none);
      }

      keeps : KeepsSeat old new
      keeps = stays old (saying old reaction) new daemon was later more (said-base old reaction) makes t.there h refl refl said (λ seat at e. turned-out old daemon was later false turned)

      stands : DaemonStands old daemon later
      stands = turned-stands old daemon was later false turned was_stands

      now_there : daemon_of new daemon ≡ Some later
      now_there = ap (λ (x : State). daemon_of x daemon) makes ∙ daemon_of-with (saying old reaction) daemon was later t.there

      data_in : (o : Option ServerState) (server : ServerState) → o ≡ Some server → HasData o g v text → IsHandedOver server.served g v text
      data_in None server x d = absurd d
      data_in (Some other) server x d = let alike : other ≡ server = cc in subst (λ (sv : ServerState). IsHandedOver sv.served g v text) alike d

      all_said : (at : ℕ) → data_of at new.messages ≡ data_of at (old.messages ++ more)
      all_said at = ap (λ (x : State). data_of at x.messages) makes

      -- if the seat is at this generation, its daemon had it before, and serves what it served
      held : (seat : Seat) (now : DaemonState) (server : ServerState) → HasTheSeat new seat now server → (g == seat.generation) ≡ true → (later ≡ now) × HasTheSeat old seat was server
      held seat now server has e =
          let at : old.broker.seat ≡ Some seat = sym keeps.seat ∙ has.seated in
          let two : Some later ≡ Some now = sym now_there ∙ ap (daemon_of new) (here seat at e) ∙ has.there in
          let one : later ≡ now = cc in (
            one,
            record {
              seated = at;
              there = sym (ap (daemon_of old) (here seat at e)) ∙ t.there;
              serves = sym t.same ∙ ap (λ (d : DaemonState). d.server) one ∙ has.serves;
            },
          )

      -- the daemon hands over for the first time
      first : (seat : Seat) (now : DaemonState) (server : ServerState) → later ≡ now → was.server ≡ Some server → g ≡ seat.generation → (data_of seat.generation old.messages ≡ []) ⊎ HasHanded old seat was server → HasHanded new seat now server
      first seat now server one serves same (inr over) = absurd (let both : false ≡ true = sym not_out ∙ over.out in let none : ⊥ = cc in none)
      first seat now server one serves same (inl none) =
          let it : data_of g new.messages ≡ more = all_said g ∙ data-more g old.messages more ∙ ap (λ (ms : List Message). ms ++ data_of g more) (ap (λ (x : ℕ). data_of x old.messages) same ∙ none) ∙ handed-data (table.goes_whole v) s g text more t.said in
          record {
            session = s;
            version = v;
            text = text;
            out = sym (ap (λ (d : DaemonState). is_out d.node.phase) one) ∙ ap is_out t.phase;
            handed = subst (λ (x : ℕ). IsHandedOver server.served x v text) same (data_in was.server server serves t.has);
            said = subst (λ (x : ℕ). IsSent v s x text (data_of x new.messages)) same (subst (λ (ms : List Message). IsSent v s g text ms) (sym it) t.said);
          }

      once : HandsOnce new
      once seat now server has = in_ (g == seat.generation) refl where
        in_ : (b : Bool) → (g == seat.generation) ≡ b → (data_of seat.generation new.messages ≡ []) ⊎ HasHanded new seat now server
        in_ true e = let k = held seat now server has e in inr (first seat now server k.0 (k.1).serves (true-eq g seat.generation e) (h.once seat was server k.1))
        in_ false e = once-at old new seat now server keeps (all_said seat.generation ∙ data-same seat.generation old.messages more (handed-other (table.goes_whole v) s g seat.generation text more e t.said)) h.once has

-- a daemon that hands over hands a text over
pub handed-text : (old : State) (daemon : DaemonId) (was : DaemonState) (said : Message) (s g v : ℕ) (reaction : Reaction) (later : DaemonState) → daemon_of old daemon ≡ Some was → table.heard was.node (table.Hear said) ≡ answer.MakeData s g v →
    (t : HandsOver was (table.after was.node (table.Hear said)) s g v reaction later) → HandsText old daemon was s g v t.bytes reaction later
handed-text old daemon was said s g v reaction later there e t =
    let it = makes-it was.node.versions was.node.sessions was.node.phase said s g v e in
    record {
      there = there;
      drained = it.was;
      has = t.has;
      said = t.said;
      phase = ap (λ (d : DaemonState). d.node.phase) t.becomes;
      same = ap (λ (d : DaemonState). d.server) t.becomes;
    }

-- a daemon turned to Serving or Gone says no data, and reads nothing
record TurnsTo (was : DaemonState) (node : NodeState) (phase : Phase) (reaction : Reaction) (later : DaemonState) : Type 0 where
  pub becomes : later ≡ turned_to was node
  pub now : node.phase ≡ phase
  pub reads : reads_at phase ≡ None
  pub quiet : SaysNoData reaction

turns-handing : (old : State) (daemon : DaemonId) (was : DaemonState) (node : NodeState) (phase : Phase) (reaction : Reaction) (later : DaemonState) (new : State) → IsHanding old → daemon_of old daemon ≡ Some was → ((g : ℕ) → IsTurn g false was.node.phase phase) → TurnsTo was node phase reaction later →
    new ≡ with_daemon (saying old reaction) daemon later → IsHanding new
turns-handing old daemon was node phase reaction later new h there turn t makes = turned-handing old daemon was later false reaction new h (record {
  there = there;
  same = ap (λ (d : DaemonState). d.server) t.becomes;
  turn = λ g. subst (λ (p : Phase). IsTurn g false was.node.phase p) (sym now) (turn g);
  empty = λ e. absurd (let none : ⊥ = cc in none);
  read = read_by_turn was later node t.becomes;
}) t.quiet makes where
  now : later.node.phase ≡ phase
  now = ap (λ (d : DaemonState). d.node.phase) t.becomes ∙ t.now

-- the message that says that a session failed is no data
failed-quiet : (s : ℕ) (said : Message) (reaction : Reaction) → Failed s ≡ said → reaction ≡ Says said [] → SaysNoData reaction
failed-quiet s said reaction is reacts = says-none (Says said []) reaction reacts (sym (ap is_data is), tt)

-- daemons and messages stand if nothing could be written, and the daemon serves on
serves-handing : (old : State) (daemon : DaemonId) (was : DaemonState) (said : Message) (s g v : ℕ) (reaction : Reaction) (later : DaemonState) (new : State) → IsHanding old → daemon_of old daemon ≡ Some was →
    table.heard was.node (table.Hear said) ≡ answer.MakeData s g v → ServesOn was (table.after was.node (table.Hear said)) g v reaction later → new ≡ with_daemon (saying old reaction) daemon later → IsHanding new
serves-handing old daemon was said s g v reaction later new h there e t makes =
    turns-handing old daemon was (table.after made table.DataFailed) (Serving g) reaction later new h there (λ at. subst (λ (p : Phase). IsTurn at false p (Serving g)) (sym it.was) (turn-failed s v g at))
    (record { becomes = t.becomes; now = ap (λ (p : Phase). (table.after (node_of made.versions made.sessions p) table.DataFailed).phase) it.now; reads = refl; quiet = failed-quiet s t.said reaction is t.reacts }) makes where
      it : MakesIt was.node.versions was.node.sessions was.node.phase said s g v
      it = makes-it was.node.versions was.node.sessions was.node.phase said s g v e

      made : NodeState
      made = table.after was.node (table.Hear said)

      is : Failed s ≡ t.said
      is =
          let failed : table.said (table.heard (node_of made.versions made.sessions (Making g s v)) table.DataFailed) ≡ Some t.said =
          ap (λ (p : Phase). table.said (table.heard (node_of made.versions made.sessions p) table.DataFailed)) (sym it.now) ∙ t.says in
          let same : Failed s ≡ t.said = cc in same

-- ---- the data is taken

-- the bytes are data of a generation that was; if that is the seat's, they are the image of what the seat's daemon
-- handed over
record IsFromHolder (old : State) (g : ℕ) (bytes : List ℕ) : Type 0 where
  pub past : g ≤ old.broker.last
  pub from : (seat : Seat) (holder : DaemonState) (handed : ServerState) → HasTheSeat old seat holder handed → g ≡ seat.generation →
      (is_out holder.node.phase ≡ true) × (version : ℕ) × IsHandedOver handed.served g version bytes

-- a daemon whose phase has no generation does not have the seat
pub no-seat : (old : State) (daemon : DaemonId) (was : DaemonState) → IsHanding old → daemon_of old daemon ≡ Some was → part_at was.node.phase ≡ None → (seat : Seat) → old.broker.seat ≡ Some seat → daemon ≡ seat.daemon → ⊥
no-seat old daemon was h there none seat at here =
    let part : part_at was.node.phase ≡ Some seat.generation = (h.daemons daemon was there).part seat at here in
    let two : None ≡ Some seat.generation = sym none ∙ part in
    let no : ⊥ = cc in no

-- daemons and messages stand after data was restored: what is restored knows what the seat's daemon knows
takes-handing : (w : World) (old : State) (daemon : DaemonId) (was : DaemonState) (bytes : List ℕ) (node : NodeState) (s g : ℕ) (reaction : Reaction) (later : DaemonState) (new : State) → Follows w old → IsHanding old → daemon_of old daemon ≡ Some was → part_at was.node.phase ≡ None → node.phase ≡ Raising s g →
    IsFromHolder old g bytes → TakesOver was old.manifest old.limit bytes node g reaction later → new ≡ with_daemon (saying old reaction) daemon later → IsHanding new
takes-handing w old daemon was bytes node s g reaction later new m h there alone raising source t makes =
    handing-quiet old (saying old reaction) new daemon was later (what_is_said reaction) (said-base old reaction) makes there h keeps (λ seat at. data-quiet old (what_is_said reaction) quiet seat) stands (no-data-past old.broker.last (what_is_said reaction) quiet) where
      quiet : SaysNoData reaction
      quiet = says-none Accepts reaction t.reacts tt

      phase : later.node.phase ≡ Holding g
      phase = ap (λ (d : DaemonState). d.node.phase) t.becomes ∙ ap (λ (p : Phase). (table.after (node_of node.versions node.sessions p) (table.Raised true)).phase) raising

      no_seat : (seat : Seat) → old.broker.seat ≡ Some seat → daemon ≡ seat.daemon → ⊥
      no_seat = no-seat old daemon was h there alone

      keeps : KeepsSeat old new
      keeps = stays old (saying old reaction) new daemon was later (what_is_said reaction) (said-base old reaction) makes there h refl refl (says-no-more old (what_is_said reaction) quiet) (λ seat x here. absurd (no_seat seat x here))

      serves_this : (server : ServerState) → later.server ≡ Some server → beginning g t.served ≡ server
      serves_this server serves = let two : Some (beginning g t.served) ≡ Some server = sym (ap (λ (d : DaemonState). d.server) t.becomes) ∙ serves in cc

      knows_same : (seat : Seat) (holder : DaemonState) (handed : ServerState) → HasTheSeat old seat holder handed → (version : ℕ) → IsHandedOver handed.served g version bytes → plain t.served ≡ plain handed.served
      knows_same seat holder handed has version over =
          let its : HolderIs w old handed = holder-is w old seat handed m.knows (seated-by old seat holder handed has) in
          taken_knows old.manifest old.limit g g version bytes handed.served t.served (its.knows).sound
          (subst IsTree (sym (its.knows).tree_is) m.tree_is_tree) h.is_manifest
          (ap (λ (x : Tree). x.manifest) (its.knows).tree_is ∙ m.of_manifest ∙ m.manifest) over t.taken

      stands : DaemonStands old daemon later
      stands = record {
        at_most = λ n x.
            let two : Some g ≡ Some n = sym (ap part_at phase) ∙ x in
            let same : g ≡ n = cc in
            subst (λ (y : ℕ). y ≤ old.broker.last) same source.past;
        serves = λ n x. (beginning g t.served, ap (λ (d : DaemonState). d.server) t.becomes);
        drained = λ server serves d. subst IsIdle (serves_this server serves) (record { hand = refl; unposted = refl });
        only = λ seat x serving. absurd (let two : None ≡ Some seat.generation = sym (ap seat_of phase) ∙ serving in let none : ⊥ = cc in none);
        part = λ seat x here. absurd (no_seat seat x here);
        goes_on = λ seat x here in_s. absurd (no_seat seat x here);
        held = λ seat holder handed server has claims serves.
            let two : Some g ≡ Some seat.generation = sym (ap table.claim_wanted phase) ∙ claims in
            let same : g ≡ seat.generation = cc in
            let its = source.from seat holder handed has same in
            (its.0, ap (λ (x : ServerState). plain x.served) (sym (serves_this server serves)) ∙ knows_same seat holder handed has its.1 its.2);
        past = λ n e. absurd (let two : None ≡ Some n = sym (ap reads_at phase) ∙ e in let none : ⊥ = cc in none);
        reads = λ seat holder handed has e. absurd (let two : None ≡ Some seat.generation = sym (ap reads_at phase) ∙ e in let none : ⊥ = cc in none);
      }

-- daemons and messages stand if nothing could be restored, and the daemon is gone
cannot-handing : (old : State) (daemon : DaemonId) (was : DaemonState) (bytes : List ℕ) (node : NodeState) (s g : ℕ) (reaction : Reaction) (later : DaemonState) (new : State) → IsHanding old → daemon_of old daemon ≡ Some was → ((at : ℕ) → IsTurn at false was.node.phase Gone) → node.phase ≡ Raising s g →
    CannotTakeOver was old.manifest bytes node g reaction later → new ≡ with_daemon (saying old reaction) daemon later → IsHanding new
cannot-handing old daemon was bytes node s g reaction later new h there turn raising t makes =
    turns-handing old daemon was (table.after node (table.Raised false)) Gone reaction later new h there turn
    (record { becomes = (t.loses).becomes; now = ap (λ (p : Phase). (table.after (node_of node.versions node.sessions p) (table.Raised false)).phase) raising; reads = refl; quiet = failed-quiet s (t.loses).said reaction is (t.loses).reacts }) makes where
      is : Failed s ≡ (t.loses).said
      is =
          let failed : table.said (table.heard (node_of node.versions node.sessions (Raising s g)) (table.Raised false)) ≡ Some (t.loses).said =
          ap (λ (p : Phase). table.said (table.heard (node_of node.versions node.sessions p) (table.Raised false))) (sym raising) ∙ (t.loses).says in
          let same : Failed s ≡ (t.loses).said = cc in same

-- daemons and messages stand whether data could be restored or not
takes-data : (w : World) (old : State) (daemon : DaemonId) (was : DaemonState) (bytes : List ℕ) (node : NodeState) (s g : ℕ) (reaction : Reaction) (later : DaemonState) (new : State) → Follows w old → IsHanding old → daemon_of old daemon ≡ Some was → part_at was.node.phase ≡ None → ((at : ℕ) → IsTurn at false was.node.phase Gone) → node.phase ≡ Raising s g →
    IsFromHolder old g bytes → TakesData old.manifest old.limit was bytes node g reaction later → new ≡ with_daemon (saying old reaction) daemon later → IsHanding new
takes-data w old daemon was bytes node s g reaction later new m h there alone turn raising source (inl t) makes = takes-handing w old daemon was bytes node s g reaction later new m h there alone raising source t makes
takes-data w old daemon was bytes node s g reaction later new m h there alone turn raising source (inr t) makes = cannot-handing old daemon was bytes node s g reaction later new h there turn raising t makes

-- ---- what was heard

-- a message was said: it is at an index of the messages
record IsSaid (old : State) (said : Message) : Type 0 where
  pub index : ℕ
  pub at : slice_get old.messages index ≡ Some said

said-at : (old : State) (position : ℕ) (said : Message) → at_position old.messages position ≡ Some said → IsSaid old said
said-at old position said at = record { index = position - 1; at = at-is old.messages position said at }

-- a piece of the seat's data is a piece of what its holder handed over
piece-handed : (old : State) (seat : Seat) (holder : DaemonState) (handed : ServerState) (said : Message) → IsSaid old said → is_data_of seat.generation said ≡ true → (over : HasHanded old seat holder handed) → IsPieceOf over.text said
piece-handed old seat holder handed said at is over =
    filter-at (IsPieceOf over.text) (is_data_of seat.generation) old.messages at.index said (handed-pieces (table.goes_whole over.version) over.session seat.generation over.text (data_of seat.generation old.messages) over.said) at.at is

-- if a piece of the seat's data was said, the data is out
out-handed : (old : State) (seat : Seat) (holder : DaemonState) (handed : ServerState) (said : Message) → IsHanding old → IsSaid old said → is_data_of seat.generation said ≡ true → HasTheSeat old seat holder handed → HasHanded old seat holder handed
out-handed old seat holder handed said h at is has = in_ (h.once seat holder handed has) where
  in_ : (data_of seat.generation old.messages ≡ []) ⊎ HasHanded old seat holder handed → HasHanded old seat holder handed
  in_ (inl none) = absurd (filter-some (is_data_of seat.generation) old.messages at.index said at.at is none)
  in_ (inr over) = over

-- data in one message is from the seat's daemon
from-data : (old : State) (s g : ℕ) (bytes : List ℕ) → IsHanding old → IsSaid old (Data s g bytes) → IsFromHolder old g bytes
from-data old s g bytes h at = record {
  past = all-at (IsPast old.broker.last) old.messages at.index (Data s g bytes) h.messages at.at;
  from = λ seat holder handed has same.
      let is : is_data_of seat.generation (Data s g bytes) ≡ true = eq-true g seat.generation same in
      let over = out-handed old seat holder handed (Data s g bytes) h at is has in
      let text : bytes ≡ over.text = piece-handed old seat holder handed (Data s g bytes) at is over in
      (over.out, over.version, subst (λ (x : ℕ). IsHandedOver handed.served x over.version bytes) (sym same) (subst (λ (b : List ℕ). IsHandedOver handed.served seat.generation over.version b) (sym text) over.handed));
}

-- a daemon that waits for a part has no generation, and may be gone
pub waits-alone : (s g v i n : ℕ) (p : Phase) → ((p ≡ Chosen s v) × (i ≡ 1)) ⊎ (p ≡ Reading s g v i n) → (part_at p ≡ None) × ((at : ℕ) → IsTurn at false p Gone)
waits-alone s g v i n p (inl (is, first)) = (ap part_at is, λ at. subst (λ (x : Phase). IsTurn at false x Gone) (sym is) (turn-gone s v at))
waits-alone s g v i n p (inr is) = (ap part_at is, λ at. subst (λ (x : Phase). IsTurn at false x Gone) (sym is) (turn-lost s g v i n at))

-- ---- a part is taken

-- a daemon that waited for a part heard it
record HearsPart (old : State) (daemon : DaemonId) (was : DaemonState) (s g v i n : ℕ) (bytes : List ℕ) : Type 0 where
  pub there : daemon_of old daemon ≡ Some was
  pub waited : ((was.node.phase ≡ Chosen s v) × (i ≡ 1)) ⊎ (was.node.phase ≡ Reading s g v i n)
  pub said : IsSaid old (Part s g i n bytes)

-- a part, with the parts before it, is the beginning of what was handed over
read-here : (old : State) (daemon : DaemonId) (was : DaemonState) (s g v i n : ℕ) (bytes : List ℕ) (seat : Seat) (holder : DaemonState) (handed : ServerState) → IsHanding old → HearsPart old daemon was s g v i n bytes → HasTheSeat old seat holder handed → g ≡ seat.generation → (over : HasHanded old seat holder handed) →
    (p : IsPartOf over.text i n bytes) × (read_before i was ++ bytes ≡ concat (take i p.parts))
read-here old daemon was s g v i n bytes seat holder handed h t has same over = (p, in_ t.waited) where
  p : IsPartOf over.text i n bytes
  p = piece-handed old seat holder handed (Part s g i n bytes) t.said (eq-true g seat.generation same) over

  in_ : ((was.node.phase ≡ Chosen s v) × (i ≡ 1)) ⊎ (was.node.phase ≡ Reading s g v i n) → read_before i was ++ bytes ≡ concat (take i p.parts)
  in_ (inl (is, first)) =
      let none : read_before i was ≡ [] = ap (λ (b : Bool). if b then [] else unwrap_or was.reading []) (eq-true i 1 first) in
      reads-behind p.parts (read_before i was) bytes i p.least p.at (none ∙ ap (λ (k : ℕ). concat (take (k - 1) p.parts)) (sym first))
  in_ (inr is) =
      let reads : reads_at was.node.phase ≡ Some seat.generation = ap reads_at is ∙ ap Some same in
      let before = ((h.daemons daemon was t.there).reads seat holder handed has reads).read over in
      let its : HasRead (Reading s g v i n) was.reading over.text = subst (λ (x : Phase). HasRead x was.reading over.text) is before in
      behind_others its
    where
      behind_others : HasRead (Reading s g v i n) was.reading over.text → read_before i was ++ bytes ≡ concat (take i p.parts)
      behind_others (parts, are, count, kept, low, high) =
          let one : parts ≡ p.parts = one_cutting over.text parts p.parts are p.are in
          let later : (i == 1) ≡ false = eq-false i 1 (λ e. omega arith) in
          let read : read_before i was ≡ concat (take (i - 1) parts) = ap (λ (b : Bool). if b then [] else unwrap_or was.reading []) later ∙ ap (λ (o : Option (List ℕ)). unwrap_or o []) kept in
          reads-behind p.parts (read_before i was) bytes i p.least p.at (read ∙ ap (λ (ps : List (List ℕ)). concat (take (i - 1) ps)) one)

part-past : (old : State) (s g i n : ℕ) (bytes : List ℕ) → IsHanding old → IsSaid old (Part s g i n bytes) → g ≤ old.broker.last
part-past old s g i n bytes h at = all-at (IsPast old.broker.last) old.messages at.index (Part s g i n bytes) h.messages at.at

-- data whose last part was heard, with the parts before it, is from the seat's daemon
from-parts : (old : State) (daemon : DaemonId) (was : DaemonState) (s g v i n : ℕ) (bytes : List ℕ) → IsHanding old → HearsPart old daemon was s g v i n bytes → nat_lt i n ≡ false → IsFromHolder old g (read_before i was ++ bytes)
from-parts old daemon was s g v i n bytes h t last = record {
  past = part-past old s g i n bytes h t.said;
  from = λ seat holder handed has same.
      let over = out-handed old seat holder handed (Part s g i n bytes) h t.said (eq-true g seat.generation same) has in
      let r = read-here old daemon was s g v i n bytes seat holder handed h t has same over in
      let text : read_before i was ++ bytes ≡ over.text = whole over.text r.0 r.1 in
      (over.out, over.version, subst (λ (x : ℕ). IsHandedOver handed.served x over.version (read_before i was ++ bytes)) (sym same) (subst (λ (b : List ℕ). IsHandedOver handed.served seat.generation over.version b) (sym text) over.handed));
} where
  whole : (text : List ℕ) (p : IsPartOf text i n bytes) → read_before i was ++ bytes ≡ concat (take i p.parts) → read_before i was ++ bytes ≡ text
  whole text p is =
      let high : n ≤ i = grind (arith, nat_tests) in
      let count : n ≡ length p.parts = p.count in
      let all : take i p.parts ≡ p.parts = take-whole p.parts i (omega arith) in
      is ∙ ap concat all ∙ (p.are).joined

-- the phases after a part was read
pub behind-more : (node : NodeState) (s g v i n : ℕ) → node.phase ≡ Taking s g v i n → nat_lt i n ≡ true → (table.after node (table.Fed true)).phase ≡ Reading s g v (i + 1) n
behind-more node s g v i n taking more =
    ap (λ (p : Phase). (table.after (node_of node.versions node.sessions p) (table.Fed true)).phase) taking ∙ ap (λ (b : Bool). if b then Reading s g v (i + 1) n else Raising s g) more

pub behind-last : (node : NodeState) (s g v i n : ℕ) → node.phase ≡ Taking s g v i n → nat_lt i n ≡ false → (table.after node (table.Fed true)).phase ≡ Raising s g
behind-last node s g v i n taking last =
    ap (λ (p : Phase). (table.after (node_of node.versions node.sessions p) (table.Fed true)).phase) taking ∙ ap (λ (b : Bool). if b then Reading s g v (i + 1) n else Raising s g) last

-- daemons and messages stand if a daemon read a part and waits for the next
reads-handing : (old : State) (daemon : DaemonId) (was : DaemonState) (s g v i n : ℕ) (bytes : List ℕ) (node : NodeState) (reaction : Reaction) (later : DaemonState) (new : State) → IsHanding old → HearsPart old daemon was s g v i n bytes → node.phase ≡ Taking s g v i n → nat_lt i n ≡ true →
    ReadsOn was node (read_before i was ++ bytes) reaction later → new ≡ with_daemon (saying old reaction) daemon later → IsHanding new
reads-handing old daemon was s g v i n bytes node reaction later new h t taking more r makes =
    handing-quiet old (saying old reaction) new daemon was later (what_is_said reaction) (said-base old reaction) makes t.there h keeps (λ seat at. data-quiet old (what_is_said reaction) quiet seat) stands (no-data-past old.broker.last (what_is_said reaction) quiet) where
      quiet : SaysNoData reaction
      quiet = says-none Accepts reaction r.reacts tt

      phase : later.node.phase ≡ Reading s g v (i + 1) n
      phase = ap (λ (d : DaemonState). d.node.phase) r.becomes ∙ behind-more node s g v i n taking more

      no_seat : (seat : Seat) → old.broker.seat ≡ Some seat → daemon ≡ seat.daemon → ⊥
      no_seat = no-seat old daemon was h t.there (waits-alone s g v i n was.node.phase t.waited).0

      keeps : KeepsSeat old new
      keeps = stays old (saying old reaction) new daemon was later (what_is_said reaction) (said-base old reaction) makes t.there h refl refl (says-no-more old (what_is_said reaction) quiet) (λ seat x here. absurd (no_seat seat x here))

      has_read : (seat : Seat) (holder : DaemonState) (handed : ServerState) → HasTheSeat old seat holder handed → g ≡ seat.generation → (over : HasHanded old seat holder handed) → HasRead (Reading s g v (i + 1) n) (Some (read_before i was ++ bytes)) over.text
      has_read seat holder handed has same over =
          let it = read-here old daemon was s g v i n bytes seat holder handed h t has same over in
          let p = it.0 in
          let here : i ≡ i + 1 - 1 = omega arith in
          let low : 1 ≤ i = p.least in
          let high : i < n = grind (arith, nat_tests) in
          (p.parts, p.are, p.count, ap Some it.1 ∙ ap (λ (k : ℕ). Some (concat (take k p.parts))) here, omega arith, omega arith)

      stands : DaemonStands old daemon later
      stands = record {
        at_most = λ x e. absurd (let two : None ≡ Some x = sym (ap part_at phase) ∙ e in let none : ⊥ = cc in none);
        serves = λ x e. absurd (let two : None ≡ Some x = sym (ap part_at phase) ∙ e in let none : ⊥ = cc in none);
        drained = λ server serves d. absurd (let two : false ≡ true = sym (ap is_drained phase) ∙ d in let none : ⊥ = cc in none);
        only = λ seat x serving. absurd (let two : None ≡ Some seat.generation = sym (ap seat_of phase) ∙ serving in let none : ⊥ = cc in none);
        part = λ seat x here. absurd (no_seat seat x here);
        goes_on = λ seat x here in_s. absurd (no_seat seat x here);
        held = λ seat holder handed server has claims serves. absurd (let two : None ≡ Some seat.generation = sym (ap table.claim_wanted phase) ∙ claims in let none : ⊥ = cc in none);
        past = λ x e.
            let two : Some g ≡ Some x = sym (ap reads_at phase) ∙ e in
            let same : g ≡ x = cc in
            subst (λ (y : ℕ). y ≤ old.broker.last) same (part-past old s g i n bytes h t.said);
        reads = λ seat holder handed has e.
            let two : Some g ≡ Some seat.generation = sym (ap reads_at phase) ∙ e in
            let same : g ≡ seat.generation = cc in
            let is : is_data_of seat.generation (Part s g i n bytes) ≡ true = eq-true g seat.generation same in
            let over = out-handed old seat holder handed (Part s g i n bytes) h t.said is has in
            record {
              out = over.out;
              some = filter-some (is_data_of seat.generation) old.messages (t.said).index (Part s g i n bytes) (t.said).at is;
              read = λ of. subst (λ (q : Phase). HasRead q later.reading of.text) (sym phase)
                  (subst (λ (o : Option (List ℕ)). HasRead (Reading s g v (i + 1) n) o of.text) (sym (ap (λ (d : DaemonState). d.reading) r.becomes)) (has_read seat holder handed has same of));
            };
      }

-- daemons and messages stand if no image begins with what was read, and the daemon is gone
lost-handing : (old : State) (daemon : DaemonId) (was : DaemonState) (s g v i n : ℕ) (bytes read : List ℕ) (node : NodeState) (reaction : Reaction) (later : DaemonState) (new : State) → IsHanding old → HearsPart old daemon was s g v i n bytes → node.phase ≡ Taking s g v i n →
    LosesPart was node read reaction later → new ≡ with_daemon (saying old reaction) daemon later → IsHanding new
lost-handing old daemon was s g v i n bytes read node reaction later new h t taking l makes =
    turns-handing old daemon was (table.after node (table.Fed false)) Gone reaction later new h t.there (waits-alone s g v i n was.node.phase t.waited).1
    (record { becomes = l.becomes; now = ap (λ (p : Phase). (table.after (node_of node.versions node.sessions p) (table.Fed false)).phase) taking; reads = refl; quiet = failed-quiet s l.said reaction is l.reacts }) makes where
      is : Failed s ≡ l.said
      is =
          let failed : table.said (table.heard (node_of node.versions node.sessions (Taking s g v i n)) (table.Fed false)) ≡ Some l.said =
          ap (λ (p : Phase). table.said (table.heard (node_of node.versions node.sessions p) (table.Fed false))) (sym taking) ∙ l.says in
          let same : Failed s ≡ l.said = cc in same

part-handing : (w : World) (old : State) (daemon : DaemonId) (was : DaemonState) (s g v i n : ℕ) (bytes : List ℕ) (node : NodeState) (reaction : Reaction) (later : DaemonState) (new : State) → Follows w old → IsHanding old → HearsPart old daemon was s g v i n bytes → node.phase ≡ Taking s g v i n →
    TakesPart old.manifest old.limit was (read_before i was ++ bytes) node g i n reaction later → new ≡ with_daemon (saying old reaction) daemon later → IsHanding new
part-handing w old daemon was s g v i n bytes node reaction later new m h t taking (inr l) makes = lost-handing old daemon was s g v i n bytes (read_before i was ++ bytes) node reaction later new h t taking l makes
part-handing w old daemon was s g v i n bytes node reaction later new m h t taking (inl r) makes = in_ (nat_lt i n) refl r.reads where
  in_ : (b : Bool) → nat_lt i n ≡ b → ReadsBy b old.manifest old.limit was (read_before i was ++ bytes) node g reaction later → IsHanding new
  in_ true e on = reads-handing old daemon was s g v i n bytes node reaction later new h t taking e on makes
  in_ false e taken =
      let alone = waits-alone s g v i n was.node.phase t.waited in
      takes-data w old daemon was (read_before i was ++ bytes) (table.after node (table.Fed true)) s g reaction later new m h t.there alone.0 alone.1 (behind-last node s g v i n taking e) (from-parts old daemon was s g v i n bytes h t e) taken makes

-- ---- the events

heard-handing : (w : World) (old : State) (daemon : DaemonId) (was : DaemonState) (position : ℕ) (said : Message) (a : Answer) (reaction : Reaction) (later : DaemonState) (new : State) → Follows w old → IsHanding old → daemon_of old daemon ≡ Some was → at_position old.messages position ≡ Some said →
    table.heard was.node (table.Hear said) ≡ a → ReactsBy old.manifest old.limit (bytes_of said) was (table.after was.node (table.Hear said)) a reaction later → new ≡ with_daemon (saying old reaction) daemon later → IsHanding new
heard-handing w old daemon was position said (answer.MakeData s g v) reaction later new m h there at e (inl t) makes = hands-handing old daemon was s g v t.bytes reaction later new h (handed-text old daemon was said s g v reaction later there e t) makes
heard-handing w old daemon was position said (answer.MakeData s g v) reaction later new m h there at e (inr t) makes = serves-handing old daemon was said s g v reaction later new h there e t makes
heard-handing w old daemon was position said (answer.GotData s g v) reaction later new m h there at e t makes =
    let it = takes-it was.node.versions was.node.sessions was.node.phase said s g v e in
    takes-data w old daemon was (bytes_of said) (table.after was.node (table.Hear said)) s g reaction later new m h there (ap part_at it.was) (λ x. subst (λ (p : Phase). IsTurn x false p Gone) (sym it.was) (turn-gone s v x)) it.now
    (from-data old s g (bytes_of said) h (subst (λ (x : Message). IsSaid old x) it.got (said-at old position said at))) t makes
heard-handing w old daemon was position said (answer.GotPart s g v i n) reaction later new m h there at e t makes =
    let it = part-it was.node.versions was.node.sessions was.node.phase said s g v i n e in
    part-handing w old daemon was s g v i n (bytes_of said) (table.after was.node (table.Hear said)) reaction later new m h (record { there = there; waited = it.was; said = subst (λ (x : Message). IsSaid old x) it.got (said-at old position said at) }) it.now t makes
heard-handing w old daemon was position said a reaction later new m h there at e t makes =
    by-turn old daemon was (table.after was.node (table.Hear said)) a reaction later new h there (λ g. turn-hear was.node.versions was.node.sessions was.node.phase said g)
    (ap says_data (sym e) ∙ hear-no-data was.node.versions was.node.sessions was.node.phase said) t makes

pub hears-handing : (w : World) (old : State) (daemon : DaemonId) (position : ℕ) (told : Happened) (new : State) → Follows w old → IsHanding old → Hears old daemon position told new → IsHanding new
hears-handing w old daemon position told new m h t =
    let r = t.reacts in
    heard-handing w old daemon r.was position t.said (table.heard (r.was).node (table.Hear t.said)) r.reaction r.later new m h r.there t.at refl r.does r.makes

pub gives-up-handing : (old : State) (daemon : DaemonId) (told : Happened) (new : State) → IsHanding old → Reacts old daemon GivesUpSo told new → IsHanding new
gives-up-handing old daemon told new h r =
    by-turn old daemon r.was (table.after (r.was).node table.GiveUp) (table.heard (r.was).node table.GiveUp) r.reaction r.later new h r.there
    (λ g. turn-give_up (r.was).node.versions (r.was).node.sessions (r.was).node.phase g) (give_up-no-data (r.was).node.versions (r.was).node.sessions (r.was).node.phase) r.does r.makes

-- a daemon with nothing in hand or unposted is idle
none-left : (h u : ℕ) → (h == 0 && u == 0) ≡ true → (h ≡ 0) × (u ≡ 0)
none-left h u e = in_ (h == 0) (u == 0) refl refl e where
  in_ : (a b : Bool) → (h == 0) ≡ a → (u == 0) ≡ b → (a && b) ≡ true → (h ≡ 0) × (u ≡ 0)
  in_ true true x y z = (true-eq h 0 x, true-eq u 0 y)
  in_ true false x y z = absurd (let none : ⊥ = cc in none)
  in_ false b x y z = absurd (let none : ⊥ = cc in none)

nothing : {X : Type 0} (xs : List X) → length xs ≡ 0 → xs ≡ []
nothing [] e = refl
nothing (x ∷ xs) e = absurd (omega arith)

idle-left : (was : DaemonState) (server : ServerState) → was.server ≡ Some server → (in_hand was ≡ 0) × (unposted was ≡ 0) → IsIdle server
idle-left was server serves (hand, replies) = record {
  hand = nothing server.hand (ap (λ (o : Option ServerState). option_map_or (λ (s : ServerState). length s.hand) o 0) (sym serves) ∙ hand);
  unposted = nothing server.unposted (ap (λ (o : Option ServerState). option_map_or (λ (s : ServerState). length s.unposted) o 0) (sym serves) ∙ replies);
}

pub drains-handing : (old : State) (daemon : DaemonId) (told : Happened) (new : State) → IsHanding old → Reacts old daemon IsReady told new → IsHanding new
drains-handing old daemon told new h r = turned-handing old daemon r.was r.later left r.reaction new h turned quiet r.makes where
  left : Bool
  left = in_hand r.was == 0 && unposted r.was == 0

  t : IsReady r.was r.reaction r.later
  t = r.does

  turned : Turned old daemon r.was r.later left
  turned = record {
    there = r.there;
    same = ap (λ (d : DaemonState). d.server) t.becomes;
    turn = λ g. subst (λ (d : DaemonState). IsTurn g left (r.was).node.phase d.node.phase) (sym t.becomes) (turn-drained (r.was).node.versions (r.was).node.sessions (r.was).node.phase (in_hand r.was) (unposted r.was) g);
    empty = λ e server serves. idle-left r.was server serves (none-left (in_hand r.was) (unposted r.was) e);
    read = λ g e. ap (λ (d : DaemonState). d.reading) t.becomes;
  }

  quiet : SaysNoData r.reaction
  quiet = says-none (Says t.said []) r.reaction t.reacts
      (no_data_of (table.heard (r.was).node (drained r.was)) t.said (drained-no-data (r.was).node.versions (r.was).node.sessions (r.was).node.phase (in_hand r.was) (unposted r.was)) t.says)
