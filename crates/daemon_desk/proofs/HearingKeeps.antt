-- What a desk keeps if its daemon hears a message, or gives up.
use Rattle.std.proofs.Common.{◌≡◌, ◌+◌, ℕ, Bool, true, false, List, ◌++◌, Option, Some, None, IsSome, inl, inr, refl, sym, ap, subst, ◌∙◌}
use Rattle.std.specs.Prelude.{nat_lt, if◌then◌else◌}
use Rattle.std.specs.Option.{IfSome}
use Rattle.manifest.specs.Manifest.{Manifest}
use Rattle.takeover_core.specs.Histories.{seat_of, is_given}
use Rattle.takeover_core.specs.Node.{NodeState}
use Rattle.takeover_core.specs.Phases as table
use Rattle.takeover_core.specs.declared.heard.Heard.{Heard as Answer}
use Rattle.takeover_core.specs.declared.heard.Heard.TheVariants as answer
use Rattle.takeover_core.specs.declared.message.Message.{Message}
use Rattle.takeover_core.specs.declared.phase.Phase.{Phase}
use Rattle.takeover_core.specs.declared.phase.Phase.TheVariants.{Taking, Reading, Raising, Handed}
use Rattle.daemon.specs.Daemon.{DaemonState, turned_to}
use Rattle.daemon.specs.Server.{ServerState, IsIdle}
use Rattle.daemon.specs.Talking.{HearsSo, ReactsBy, ReadsBy, TakesData, TurnsBy, GivesUpSo, brings_data, bytes_of, read_before}
use Rattle.daemon.specs.declared.turn.Reaction.{Reaction}
use Rattle.daemon.proofs.PhaseLemmas.{phase_for}
use Rattle.daemon_desk.specs.Inside.{IsAtSeat, IsOrderly, IsLentBy, IsServedAt, knows}
use Rattle.daemon_desk.proofs.Knowing.{knew, knew_at_end, knew_making}
use Rattle.daemon_desk.proofs.Quiet.{IsQuiet, quiet, quiet_end}
use Rattle.daemon_desk.proofs.Seating.{seat_knows, seat_stays}

pub not_both : (b : Bool) → b ≡ true → b ≡ false → ⊥
not_both b is none = cc

-- ---- by the phase and what is served alone

-- a daemon turned to another part in takeovers, and serves what it served
pub record Keeps (old : DaemonState) (node : NodeState) (new : DaemonState) : Type 0 where
  pub node_is : new.node ≡ node
  pub server_is : new.server ≡ old.server

pub kept : (old later new : DaemonState) → new ≡ later → later.server ≡ old.server → Keeps old later.node new
kept old later new is same = record {
  node_is = ap (λ (d : DaemonState). d.node) is;
  server_is = ap (λ (d : DaemonState). d.server) is ∙ same;
}

-- a daemon has nothing in hand
abbrev pub IsAllIdle : DaemonState → Type 0
IsAllIdle daemon = IfSome daemon.server IsIdle

-- a daemon that knows what is served serves it, unless it is lent
abbrev pub IsThere : Bool → DaemonState → Type 0
IsThere is_lent daemon = knows daemon.node.phase ≡ true → is_lent ≡ false → IsSome daemon.server

pub idle_still : (old new : DaemonState) (node : NodeState) → Keeps old node new → IsAllIdle old → IsAllIdle new
idle_still old new node keeps idle = subst (λ (server : Option ServerState). IfSome server IsIdle) (sym keeps.server_is) idle

pub there_still : (is_lent : Bool) (old new : DaemonState) (node : NodeState) → Keeps old node new → (knows node.phase ≡ true → knows old.node.phase ≡ true) → IsThere is_lent old → IsThere is_lent new
there_still is_lent old new node keeps knew there = λ later own.
    subst IsSome (sym keeps.server_is) (there (knew (ap (λ (n : NodeState). knows n.phase) (sym keeps.node_is) ∙ later)) own)

there_unknown : (is_lent : Bool) (old new : DaemonState) (node : NodeState) → Keeps old node new → knows node.phase ≡ false → IsThere is_lent new
there_unknown is_lent old new node keeps none = λ later own.
    absurd (not_both _ (ap (λ (n : NodeState). knows n.phase) (sym keeps.node_is) ∙ later) none)

-- what is served stays at the seat's generation, if the seat stays
pub seat_still : (old new : DaemonState) (node : NodeState) → Keeps old node new → ((g : ℕ) → seat_of node.phase ≡ Some g → seat_of old.node.phase ≡ Some g) → IsAtSeat old → IsAtSeat new
seat_still old new node keeps stays at = λ g seat.
    subst (IsServedAt g) (sym keeps.server_is) (at g (stays g (ap (λ (n : NodeState). seat_of n.phase) (sym keeps.node_is) ∙ seat)))

seat_unknown : (old new : DaemonState) (node : NodeState) → Keeps old node new → knows node.phase ≡ false → IsAtSeat new
seat_unknown old new node keeps none = λ g seat.
    absurd (not_both _ (seat_knows node.phase g (ap (λ (n : NodeState). seat_of n.phase) (sym keeps.node_is) ∙ seat)) none)

-- a daemon that has the seat after a message had it before
seat_heard : (old : NodeState) (said : Message) (g : ℕ) → seat_of (table.phase_after old (table.Hear said)) ≡ Some g → seat_of old.phase ≡ Some g
seat_heard old said g seat = seat_stays old.versions old.sessions old.phase (table.Hear said) g refl seat

-- a daemon that has the seat after a message, and a call after that, had it before
seat_behind : (old : NodeState) (said : Message) (call : table.Event) → ((g : ℕ) → is_given g call ≡ false) → (g : ℕ) → seat_of (table.phase_after (table.after old (table.Hear said)) call) ≡ Some g → seat_of old.phase ≡ Some g
seat_behind old said call none g seat =
    let node : NodeState = table.after old (table.Hear said) in
    seat_heard old said g (seat_stays node.versions node.sessions node.phase call g (none g) seat)

-- a daemon that just restored data has no seat yet
raised_unseated : (node : NodeState) (s g h : ℕ) → node.phase ≡ Raising s g → seat_of (table.phase_after node (table.Raised true)) ≡ Some h → ⊥
raised_unseated node s g h is seat =
    let was : seat_of node.phase ≡ Some h = seat_stays node.versions node.sessions node.phase (table.Raised true) h refl seat in
    let none : seat_of node.phase ≡ None = ap seat_of is in cc

stays_lent : (old new : DaemonState) (event : table.Event) → IsQuiet old.node event → Keeps old (table.after old.node event) new → IsLentBy old → IsLentBy new
stays_lent old new event calm keeps lent = record {
  may_take = ap (λ (n : NodeState). table.may_take n.phase) keeps.node_is ∙ calm.may_take;
  serves_nothing = keeps.server_is ∙ lent.serves_nothing;
}

-- ---- by what the table answers

turns : (old new : DaemonState) (node : NodeState) (a : Answer) (reaction : Reaction) → TurnsBy old node a reaction new → Keeps old node new
turns old new node answer.Ignored reaction h = kept old (turned_to old node) new h.becomes refl
turns old new node answer.Heard reaction h = kept old (turned_to old node) new h.becomes refl
turns old new node (answer.Say said) reaction h = kept old (turned_to old node) new h.becomes refl
turns old new node (answer.MakeData session generation version) reaction h = absurd h
turns old new node (answer.GotData session generation version) reaction h = absurd h
turns old new node (answer.GotPart session generation version position count) reaction h = absurd h

reacts_quietly : (manifest : Manifest) (limit : ℕ) (bytes : List ℕ) (old new : DaemonState) (node : NodeState) (a : Answer) (reaction : Reaction) → brings_data a ≡ false → ReactsBy manifest limit bytes old node a reaction new → Keeps old node new
reacts_quietly manifest limit bytes old new node answer.Ignored reaction none h = turns old new node answer.Ignored reaction h
reacts_quietly manifest limit bytes old new node answer.Heard reaction none h = turns old new node answer.Heard reaction h
reacts_quietly manifest limit bytes old new node (answer.Say said) reaction none h = turns old new node (answer.Say said) reaction h
reacts_quietly manifest limit bytes old new node (answer.MakeData session generation version) reaction none h = absurd (let no : ⊥ = cc in no)
reacts_quietly manifest limit bytes old new node (answer.GotData session generation version) reaction none h = absurd (let no : ⊥ = cc in no)
reacts_quietly manifest limit bytes old new node (answer.GotPart session generation version position count) reaction none h = absurd (let no : ⊥ = cc in no)

-- what a daemon serves once it heard a message: what it served; or what it took over, with nothing in hand
pub record Serves (is_lent : Bool) (old new : DaemonState) : Type 0 where
  pub idle : IsAllIdle old → IsAllIdle new
  pub there : IsThere is_lent old → IsThere is_lent new
  pub at : IsAtSeat old → IsAtSeat new

still : (is_lent : Bool) (old new : DaemonState) (node : NodeState) → Keeps old node new → (knows node.phase ≡ true → knows old.node.phase ≡ true) → ((g : ℕ) → seat_of node.phase ≡ Some g → seat_of old.node.phase ≡ Some g) → Serves is_lent old new
still is_lent old new node keeps knew stays = record {
  idle = idle_still old new node keeps;
  there = there_still is_lent old new node keeps knew;
  at = seat_still old new node keeps stays;
}

unknown : (is_lent : Bool) (old new : DaemonState) (node : NodeState) → Keeps old node new → knows node.phase ≡ false → Serves is_lent old new
unknown is_lent old new node keeps none =
    record { idle = idle_still old new node keeps; there = λ there. there_unknown is_lent old new node keeps none; at = λ at. seat_unknown old new node keeps none }

-- what a daemon serves after it got all data
takes_serve : (is_lent : Bool) (manifest : Manifest) (limit : ℕ) (bytes : List ℕ) (old new : DaemonState) (node : NodeState) (s g : ℕ) (reaction : Reaction) → node.phase ≡ Raising s g → TakesData manifest limit old bytes node g reaction new → Serves is_lent old new
takes_serve is_lent manifest limit bytes old new node s g reaction at (inl h) = record {
  idle = λ idle. subst IsAllIdle (sym h.becomes) (record { hand = refl; unposted = refl });
  there = λ there. subst (IsThere is_lent) (sym h.becomes) (λ later own. refl);
  at = λ was. subst IsAtSeat (sym h.becomes) (λ h seat. absurd (raised_unseated node s g h at seat));
}
takes_serve is_lent manifest limit bytes old new node s g reaction at (inr h) =
    unknown is_lent old new (table.after node (table.Raised false)) (kept old (turned_to old (table.after node (table.Raised false))) new h.loses.becomes refl)
    (ap (λ (p : Phase). knows (table.after_row node (table.row node p (table.Raised false))).phase) at)

-- what a daemon serves after it got a part, by whether others follow
part_serves : (is_lent : Bool) (manifest : Manifest) (limit : ℕ) (read : List ℕ) (old new : DaemonState) (node : NodeState) (s g v i n : ℕ) (reaction : Reaction) (follow : Bool) → nat_lt i n ≡ follow → node.phase ≡ Taking s g v i n → ReadsBy follow manifest limit old read node g reaction new → Serves is_lent old new
part_serves is_lent manifest limit read old new node s g v i n reaction true follow at h =
    unknown is_lent old new (table.after node (table.Fed true)) (kept old (record old { node = table.after node (table.Fed true); reading = Some read }) new h.becomes refl)
    (ap (λ (p : Phase). knows (table.after_row node (table.row node p (table.Fed true))).phase) at ∙ ap (λ (b : Bool). knows (if b then Reading s g v (i + 1) n else Raising s g)) follow)
part_serves is_lent manifest limit read old new node s g v i n reaction false follow at h =
    takes_serve is_lent manifest limit read old new (table.after node (table.Fed true)) s g reaction
    (ap (λ (p : Phase). (table.after_row node (table.row node p (table.Fed true))).phase) at ∙ ap (λ (b : Bool). if b then Reading s g v (i + 1) n else Raising s g) follow) h

heard_serves : (is_lent : Bool) (manifest : Manifest) (limit : ℕ) (bytes : List ℕ) (old new : DaemonState) (said : Message) (a : Answer) (reaction : Reaction) → table.heard old.node (table.Hear said) ≡ a → ReactsBy manifest limit bytes old (table.after old.node (table.Hear said)) a reaction new → Serves is_lent old new
heard_serves is_lent manifest limit bytes old new said (answer.MakeData s g v) reaction is (inl h) =
    let node : NodeState = record (table.after old.node (table.Hear said)) { phase = Handed g s } in
    still is_lent old new node (kept old (turned_to old node) new h.becomes refl) (λ later. knew_making old.node.versions old.node.sessions old.node.phase said s g v is) (λ at seat. seat_heard old.node said at (ap seat_of (phase_for old.node said (answer.MakeData s g v) is) ∙ seat))
heard_serves is_lent manifest limit bytes old new said (answer.MakeData s g v) reaction is (inr h) =
    let node : NodeState = table.after (table.after old.node (table.Hear said)) table.DataFailed in
    still is_lent old new node (kept old (turned_to old node) new h.becomes refl) (λ later. knew_making old.node.versions old.node.sessions old.node.phase said s g v is) (seat_behind old.node said table.DataFailed (λ h. refl))
heard_serves is_lent manifest limit bytes old new said (answer.GotData s g v) reaction is h =
    takes_serve is_lent manifest limit bytes old new (table.after old.node (table.Hear said)) s g reaction (phase_for old.node said (answer.GotData s g v) is) h
heard_serves is_lent manifest limit bytes old new said (answer.GotPart s g v i n) reaction is (inl h) =
    part_serves is_lent manifest limit (read_before i old ++ bytes) old new (table.after old.node (table.Hear said)) s g v i n reaction (nat_lt i n) refl (phase_for old.node said (answer.GotPart s g v i n) is) h.reads
heard_serves is_lent manifest limit bytes old new said (answer.GotPart s g v i n) reaction is (inr h) =
    let taking : NodeState = table.after old.node (table.Hear said) in
    let node : NodeState = table.after taking (table.Fed false) in
    unknown is_lent old new node (kept old (turned_to old node) new h.becomes refl)
    (ap (λ (p : Phase). knows (table.after_row taking (table.row taking p (table.Fed false))).phase) (phase_for old.node said (answer.GotPart s g v i n) is))
heard_serves is_lent manifest limit bytes old new said answer.Ignored reaction is h =
    still is_lent old new (table.after old.node (table.Hear said)) (turns old new (table.after old.node (table.Hear said)) answer.Ignored reaction h) (knew old.node.versions old.node.sessions old.node.phase said (ap brings_data is)) (seat_heard old.node said)
heard_serves is_lent manifest limit bytes old new said answer.Heard reaction is h =
    still is_lent old new (table.after old.node (table.Hear said)) (turns old new (table.after old.node (table.Hear said)) answer.Heard reaction h) (knew old.node.versions old.node.sessions old.node.phase said (ap brings_data is)) (seat_heard old.node said)
heard_serves is_lent manifest limit bytes old new said (answer.Say what) reaction is h =
    still is_lent old new (table.after old.node (table.Hear said)) (turns old new (table.after old.node (table.Hear said)) (answer.Say what) reaction h) (knew old.node.versions old.node.sessions old.node.phase said (ap brings_data is)) (seat_heard old.node said)

-- ---- over both calls

pub hears_keeps : (is_lent : Bool) (manifest : Manifest) (limit : ℕ) (old new : DaemonState) (said : Message) (reaction : Reaction) → IsOrderly is_lent old → HearsSo manifest limit old said reaction new → IsOrderly is_lent new
hears_keeps is_lent manifest limit old new said reaction orderly h =
    let node = table.after old.node (table.Hear said) in
    let a = table.heard old.node (table.Hear said) in
    let serves : Serves is_lent old new = heard_serves is_lent manifest limit (bytes_of said) old new said a reaction refl h in
    record {
      lent = λ e.
          let lent : IsLentBy old = orderly.lent e in
          let calm : IsQuiet old.node (table.Hear said) = quiet old.node.versions old.node.sessions old.node.phase said lent.may_take in
          stays_lent old new (table.Hear said) calm (reacts_quietly manifest limit (bytes_of said) old new node a reaction calm.no_data h) lent;
      idle = serves.idle orderly.idle;
      known = serves.there orderly.known;
      at = serves.at orderly.at;
    }

pub gives_up_keeps : (is_lent : Bool) (old new : DaemonState) (reaction : Reaction) → IsOrderly is_lent old → GivesUpSo old reaction new → IsOrderly is_lent new
gives_up_keeps is_lent old new reaction orderly h =
    let node = table.after old.node table.GiveUp in
    let keeps : Keeps old node new = turns old new node (table.heard old.node table.GiveUp) reaction h in
    record {
      lent = λ e.
          let lent : IsLentBy old = orderly.lent e in
          let calm : IsQuiet old.node table.GiveUp = quiet_end old.node.versions old.node.sessions old.node.phase lent.may_take in
          stays_lent old new table.GiveUp calm keeps lent;
      idle = idle_still old new node keeps orderly.idle;
      known = there_still is_lent old new node keeps (knew_at_end old.node.versions old.node.sessions old.node.phase) orderly.known;
      at = seat_still old new node keeps (λ g seat. seat_stays old.node.versions old.node.sessions old.node.phase table.GiveUp g refl seat) orderly.at;
    }
