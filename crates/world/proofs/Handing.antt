-- Daemons and messages stand after an event if they stood before, whatever happens to one daemon.
use Rattle.std.proofs.Common.{◌≡◌, ℕ, suc, zero, ◌<◌, ◌≤◌, true, List, [], ◌∷◌, ◌++◌, Some, None, refl, sym, ap, ◌∙◌, subst, inl, inr, ◌⊎◌, arith}
use Rattle.std.specs.Prelude.{slice_get}
use Rattle.std.specs.List.{AllByRecursion}
use Rattle.eden_base.specs.Limits.{last_generation}
use Rattle.manifest.specs.Manifest.{Manifest, IsManifest}
use Rattle.eden_base.specs.declared.number.DaemonId.{DaemonId}
use Rattle.broker_core.specs.declared.seat.Seat.{Seat}
use Rattle.fuse_ops.specs.Served.{ServedState, plain}
use Rattle.map_codec.specs.Handover.{IsHandedOver}
use Rattle.takeover_core.specs.Histories.{seat_of}
use Rattle.takeover_core.specs.Phases.{claim_wanted}
use Rattle.takeover_core.specs.declared.message.Message.{Message}
use Rattle.takeover_core.specs.declared.message.Message.TheVariants.{Data, Part}
use Rattle.takeover_core.specs.declared.phase.Phase.{Phase}
use Rattle.takeover_core.specs.declared.phase.Phase.TheVariants.{Holding, Serving, Draining, Pinged, Making, Handed}
use Rattle.daemon.specs.Daemon.{DaemonState}
use Rattle.world.specs.Handing.{part_at, is_drained, is_out, data_of, HasTheSeat, HasHanded, IsPast, DaemonStands, HandsOnce, IsHanding}
use Rattle.daemon.specs.Server.{ServerState}
use Rattle.daemon.specs.Talking.{IsSent}
use Rattle.world.specs.State.{State, daemon_of, with_daemon}
use Rattle.world.proofs.Daemons.{who}

-- ---- lists

pub all-along : {X : Type 0} (P Q : X → Type 0) → ((x : X) → P x → Q x) → (xs : List X) → AllByRecursion P xs → AllByRecursion Q xs
all-along P Q f [] all = tt
all-along P Q f (x ∷ xs) all = (f x all.0, all-along P Q f xs all.1)

pub all-append : {X : Type 0} (P : X → Type 0) (xs ys : List X) → AllByRecursion P xs → AllByRecursion P ys → AllByRecursion P (xs ++ ys)
all-append P [] ys all more = more
all-append P (x ∷ xs) ys all more = (all.0, all-append P xs ys all.1 more)

pub all-at : {X : Type 0} (P : X → Type 0) (xs : List X) (i : ℕ) (x : X) → AllByRecursion P xs → slice_get xs i ≡ Some x → P x
all-at P [] i x all at = absurd (let none : ⊥ = cc in none)
all-at P (y ∷ xs) zero x all at = let same : y ≡ x = cc in subst P same all.0
all-at P (y ∷ xs) (suc i) x all at = all-at P xs i x all.1 at

-- ---- phases

-- if a phase has the seat at a generation, its part is at that generation
pub seat-part : (p : Phase) (g : ℕ) → seat_of p ≡ Some g → part_at p ≡ Some g
seat-part (Serving h) g e = e
seat-part (Draining h s v) g e = e
seat-part (Pinged h s v) g e = e
seat-part (Making h s v) g e = e
seat-part (Handed h s) g e = e
seat-part p g e = absurd (let none : ⊥ = cc in none)

pub holding-part : (p : Phase) (g : ℕ) → claim_wanted p ≡ Some g → part_at p ≡ Some g
holding-part (Holding h) g e = e
holding-part p g e = absurd (let none : ⊥ = cc in none)

pub holding-out : (p : Phase) (g : ℕ) → claim_wanted p ≡ Some g → is_out p ≡ true
holding-out (Holding h) g e = refl
holding-out p g e = absurd (let none : ⊥ = cc in none)

pub out-drained : (p : Phase) → is_out p ≡ true → is_drained p ≡ true
out-drained (Handed g s) e = refl
out-drained (Holding g) e = refl
out-drained p e = absurd (let none : ⊥ = cc in none)

-- ---- the same seat

-- the daemon of the seat had the seat before; if its data was out, its data is out and it serves the same
pub record WasHolder (old : State) (seat : Seat) (now : DaemonState) (server : ServerState) : Type 0 where
  pub was : DaemonState
  pub before : ServerState
  pub has : HasTheSeat old seat was before
  pub out : is_out was.node.phase ≡ true → (is_out now.node.phase ≡ true) × (server.served ≡ before.served)

-- the seat, and what its daemon handed over, are as they were
pub record KeepsSeat (old new : State) : Type 0 where
  pub seat : new.broker.seat ≡ old.broker.seat
  pub last : new.broker.last ≡ old.broker.last
  pub holder : (seat : Seat) (now : DaemonState) (server : ServerState) → HasTheSeat new seat now server → WasHolder old seat now server
  pub said : (seat : Seat) (was : DaemonState) (before : ServerState) → HasTheSeat old seat was before → is_out was.node.phase ≡ true → data_of seat.generation new.messages ≡ data_of seat.generation old.messages

-- what is handed over after a change was handed over before
abbrev pub handed-back : (old new : State) (seat : Seat) (was now : DaemonState) (before server : ServerState) → is_out was.node.phase ≡ true → server.served ≡ before.served → data_of seat.generation new.messages ≡ data_of seat.generation old.messages → HasHanded new seat now server → HasHanded old seat was before
handed-back old new seat was now before server out served same over = record {
  session = over.session;
  version = over.version;
  text = over.text;
  out = out;
  handed = subst (λ (x : ServedState). IsHandedOver x seat.generation over.version over.text) served over.handed;
  said = subst (λ (ms : List Message). IsSent over.version over.session seat.generation over.text ms) same over.said;
}

pub daemon-along : (old new : State) (daemon : DaemonId) (was : DaemonState) → KeepsSeat old new → DaemonStands old daemon was → DaemonStands new daemon was
daemon-along old new daemon was k s = record {
  at_most = λ g e. subst (λ (l : ℕ). g ≤ l) (sym k.last) (s.at_most g e);
  serves = s.serves;
  drained = s.drained;
  only = λ seat e x. s.only seat (sym k.seat ∙ e) x;
  part = λ seat e x. s.part seat (sym k.seat ∙ e) x;
  goes_on = λ seat e x in_s. s.goes_on seat (sym k.seat ∙ e) x in_s;
  held = λ seat holder handed server has claims serves.
      let h = k.holder seat holder handed has in
      let d = s.held seat h.was h.before server h.has claims serves in
      let o = h.out d.0 in
      (o.0, d.1 ∙ ap plain (sym o.1));
  past = λ g e. subst (λ (l : ℕ). g ≤ l) (sym k.last) (s.past g e);
  reads = λ seat holder handed has e.
      let h = k.holder seat holder handed has in
      let r = s.reads seat h.was h.before h.has e in
      let o = h.out r.out in
      let same = k.said seat h.was h.before h.has r.out in
      record {
        out = o.0;
        some = λ none. r.some (sym same ∙ none);
        read = λ over. r.read (handed-back old new seat h.was holder h.before handed r.out o.1 same over);
      };
}

-- data of the seat that was handed over is still what its daemon handed over
pub once-at : (old new : State) (seat : Seat) (now : DaemonState) (server : ServerState) → KeepsSeat old new → data_of seat.generation new.messages ≡ data_of seat.generation old.messages → HandsOnce old → HasTheSeat new seat now server → (data_of seat.generation new.messages ≡ []) ⊎ HasHanded new seat now server
once-at old new seat now server k same once has =
    let h = k.holder seat now server has in
    in_ h same (once seat h.was h.before h.has)
  where
    in_ : (h : WasHolder old seat now server) → data_of seat.generation new.messages ≡ data_of seat.generation old.messages → (data_of seat.generation old.messages ≡ []) ⊎ HasHanded old seat h.was h.before → (data_of seat.generation new.messages ≡ []) ⊎ HasHanded new seat now server
    in_ h e (inl none) = inl (e ∙ none)
    in_ h e (inr over) =
        let o = h.out over.out in
        inr (record {
          session = over.session;
          version = over.version;
          text = over.text;
          out = o.0;
          handed = subst (λ (x : ServedState). IsHandedOver x seat.generation over.version over.text) (sym o.1) over.handed;
          said = subst (λ (ms : List Message). IsSent over.version over.session seat.generation over.text ms) (sym e) over.said;
        })

pub once-along : (old new : State) → KeepsSeat old new → ((seat : Seat) → old.broker.seat ≡ Some seat → data_of seat.generation new.messages ≡ data_of seat.generation old.messages) → HandsOnce old → HandsOnce new
once-along old new k same once seat now server has = once-at old new seat now server k (same seat (sym k.seat ∙ has.seated)) once has

-- ---- a later seat

-- the seat is at a later generation than all before
pub record IsLater (old new : State) (seat : Seat) : Type 0 where
  pub seated : new.broker.seat ≡ Some seat
  pub later : old.broker.last < seat.generation
  pub last : old.broker.last ≤ new.broker.last

pub daemon-later : (old new : State) (seat : Seat) (daemon : DaemonId) (was : DaemonState) → IsLater old new seat → (daemon ≡ seat.daemon → ⊥) → DaemonStands old daemon was → DaemonStands new daemon was
daemon-later old new seat daemon was l apart s = record {
  at_most = λ g e. let low : g ≤ old.broker.last = s.at_most g e in let last = l.last in omega arith;
  serves = s.serves;
  drained = s.drained;
  only = λ other e x. absurd (too_late other e (seat-part was.node.phase other.generation x));
  part = λ other e x. absurd (apart (x ∙ ap (λ (y : Seat). y.daemon) (the_seat other e)));
  goes_on = λ other e x in_s. absurd (apart (x ∙ ap (λ (y : Seat). y.daemon) (the_seat other e)));
  held = λ other holder handed server has claims serves. absurd (too_late other has.seated (holding-part was.node.phase other.generation claims));
  past = λ g e. let low : g ≤ old.broker.last = s.past g e in let last = l.last in omega arith;
  reads = λ other holder handed has e. absurd (
      let low : other.generation ≤ old.broker.last = s.past other.generation e in
      let same : other.generation ≡ seat.generation = ap (λ (y : Seat). y.generation) (the_seat other has.seated) in
      let later = l.later in omega arith);
} where
  the_seat : (other : Seat) → new.broker.seat ≡ Some other → other ≡ seat
  the_seat other e = let two : Some other ≡ Some seat = sym e ∙ l.seated in let is : other ≡ seat = cc in is

  too_late : (other : Seat) → new.broker.seat ≡ Some other → part_at was.node.phase ≡ Some other.generation → ⊥
  too_late other e part =
      let low : other.generation ≤ old.broker.last = s.at_most other.generation part in
      let same : other.generation ≡ seat.generation = ap (λ (y : Seat). y.generation) (the_seat other e) in
      let later = l.later in omega arith

-- a message stays one of a generation that was, if the last generation is later
pub past-later : (old new : ℕ) (m : Message) → old ≤ new → IsPast old m → IsPast new m
past-later old new (Data s g bytes) later low = omega arith
past-later old new (Part s g i n bytes) later low = omega arith
past-later old new m later low = tt

-- ---- no seat

pub daemon-free : (old new : State) (daemon : DaemonId) (was : DaemonState) → new.broker.seat ≡ None → new.broker.last ≡ old.broker.last → DaemonStands old daemon was → DaemonStands new daemon was
daemon-free old new daemon was free last s = record {
  at_most = λ g e. subst (λ (l : ℕ). g ≤ l) (sym last) (s.at_most g e);
  serves = s.serves;
  drained = s.drained;
  only = λ seat e x. absurd (nobody seat e);
  part = λ seat e x. absurd (nobody seat e);
  goes_on = λ seat e x in_s. absurd (nobody seat e);
  held = λ seat holder handed server has claims serves. absurd (nobody seat has.seated);
  past = λ g e. subst (λ (l : ℕ). g ≤ l) (sym last) (s.past g e);
  reads = λ seat holder handed has e. absurd (nobody seat has.seated);
} where
  nobody : (seat : Seat) → new.broker.seat ≡ Some seat → ⊥
  nobody seat e = let two : None ≡ Some seat = sym free ∙ e in let none : ⊥ = cc in none

pub once-free : (new : State) → new.broker.seat ≡ None → HandsOnce new
once-free new free seat was server has = absurd (let two : None ≡ Some seat = sym free ∙ has.seated in let none : ⊥ = cc in none)

-- ---- one daemon changed

-- a daemon whose data was out is still out after a change, and serves the same
pub record KeepsOut (was later : DaemonState) : Type 0 where
  pub server : (server : ServerState) → later.server ≡ Some server → (before : ServerState) × (was.server ≡ Some before)
      × (is_out was.node.phase ≡ true → (is_out later.node.phase ≡ true) × (server.served ≡ before.served))

-- if data of the seat is out, none of what was said more is data of the seat's generation
abbrev pub SaysNoMore : State → List Message → Type 0
SaysNoMore old said = (seat : Seat) (was : DaemonState) (before : ServerState) → HasTheSeat old seat was before → is_out was.node.phase ≡ true → data_of seat.generation said ≡ data_of seat.generation old.messages

-- the seat is kept if one daemon changed, and that daemon is still out if it was out and has the seat
pub keeps-seat : (old base : State) (daemon : DaemonId) (was later : DaemonState) → base.daemons ≡ old.daemons → base.broker.seat ≡ old.broker.seat → base.broker.last ≡ old.broker.last → SaysNoMore old base.messages → daemon_of old daemon ≡ Some was →
    ((seat : Seat) → old.broker.seat ≡ Some seat → daemon ≡ seat.daemon → KeepsOut was later) → KeepsSeat old (with_daemon base daemon later)
keeps-seat old base daemon was later daemons seat last said there keeps = record {
  seat = seat;
  last = last;
  said = said;
  holder = λ at now server has. holder_in at now server has (who base daemon at.daemon was later now base_there has.there);
} where
  base_there : daemon_of base daemon ≡ Some was
  base_there = subst (λ (ds : List DaemonState). daemon_of (record base { daemons = ds }) daemon ≡ Some was) (sym daemons) there

  old_there : (other : DaemonId) (d : DaemonState) → daemon_of base other ≡ Some d → daemon_of old other ≡ Some d
  old_there other d e = subst (λ (ds : List DaemonState). daemon_of (record old { daemons = ds }) other ≡ Some d) daemons e

  holder_in : (at : Seat) (now : DaemonState) (server : ServerState) → HasTheSeat (with_daemon base daemon later) at now server →
      ((at.daemon ≡ daemon) × (now ≡ later)) ⊎ ((at.daemon ≡ daemon → ⊥) × (daemon_of base at.daemon ≡ Some now)) → WasHolder old at now server
  holder_in at now server has (inl (same, is)) =
      let k = (keeps at (sym seat ∙ has.seated) (sym same)).server server (ap (λ (d : DaemonState). d.server) (sym is) ∙ has.serves) in
      record {
        was = was;
        before = k.0;
        has = record { seated = sym seat ∙ has.seated; there = ap (daemon_of old) same ∙ there; serves = k.1 };
        out = λ o. subst (λ (d : DaemonState). (is_out d.node.phase ≡ true) × (server.served ≡ (k.0).served)) (sym is) (k.2 o);
      }
  holder_in at now server has (inr (apart, e)) = record {
    was = now;
    before = server;
    has = record { seated = sym seat ∙ has.seated; there = old_there at.daemon now e; serves = has.serves };
    out = λ o. (o, refl);
  }

-- a state has all of another but its messages, to which more were added
pub record IsBase (old base : State) (more : List Message) : Type 0 where
  pub manifest : base.manifest ≡ old.manifest
  pub daemons : base.daemons ≡ old.daemons
  pub messages : base.messages ≡ old.messages ++ more

-- every daemon stands after one changed, if that one and each other one stands
pub every-daemon : (base new : State) (daemon : DaemonId) (was later : DaemonState) → new ≡ with_daemon base daemon later → daemon_of base daemon ≡ Some was → DaemonStands new daemon later →
    ((other : DaemonId) (d : DaemonState) → (other ≡ daemon → ⊥) → daemon_of base other ≡ Some d → DaemonStands new other d) → (other : DaemonId) (d : DaemonState) → daemon_of new other ≡ Some d → DaemonStands new other d
every-daemon base new daemon was later makes there stands others other d e = in_ (who base daemon other was later d there (subst (λ (s : State). daemon_of s other ≡ Some d) makes e)) where
  in_ : ((other ≡ daemon) × (d ≡ later)) ⊎ ((other ≡ daemon → ⊥) × (daemon_of base other ≡ Some d)) → DaemonStands new other d
  in_ (inl (same, is)) = subst (λ (x : DaemonId). DaemonStands new x d) (sym same) (subst (λ (x : DaemonState). DaemonStands new daemon x) (sym is) stands)
  in_ (inr (apart, there')) = others other d apart there'

-- ---- a state after one daemon changed

module _ (old base new : State) (daemon : DaemonId) (was later : DaemonState) (more : List Message) (is : IsBase old base more) (makes : new ≡ with_daemon base daemon later) (there : daemon_of old daemon ≡ Some was) (h : IsHanding old) where
  base_of : (other : DaemonId) (d : DaemonState) → daemon_of old other ≡ Some d → daemon_of base other ≡ Some d
  base_of other d e = subst (λ (ds : List DaemonState). daemon_of (record base { daemons = ds }) other ≡ Some d) (sym is.daemons) e

  old_of : (other : DaemonId) (d : DaemonState) → daemon_of base other ≡ Some d → daemon_of old other ≡ Some d
  old_of other d e = subst (λ (ds : List DaemonState). daemon_of (record old { daemons = ds }) other ≡ Some d) is.daemons e

  -- the messages after the change
  said_now : old.messages ++ more ≡ new.messages
  said_now = sym (ap (λ (s : State). s.messages) makes ∙ is.messages)

  -- daemons and messages stand if the daemon that changed stands, and so does each other daemon
  pub handing-where : new.broker.last ≤ last_generation → old.broker.last ≤ new.broker.last → DaemonStands new daemon later → ((other : DaemonId) (d : DaemonState) → (other ≡ daemon → ⊥) → DaemonStands old other d → DaemonStands new other d) →
      AllByRecursion (IsPast new.broker.last) more → HandsOnce new → IsHanding new
  handing-where low on stands others said once = record {
    is_manifest = subst (λ (m : Manifest). IsManifest m) (sym (ap (λ (s : State). s.manifest) makes ∙ is.manifest)) h.is_manifest;
    low = low;
    daemons = every-daemon base new daemon was later makes (base_of daemon was there) stands (λ other d apart e. others other d apart (h.daemons other d (old_of other d e)));
    messages = subst (λ (ms : List Message). AllByRecursion (IsPast new.broker.last) ms) said_now
        (all-append (IsPast new.broker.last) old.messages more (all-along (IsPast old.broker.last) (IsPast new.broker.last) (λ m low. past-later old.broker.last new.broker.last m on low) old.messages h.messages) said);
    once = once;
  }

  -- the seat and what was handed over are kept
  pub stays : base.broker.seat ≡ old.broker.seat → base.broker.last ≡ old.broker.last → SaysNoMore old (old.messages ++ more) → ((seat : Seat) → old.broker.seat ≡ Some seat → daemon ≡ seat.daemon → KeepsOut was later) → KeepsSeat old new
  stays seat last said keeps = subst (λ (s : State). KeepsSeat old s) (sym makes) (keeps-seat old base daemon was later is.daemons seat last (subst (λ (ms : List Message). SaysNoMore old ms) (sym is.messages) said) there keeps)

  pub handing-stays : KeepsSeat old new → DaemonStands old daemon later → AllByRecursion (IsPast old.broker.last) more → HandsOnce new → IsHanding new
  handing-stays k stands said once = handing-where (subst (λ (l : ℕ). l ≤ last_generation) (sym k.last) h.low) (let same = k.last in omega arith) (daemon-along old new daemon later k stands)
      (λ other d apart s. daemon-along old new other d k s) (subst (λ (l : ℕ). AllByRecursion (IsPast l) more) (sym k.last) said) once

  -- daemons and messages stand if nothing that was said is data of the seat's generation
  pub handing-quiet : KeepsSeat old new → ((seat : Seat) → old.broker.seat ≡ Some seat → data_of seat.generation (old.messages ++ more) ≡ data_of seat.generation old.messages) → DaemonStands old daemon later → AllByRecursion (IsPast old.broker.last) more → IsHanding new
  handing-quiet k quiet stands said = handing-stays k stands said
      (once-along old new k (λ seat at. subst (λ (ms : List Message). data_of seat.generation ms ≡ data_of seat.generation old.messages) said_now (quiet seat at)) h.once)
