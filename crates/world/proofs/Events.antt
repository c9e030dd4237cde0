-- Each event is moves that may happen, and the state matches the world after them.
use Rattle.std.proofs.Common.{◌≡◌, ℕ, ◌+◌, true, false, List, [], ◌∷◌, ◌++◌, Option, Some, None, is_some, refl, sym, ap, ◌∙◌, subst, inl, inr, ◌⊎◌}
use Rattle.std.specs.Prelude.{sum_by}
use Rattle.std.specs.Option.{option_map}
use Rattle.eden_base.specs.declared.number.DaemonId.{DaemonId}
use Rattle.manifest.specs.Manifest.{Manifest}
use Rattle.manifest.specs.Tree.{IsTree, tree_of}
use Rattle.fuse_wire.specs.declared.request.Request.{Request}
use Rattle.broker_core.specs.Broker.{issue_fault, mounted}
use Rattle.broker_core.specs.Traffic.{TrafficState, no_traffic}
use Rattle.broker_core.specs.declared.broker.IssueFault.{IssueFault}
use Rattle.broker_core.specs.declared.seat.Seat.{Seat}
use Rattle.broker_core.proofs.Accepted.{accepted-seated}
use Rattle.takeover_core.specs.declared.message.Message.TheVariants.{Offer}
use Rattle.daemon.specs.Daemon.{DaemonState}
use Rattle.daemon.specs.Server.{new_server}
use Rattle.world.specs.World.{World, Move, mount, owed, after}
use Rattle.world.specs.Agreement.{Knows, IsQuiet, Follows, move_of}
use Rattle.world.specs.Handing.{IsHanding}
use Rattle.daemon.specs.Refusals.{refusal_of_issue}
use Rattle.world.specs.State.{State, fault, daemon_of}
use Rattle.world.specs.Step.{Starts, Mounts, Makes, Refuses, Lacks, TakesMemory, OnceBy, Once}
use Rattle.world.specs.declared.event.Event.{Event}
use Rattle.world.specs.declared.event.Event.TheVariants.{Start, Mount, Issue, Take, Work, Post, Deliver, Hear, Drained, GiveUp, Claim, Crash, Do, Show}
use Rattle.daemon.specs.declared.happened.Happened.{Happened}
use Rattle.daemon.specs.declared.happened.Happened.TheVariants as happened
use Rattle.daemon.specs.declared.happened.Refusal.{Refusal}
use Rattle.daemon.specs.declared.happened.Refusal.TheVariants as refusal
use Rattle.world.proofs.Claiming.{claims-moved, unclaimed-moved}
use Rattle.world.proofs.Crashing.{crashes-moved}
use Rattle.world.proofs.Daemons.{goes-on, MayMount, may_mount, server_of-more}
use Rattle.world.proofs.Issuing.{issues-moved}
use Rattle.world.proofs.Keeping.{books-mounted, answered-mounted, seat-mounted}
use Rattle.world.proofs.Knowing.{new-knows}
use Rattle.world.proofs.Moving.{MovesBy, unmoved}
use Rattle.world.proofs.Taking.{takes-moved, posts-moved, delivers-moved}
use Rattle.world.proofs.Talks.{hears-moved, drains-moved, gives-up-moved}
use Rattle.world.proofs.Working.{works-moved}

-- ---- one event

refused-moves : (seat : Option Seat) (event : Event) (r : Refusal) → move_of seat event (happened.Refused r) ≡ []
refused-moves seat (Start versions) r = refl
refused-moves seat (Mount daemon) r = refl
refused-moves seat (Issue request) r = refl
refused-moves seat (Take daemon) r = refl
refused-moves seat (Work daemon position fails) r = refl
refused-moves seat (Post daemon position) r = refl
refused-moves seat Deliver r = refl
refused-moves seat (Hear daemon position) r = refl
refused-moves seat (Drained daemon) r = refl
refused-moves seat (GiveUp daemon) r = refl
refused-moves seat (Claim daemon) r = refl
refused-moves seat (Crash daemon) r = refl
refused-moves seat (Do request) r = refl
refused-moves seat Show r = refl

lacks-moved : (w : World) (old : State) (event : Event) (r : Refusal) (told : Happened) (new : State) → Follows w old → told ≡ happened.Refused r → new ≡ old → MovesBy w (move_of w.seat event told) old told new
lacks-moved w old event r told new m is same = subst (λ (x : Happened). MovesBy w (move_of w.seat event x) old x new) (sym is)
    (subst (λ (ms : List Move). MovesBy w ms old (happened.Refused r) new) (sym (refused-moves w.seat event r)) (unmoved w old (happened.Refused r) new tt refl (subst (λ (s : State). Follows w s) (sym same) m)))

refuses-moved : (w : World) (old : State) (event : Event) (r : Refusal) (told : Happened) (new : State) → Follows w old → IsHanding old → Refuses old event r told new → MovesBy w (move_of w.seat event told) old told new
refuses-moved w old (Claim daemon) r told new m h (is, same) = unclaimed-moved w old daemon r told new m h is same
refuses-moved w old event r told new m h (is, same) = lacks-moved w old event r told new m is same

-- a daemon that starts changes nothing for the broker, or for the daemon of the seat
starts-moved : (w : World) (old : State) (versions : List ℕ) (told : Happened) (new : State) → Follows w old → Starts old versions told new → MovesBy w (move_of w.seat (Start versions) told) old told new
starts-moved w old versions told new m (is, makes) = subst (λ (x : Happened). MovesBy w (move_of w.seat (Start versions) x) old x new) (sym is) (unmoved w old _ new tt refl (subst (λ (s : State). Follows w s) (sym makes) (record {
  manifest = m.manifest;
  is_tree = m.is_tree;
  tree_is_tree = m.tree_is_tree;
  of_manifest = m.of_manifest;
  books = m.books;
  seat_is_last = m.seat_is_last;
  quiet = m.quiet;
  orderly = m.orderly;
  answered = m.answered;
  knows = λ seat at. let k = m.knows seat at in (k.0, record { has_seat = at; serves = server_of-more old versions (old.messages ++ Offer versions ∷ []) seat.daemon ∙ (k.1).serves }, k.2, k.3);
  others_idle = λ daemon server serves other. m.others_idle daemon server (sym (server_of-more old versions (old.messages ++ Offer versions ∷ []) daemon) ∙ serves) other;
})))

-- if nothing is under way or held, nothing is owed
quiet-owed : (w : World) (n : ℕ) → IsQuiet w → w.held ≡ [] → owed w n ≡ 0
quiet-owed w n quiet held = rw (quiet.replies, quiet.items, held) refl

mounts-moved : (w : World) (old : State) (daemon : DaemonId) (told : Happened) (new : State) → Follows w old → fault old (Mount daemon) ≡ None → Mounts old daemon told new → MovesBy w (move_of w.seat (Mount daemon) told) old told new
mounts-moved w old daemon told new m clear made = subst (λ (x : Happened). MovesBy w (move_of w.seat (Mount daemon) x) old x new) (sym made.tells) (record {
  run = ((m.books).seat ∙ may.free, tt);
  matches = subst (λ (s : State). Follows w' s) (sym made.makes) (goes-on w w' old (mounted old.broker daemon) seat made.was made.later (new_server old.manifest old.limit (old.broker.last + 1)) m (ap (λ (d : DaemonState). d.server) made.does) refl is_tree refl (books-mounted w old.broker daemon m.books)
      (seat-mounted w daemon) (record { asked = (m.orderly).asked; once = (m.orderly).once; used = (m.orderly).used; good = (m.orderly).good }) (answered-mounted w daemon m.answered) refl
      (λ other h. absurd (let n : None ≡ Some h.0 = sym may.free ∙ h.1 in let none : ⊥ = cc in none)) made.there
      (subst (λ (x : Manifest). Knows w'.tree w'.names (owed w') (new_server x old.limit (old.broker.last + 1)).served) m.manifest
      (new-knows w.manifest old.limit (owed w') is_tree (λ n. quiet-owed w n quiet.0 ((m.seat_is_last).empty ((m.books).seat ∙ may.free)))))
      (record {
        singles = tt;
        asks = (quiet.0).asks ∙ ap (λ (t : TrafficState). t.untaken) (sym quiet.1);
        items = λ f. ap (λ xs. sum_by f xs) ((quiet.0).items ∙ ap (λ (t : TrafficState). t.items) (sym quiet.1));
        replies = λ f. ap (λ xs. sum_by f xs) ((quiet.0).replies ∙ ap (λ (t : TrafficState). t.posted) (sym quiet.1));
      }));
  forget = tt;
  answered = λ e. absurd (let none : ⊥ = cc in none);
}) where
  may : MayMount old (daemon_of old daemon)
  may = may_mount old (daemon_of old daemon) clear

  quiet : IsQuiet w × (old.broker.traffic ≡ no_traffic)
  quiet = m.quiet may.free

  w' : World
  w' = after w (mount daemon)

  is_tree : IsTree (tree_of w.manifest)
  is_tree = subst (λ (x : Manifest). IsTree (tree_of x)) (sym m.manifest) m.is_tree

  seat : Seat
  seat = record { generation = old.broker.last + 1; daemon = daemon }

issues-seated : (w : World) (old : State) (request : Request) (told : Happened) (new : State) → Follows w old → fault old (Issue request) ≡ None → Makes old (Issue request) told new → MovesBy w (move_of w.seat (Issue request) told) old told new
issues-seated w old request told new m clear made = in_ old.broker.seat refl (accepted-seated old.broker request free) where
  free : issue_fault old.broker request ≡ None
  free = fault_in (issue_fault old.broker request) clear where
    fault_in : (f : Option IssueFault) → option_map refusal_of_issue f ≡ None → f ≡ None
    fault_in None e = refl
    fault_in (Some f) e = absurd (let none : ⊥ = cc in none)

  in_ : (o : Option Seat) → old.broker.seat ≡ o → is_some old.broker.seat ≡ true → MovesBy w (move_of w.seat (Issue request) told) old told new
  in_ None e some = absurd (let s : false ≡ true = sym (ap is_some e) ∙ some in let none : ⊥ = cc in none)
  in_ (Some seat) e some = let k = m.knows seat e in issues-moved w old request told new seat k.0 m free k.1 made

-- an event that no cause stands against is moves
made-moved : (w : World) (old : State) (event : Event) (told : Happened) (new : State) → Follows w old → IsHanding old → fault old event ≡ None → Makes old event told new → MovesBy w (move_of w.seat event told) old told new
made-moved w old (Start versions) told new m h clear made = starts-moved w old versions told new m made
made-moved w old (Mount daemon) told new m h clear made = mounts-moved w old daemon told new m clear made
made-moved w old (Issue request) told new m h clear made = issues-seated w old request told new m clear made
made-moved w old (Take daemon) told new m h clear made = takes-moved w old daemon told new m clear made
made-moved w old (Work daemon position fails) told new m h clear made = works-moved w old daemon position fails told new m made
made-moved w old (Post daemon position) told new m h clear made = posts-moved w old daemon position told new m clear made
made-moved w old Deliver told new m h clear made = delivers-moved w old told new m made
made-moved w old (Hear daemon position) told new m h clear made = hears-moved w old daemon position told new m h made
made-moved w old (Drained daemon) told new m h clear made = drains-moved w old daemon told new m made
made-moved w old (GiveUp daemon) told new m h clear made = gives-up-moved w old daemon told new m made
made-moved w old (Claim daemon) told new m h clear made = claims-moved w old daemon told new m h clear made
made-moved w old (Crash daemon) told new m h clear made = crashes-moved w old daemon told new m made
made-moved w old event told new m h clear made = absurd made

-- Every event that is no `do`, made or refused, is moves that may happen, and the state matches the world after them.
pub once-moved : (w : World) (old : State) (event : Event) (told : Happened) (new : State) → Follows w old → IsHanding old → Once old event told new → MovesBy w (move_of w.seat event told) old told new
once-moved w old event told new m h once = in_ (fault old event) refl once where
  made_in : fault old event ≡ None → Makes old event told new ⊎ (TakesMemory event × Lacks old told new) → MovesBy w (move_of w.seat event told) old told new
  made_in clear (inl made) = made-moved w old event told new m h clear made
  made_in clear (inr (takes, r)) = lacks-moved w old event refusal.NoMemory told new m r.0 r.1

  in_ : (f : Option Refusal) → fault old event ≡ f → OnceBy old event f told new → MovesBy w (move_of w.seat event told) old told new
  in_ (Some r) e s = refuses-moved w old event r told new m h s
  in_ None e s = made_in e s
