-- What a script says, what it prints, and what is promised of it. (This project's own.)
use Rattle.std.specs.Prelude.{◌≡◌, ℕ, ◌≤◌, List, [], ◌∷◌, ◌++◌, length, Option, Result, Ok}
use Rattle.std.specs.List.{AllByRecursion}
use Rattle.std.specs.Io.KnownBytes.{Appends}
use Rattle.manifest.specs.Manifest.{Manifest}
use Rattle.manifest.specs.ManifestText.{manifest_of}
use Rattle.manifest.specs.declared.fault.ManifestFault.{ManifestFault}
use Rattle.world.specs.State.{State, started}
use Rattle.world.specs.Step.{Step}
use Rattle.world.specs.World.{IsRun, first_world}
use Rattle.world.specs.Agreement.{all_moves, world_after, Matches, IsRunOfMoves, CountsAreOwed, NumbersNameTheirFirstFile, OneDaemonForEachGeneration, DataIsCurrent, RepliesAreAnswered, IsGoodForget}
use Rattle.world.specs.Attending.{RefusalsMayCome}
use Rattle.world.specs.Listings.{ListingsAreWhole}
use Rattle.world.specs.Reads.{ReadsAreOfTheirFiles}
use Rattle.world.specs.declared.event.Event.{Event}
use Rattle.daemon.specs.declared.happened.Happened.{Happened}
use Rattle.world_script.specs.Parts.{IsSplit, SaysEvents}
use Rattle.script_lines.specs.Printed.{printed}

-- what the text before the first marker writes: a manifest, or the first fault of one
pub record SaysManifest (script : List ℕ) (said : Result Manifest ManifestFault) : Type 0 where
  pub text : List ℕ
  pub events : List ℕ
  pub first : ℕ
  pub split : IsSplit script text events first
  pub said_is : manifest_of text ≡ said

-- a script may be run: it is short enough, and its manifest and all of its events can be read
pub record IsGood (script : List ℕ) : Type 0 where
  pub manifest : Manifest
  pub events : List Event
  pub says_manifest : SaysManifest script (Ok manifest)
  pub says_events : SaysEvents script events
  pub len : length script ≤ 1048576

-- events happen one after another, each with its outcome, and this text is all that they print
abbrev pub Prints : State → List Event → List (List Happened) → List ℕ → State → Type 0
Prints old [] [] text new = (text ≡ []) × (new ≡ old)
Prints old (event ∷ events) (outcome ∷ outcomes) text new =
    (between : State) × (rest : List ℕ)
    × Step old event outcome between × (text ≡ printed between event outcome ++ rest)
    × Prints between events outcomes rest new
Prints old _ _ text new = ⊥

-- What is promised of events, their outcomes and the state after them. The events' moves lead from before anything
-- happened to a world, which has no daemon's state in it. The moves are a run: each is legal in the world before it.
-- The state matches the world after them. The fields after `matches` follow from that, and are named as the clauses of
-- `run` in `world`.
pub record IsPromised (manifest : Manifest) (limit : ℕ) (events : List Event)
    (outcomes : List (List Happened)) (last : State) : Type 0 where
  pub run : IsRun (first_world manifest) (all_moves (first_world manifest) events outcomes)
  pub matches : Matches (world_after manifest events outcomes) last
  -- the seat, the last generation, the held counts, the tree and what is under way are the world's, and the seated
  -- daemon serves
  pub events_are_a_run_of_moves : IsRunOfMoves manifest events outcomes last
  -- the seated daemon counts each number as often as the world owes it: as often as the kernel holds it, replies under
  -- way give it out, and items under way take it back
  pub counts_are_what_is_owed : CountsAreOwed (world_after manifest events outcomes) last
  -- each number of the seated daemon names the file that it was first given out for in this mount
  pub numbers_name_their_first_file : NumbersNameTheirFirstFile (world_after manifest events outcomes) last
  -- all replies that were accepted at one generation came from one daemon
  pub one_daemon_for_each_generation : OneDaemonForEachGeneration (world_after manifest events outcomes)
  -- data of the seat's generation knows the world, and so does what is served by each daemon that may claim the seat
  pub handed_data_is_current : DataIsCurrent (world_after manifest events outcomes) last
  -- the world saw each posted reply posted, by the same daemon at the same generation
  pub replies_are_answered :
      RepliesAreAnswered (world_after manifest events outcomes) (started manifest limit) events outcomes last
  -- no forget was bad, or of the root
  pub no_bad_forget : AllByRecursion (AllByRecursion IsGoodForget) outcomes
  -- of a listing of a directory by any READDIRs, whatever happened between them, no entry is there twice, and each file
  -- that stayed in the directory is there if nothing was left at its end
  pub listings_are_whole :
      ListingsAreWhole (first_world manifest) (all_moves (first_world manifest) events outcomes)
  -- what a READ gave are bytes of the file that its number was first given out for, from its offset on, as many as were
  -- asked for or as there are
  pub reads_are_of_their_files :
      ReadsAreOfTheirFiles (first_world manifest) (all_moves (first_world manifest) events outcomes)
  -- no take or post was refused as Ended, Stale or NotAsked, and no claim as Unanswered
  pub refusals_may_come : RefusalsMayCome events outcomes

-- events happen from this state on, and what they print is written after what was there
pub record RunsEvents (start : State) (events : List Event) (before after : Option (List ℕ)) : Type 0 where
  pub outcomes : List (List Happened)
  pub text : List ℕ
  pub last : State
  pub prints : Prints start events outcomes text last
  pub written : Appends before after text

-- a script that may be run was run: its events happen from the start with its manifest, what they print is written, and
-- what is promised holds of them
pub record Runs (script : List ℕ) (limit : ℕ) (before after : Option (List ℕ)) : Type 0 where
  pub good : IsGood script
  pub runs : RunsEvents (started good.manifest limit) good.events before after
  pub promised : IsPromised good.manifest limit good.events runs.outcomes runs.last
