-- Who waits for which blob, what a look gives, and what is asked next. Each that waits has a ticket.
use Rattle.std.specs.Prelude.{◌≡◌, ◌==◌, ◌&&◌, ◌+◌, ◌/◌, ◌%◌, ◌^◌, ◌++◌, ◌∷◌, ℕ, Bool, true, false, not, nat_le, nat_lt, List, [], length, map, position, slice_get, slice_set, Option, Some, None, is_some, is_none, Result, Ok, Err, ⊤, if◌then◌else◌}
use Rattle.std.specs.List.{list_any, remove}
use Rattle.std.specs.Map.{lookup}
use mathlib.Core.Bool.{beq}
use Rattle.eden_base.specs.declared.memory.NoMemory.{NoMemory as WantOfMemory}
use Rattle.git_objects.specs.AheadQueue.{is_of, rest_of}
use Rattle.git_objects.specs.Blob.{IsSameBlob}
use Rattle.git_objects.specs.BlobCache.{Entry, Finds, is_large, kept_by, same_id}
use Rattle.git_objects.specs.declared.blob.Blob.{Blob}
use Rattle.git_objects.specs.declared.blob_cache.Kept.{Kept}
use Rattle.git_objects.specs.declared.desk.Arriving.{Arriving}
use Rattle.git_objects.specs.declared.desk.Asked.{Asked}
use Rattle.git_objects.specs.declared.desk.Asked.TheVariants.{Here, Waits}
use Rattle.git_objects.specs.declared.desk.Came.{Came}
use Rattle.git_objects.specs.declared.desk.Want.{Want}
use Rattle.git_objects.specs.declared.duty.Duty.{Duty}
use Rattle.git_objects.specs.declared.duty.Duty.TheVariants.{Ahead, Large, Small}
use Rattle.git_objects.specs.declared.fault.ObjectFault.{ObjectFault}
use Rattle.git_objects.specs.declared.fault.ObjectFault.TheVariants.{Late, NoMemory}
use Rattle.git_objects.specs.ObjectWait.{IsAfter, IsBegun}
use Rattle.git_objects.specs.declared.object_wait.ObjectWait.{ObjectWait}
use Rattle.git_objects.specs.declared.sought.Sought.{Sought}
use Rattle.git_objects.specs.UnderWay.{has_room, is_ahead, is_object}
use Rattle.std.specs.Duration.{as_nanos}
use Rattle.std.specs.declared.time.Instant.{Instant}

-- whether this is the one who waits by this ticket
abbrev pub has_ticket : ℕ → Want → Bool
has_ticket ticket want = want.ticket == ticket

-- who asks gets the blob if it is kept, and else waits behind all others
abbrev pub IsAsked : List Entry → ℕ → Sought → Option Instant → (came : ℕ) → List Want → List Want → Asked → Type 0
IsAsked entries tickets sought now came old new (Here blob) =
    Finds (lookup (same_id sought.object) entries) (Ok (Some blob)) × (new ≡ old)
IsAsked entries tickets sought now came old new (Waits ticket) =
    Finds (lookup (same_id sought.object) entries) (Ok None)
    × (ticket ≡ tickets)
    × ((wait : ObjectWait) × IsBegun now came wait
    × (new ≡ old ++ record { ticket = tickets; sought = sought; fault = None; wait = wait } ∷ []))

-- ---- a look

-- whether a blob that arrives is this one, and so many of its bytes are there
abbrev pub is_there : Arriving → ℕ → List ℕ → Bool
is_there arriving end object = same_id arriving.blob.object object && nat_le end arriving.count

-- a blob is found exactly if this is so, unless memory for one more owner is refused
abbrev pub FindsIf : Bool → Blob → Result (Option Blob) WantOfMemory → Type 0
FindsIf true blob (Ok (Some found)) = IsSameBlob blob found
FindsIf true blob (Ok None) = ⊥
FindsIf true blob (Err refused) = ⊤
FindsIf false blob found = found ≡ Ok None

-- the blob that arrives, once one has come
abbrev pub left_arriving : Option Arriving → List ℕ → Option Arriving
left_arriving None object = None
left_arriving (Some arriving) object = if same_id arriving.blob.object object then None else Some arriving

-- what is found of a blob: it is kept, or so many of its bytes have arrived
abbrev pub FindsBlob : Option Arriving → ℕ → List ℕ → Option Kept → Result (Option Blob) WantOfMemory → Type 0
FindsBlob arriving end object (Some kept) found = Finds (Some kept) found
FindsBlob (Some arriving) end object None found = FindsIf (is_there arriving end object) arriving.blob found
FindsBlob None end object None found = found ≡ Ok None

-- what a look tells, by what was found, by the fault and by whether the time is over; nothing if the wait goes on
abbrev pub verdict : Result (Option Blob) WantOfMemory → Option ObjectFault → Bool → Option (Result Blob ObjectFault)
verdict (Ok (Some blob)) fault is_over = Some (Ok blob)
verdict (Err refused) fault is_over = Some (Err NoMemory)
verdict (Ok None) (Some fault) is_over = Some (Err fault)
verdict (Ok None) None true = Some (Err Late)
verdict (Ok None) None false = None

-- one who waits, with another wait
abbrev pub with_wait : ObjectWait → Want → Want
with_wait wait want = record { ticket = want.ticket; sought = want.sought; fault = want.fault; wait = wait }

-- those who wait after this was told to the one at a place: that one waits no more if something was, and else waits so
abbrev pub told_wants : ℕ → List Want → Want → ObjectWait → Option (Result Blob ObjectFault) → List Want
told_wants place old want wait (Some told) = remove old place
told_wants place old want wait None = slice_set old place (with_wait wait want)

-- what a look at this moment tells to the one who waits at this place, by when something had come so often; one who has no place
-- gave up before
abbrev pub LooksAt :
    Option ℕ → Result (Option Blob) WantOfMemory → Option Instant → (came : ℕ) → List Want → Option (Result Blob ObjectFault) →
    List Want → Type 0
LooksAt None found now came old told new = (told ≡ verdict found None true) × (new ≡ old)
LooksAt (Some place) found now came old told new =
    (want : Want) × (slice_get old place ≡ Some want)
    × ((wait : ObjectWait) × IsAfter (not (came == want.wait.seen)) want.wait now came wait
    × (told ≡ verdict found want.fault (as_nanos wait.patience.left == 0))
    × (new ≡ told_wants place old want wait told))

-- a look by this ticket for the first bytes of a blob
pub record Looks (arriving : Option Arriving) (entries : List Entry) (ticket : ℕ) (sought : Sought) (end : ℕ)
    (now : Option Instant) (came : ℕ) (old : List Want) (told : Option (Result Blob ObjectFault)) (new : List Want) : Type 0 where
  pub found : Result (Option Blob) WantOfMemory
  pub finds : FindsBlob arriving end sought.object (lookup (same_id sought.object) entries) found
  pub tells : LooksAt (position (has_ticket ticket) old) found now came old told new

-- nobody waits at this place any more, if somebody did
abbrev pub ForgetsAt : Option ℕ → List Want → List Want → Type 0
ForgetsAt None old new = new ≡ old
ForgetsAt (Some place) old new = new ≡ remove old place

-- ---- what is asked next

-- whether git may be asked for this object: it is not kept, and git is not asked for it
abbrev pub is_open : List Entry → List (List ℕ) → List ℕ → Bool
is_open entries under_way object =
    not (is_some (lookup (same_id object) entries)) && not (list_any (is_object object) under_way)

-- whether this may be asked next by the process for large blobs, or by another one: no fault is known, and git may be asked
abbrev pub is_next : ℕ → List Entry → List (List ℕ) → Bool → Want → Bool
is_next bound entries under_way large want =
    is_none want.fault && beq (is_large want.sought.size bound) large && is_open entries under_way want.sought.object

-- what is asked next of what is wanted: the first that may be
abbrev pub next_of : ℕ → List Entry → List (List ℕ) → Bool → List Want → Option Sought
next_of bound entries under_way large [] = None
next_of bound entries under_way large (want ∷ wants) =
    if is_next bound entries under_way large want then Some want.sought else next_of bound entries under_way large wants

-- those asked ahead from the first on that git may be asked for
abbrev pub open_from : List Entry → List (List ℕ) → List Sought → List Sought
open_from entries under_way [] = []
open_from entries under_way (sought ∷ ahead) =
    if is_open entries under_way sought.object then sought ∷ ahead else open_from entries under_way ahead

-- what a thread asks for next by its duty. What is wanted never depends on what is asked ahead.
abbrev pub next_by : ℕ → List Entry → List (List ℕ) → Duty → List Want → List Sought → Option Sought
next_by bound entries under_way Large wants ahead = next_of bound entries under_way true wants
next_by bound entries under_way Small wants ahead = next_of bound entries under_way false wants
next_by bound entries under_way Ahead wants ahead = slice_get (open_from entries under_way ahead) 0

-- the same where one more can be noted
abbrev pub next_for : ℕ → List Entry → List (List ℕ) → Duty → List Want → List Sought → Option Sought
next_for bound entries under_way duty wants ahead =
    if has_room under_way then next_by bound entries under_way duty wants ahead else None

-- those asked ahead that are left behind that
abbrev pub left_ahead : List Entry → List (List ℕ) → Duty → List Sought → List Sought
left_ahead entries under_way duty ahead =
    if has_room under_way && is_ahead duty then rest_of (open_from entries under_way ahead) else ahead

-- what git is asked for behind that
abbrev pub begun : List (List ℕ) → Option Sought → List (List ℕ)
begun under_way None = under_way
begun under_way (Some sought) = under_way ++ sought.object ∷ []

-- ---- what is asked ahead

-- whether a blob of this size may be asked for ahead: 256 KiB at most, and 32 of them count for an eighth of the bound at most
abbrev pub is_small : ℕ → ℕ → Bool
is_small size bound = nat_le size 262144 && nat_le (size + 256) (bound / 256)

-- whether somebody waits for this object
abbrev pub is_for : List ℕ → Want → Bool
is_for object want = same_id want.sought.object object

-- whether a blob is asked for ahead: it is small, not kept and not asked for, and fewer than 64 are
abbrev pub is_welcome : ℕ → List Entry → List (List ℕ) → List Want → List Sought → Sought → Bool
is_welcome bound entries under_way wants ahead sought =
    is_small sought.size bound && is_open entries under_way sought.object && not (list_any (is_for sought.object) wants)
    && not (list_any (is_of sought.object) ahead) && nat_lt (length ahead) 64

-- ---- what git gave

-- how often something that was wanted came from the process for large blobs, or from the others
abbrev pub came_by : Came → Bool → ℕ
came_by came true = came.large
came_by came false = came.small

-- something came once more; the count begins again behind 2^64 - 1
abbrev pub came_more : Came → Bool → Came
came_more came true = record { large = (came.large + 1) % 2 ^ 64; small = came.small }
came_more came false = record { large = came.large; small = (came.small + 1) % 2 ^ 64 }

-- the count behind what a thread delivers: what was asked ahead counts for nobody
abbrev pub came_after : Came → Duty → Bool → Came
came_after came duty large = if is_ahead duty then came else came_more came large

-- the one who waits, with the fault if it is for this object
abbrev pub with_fault : List ℕ → ObjectFault → Want → Want
with_fault object fault want =
    if same_id want.sought.object object
    then record { ticket = want.ticket; sought = want.sought; fault = Some fault; wait = want.wait } else want

-- the fault that is told for what git gave, by whether a blob is kept
abbrev pub fault_by : Result Blob ObjectFault → Bool → Option ObjectFault
fault_by (Err fault) is_kept = Some fault
fault_by (Ok blob) true = None
fault_by (Ok blob) false = Some NoMemory

-- those who wait, once a fault is told to all who wait for this object
abbrev pub faulted : Option ObjectFault → List ℕ → List Want → List Want
faulted None object wants = wants
faulted (Some fault) object wants = map (with_fault object fault) wants

-- the blobs that are kept behind what git gave
abbrev pub entries_by : ℕ → List Entry → Result Blob ObjectFault → Bool → List Entry
entries_by bound entries (Ok blob) is_kept = kept_by bound entries is_kept blob
entries_by bound entries (Err fault) is_kept = entries

-- a blob that git gave is kept, or there is this fault
pub record Keeps (fetched : Result Blob ObjectFault) (bound : ℕ) (entries entries' : List Entry) (fault : Option ObjectFault) :
    Type 0 where
  pub is_kept : Bool
  pub keeps : entries' ≡ entries_by bound entries fetched is_kept
  pub faults : fault ≡ fault_by fetched is_kept

-- the fault that is told: none of what was asked ahead
abbrev pub told_by : Duty → Option ObjectFault → Option ObjectFault
told_by Ahead fault = None
told_by Large fault = fault
told_by Small fault = fault

-- a blob that git gave is kept, and a fault is told to all who wait for it
pub record Delivers (duty : Duty) (sought : Sought) (fetched : Result Blob ObjectFault) (bound : ℕ) (entries entries' : List Entry)
    (wants wants' : List Want) : Type 0 where
  pub is_kept : Bool
  pub keeps : entries' ≡ entries_by bound entries fetched is_kept
  pub tells : wants' ≡ faulted (told_by duty (fault_by fetched is_kept)) sought.object wants
