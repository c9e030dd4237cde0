-- The connections of other daemons that wait to be served. (This project's own.)
use Rattle.std.specs.Prelude.{◌≡◌, ◌⊎◌, ℕ, ◌+◌, ◌==◌, ◌&&◌, not, Bool, true, false, List, ◌∷◌, ◌++◌, [], nat_lt, remove, Option, Some, None, if◌then◌else◌}
use Rattle.std.specs.List.{position_from}
use Rattle.frames.specs.declared.frame.Frame.{Frame}
use Rattle.frames.specs.declared.frame.Frame.TheVariants.{Takeover}
use Rattle.takeover_core.specs.declared.message.Message.TheVariants.{Offer as OfferMessage}
use Rattle.daemon_process.specs.declared.peer_queue.Admission.{Admission}
use Rattle.daemon_process.specs.declared.peer_queue.Admission.TheVariants.{Enters, Replaces, Waits}
use Rattle.daemon_process.specs.declared.peer_queue.SilentPeer.{SilentPeer}
use Rattle.daemon_process.specs.declared.peer_queue.OfferingPeer.{OfferingPeer}

-- whether a frame is a daemon's offer
abbrev pub is_offer : Frame → Bool
is_offer (Takeover (OfferMessage versions)) = true
is_offer frame = false

-- What becomes of a connection that comes, by how many said nothing yet and how many offered: it enters where fewer than 64
-- are there, and else it waits; one that waited for a while enters in place of one that said nothing.
abbrev pub admission : ℕ → ℕ → Bool → Admission
admission silent offers is_late =
    if nat_lt (silent + offers) 64 then Enters
    else if is_late && nat_lt 0 silent then Replaces
    else Waits

-- whether a connection may come, which becomes so of it
abbrev pub has_place : Admission → Bool
has_place Waits = false
has_place admission = true

-- those that said nothing yet, once a connection may come
abbrev pub silent_for : Admission → List SilentPeer → List SilentPeer
silent_for Replaces silent = remove silent 0
silent_for admission silent = silent

-- whether the connection that is served is sent away, by whether it has a takeover under way, and by how many offered and
-- wait
abbrev pub gives_way : Bool → ℕ → Bool
gives_way is_engaged offers = not is_engaged && nat_lt 0 offers

-- whether a connection has this number
abbrev pub has_number : ℕ → SilentPeer → Bool
has_number number peer = peer.number == number

-- the place of the connection of this number among those that said nothing yet
abbrev pub place_of : ℕ → List SilentPeer → Option ℕ
place_of number peers = position_from (has_number number) 0 peers

-- those that are left where the connection of this number leaves
abbrev pub left_at : List SilentPeer → Option ℕ → List SilentPeer
left_at peers (Some place) = remove peers place
left_at peers None = peers

-- those that offered, where one more offered by this frame: it is the last one; without memory it is dropped
abbrev pub OffersMore : Frame → List OfferingPeer → List OfferingPeer → Type 0
OffersMore frame old new = (offer : OfferingPeer) × (offer.frame ≡ frame) × (new ≡ old ++ offer ∷ [])

-- those that offered, where a connection offered that may be gone
abbrev pub Offers : Option ℕ → Frame → List OfferingPeer → List OfferingPeer → Type 0
Offers (Some place) frame old new = OffersMore frame old new ⊎ (new ≡ old)
Offers None frame old new = new ≡ old

-- the connection that offered first is taken, if there is one
abbrev pub TakesFirst : Option OfferingPeer → List OfferingPeer → List OfferingPeer → Type 0
TakesFirst (Some offer) old new = old ≡ offer ∷ new
TakesFirst None old new = (old ≡ []) × (new ≡ [])
