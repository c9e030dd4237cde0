-- Who is at the other end of the connections that are open, and who goes where there are too many. (This project's own.)
use Rattle.std.specs.Prelude.{ℕ, Bool, true, false, ◌&&◌, ◌||◌, ◌==◌, List, Option, Some, None, Result, Ok, Err, is_some, count_by, nat_lt, position, remove, if◌then◌else◌}
use Rattle.eden_base.specs.declared.number.DaemonId.{DaemonId}
use Rattle.broker_desk.specs.declared.peer.Peer.{Peer}
use Rattle.broker_desk.specs.declared.peer.Peer.TheVariants.{Unattached, Daemon, Worker}
use Rattle.broker_process.specs.declared.connection_handle.ConnectionHandle.{ConnectionHandle}
use Rattle.frames.specs.Lacking.{lacking}
use Rattle.frames.specs.declared.fault.FrameFault.{FrameFault}
use Rattle.broker_process.specs.declared.connections.Heard.{Heard}
use Rattle.broker_process.specs.declared.connections.Heard.TheVariants.{Unknown, Silence, Frame, Something}
use Rattle.broker_process.specs.declared.connections.OpenConnection.{OpenConnection}

-- whether nobody attached by a connection of this peer
abbrev pub has_not_attached : Peer → Bool
has_not_attached Unattached = true
has_not_attached (Daemon daemon) = false
has_not_attached (Worker daemon) = false

-- whether a worker of the daemon attached by a connection of this peer
abbrev pub is_worker_of : DaemonId → Peer → Bool
is_worker_of daemon Unattached = false
is_worker_of daemon (Daemon other) = false
is_worker_of daemon (Worker served) = served.0 == daemon.0

-- whether nobody attached by the connection
abbrev pub is_unattached : OpenConnection → Bool
is_unattached connection = has_not_attached connection.peer

-- whether the connection is that of a worker of the daemon
abbrev pub works_for : DaemonId → OpenConnection → Bool
works_for daemon connection = is_worker_of daemon connection.peer

-- the connection has this number
abbrev pub has_number : ℕ → OpenConnection → Bool
has_number number connection = connection.number == number

-- the connections without the one at this place, if there is one
abbrev pub without_at : List OpenConnection → Option ℕ → List OpenConnection
without_at connections (Some place) = remove connections place
without_at connections None = connections

-- whether nothing came for a moment
abbrev pub is_silence : Heard → Bool
is_silence Unknown = false
is_silence Silence = true
is_silence Frame = false
is_silence Something = false

-- whether something came that waits for no answer
abbrev pub is_something : Heard → Bool
is_something Unknown = false
is_something Silence = false
is_something Frame = false
is_something Something = true

-- whether a frame at the front is whole, by how many bytes it lacks
abbrev pub is_whole : Result ℕ FrameFault → Bool
is_whole (Ok count) = count == 0
is_whole (Err fault) = false

-- what the first bytes of a connection are: a whole frame, or else something
abbrev pub heard_of : List ℕ → Heard
heard_of bytes = if is_whole (lacking bytes) then Frame else Something

-- whether the connection is unattached, and nothing came by it for a moment
abbrev pub is_silent : OpenConnection → Bool
is_silent connection = is_unattached connection && is_silence connection.heard

-- whether the connection is unattached, though something came by it, and no frame of it waits for an answer
abbrev pub has_begun : OpenConnection → Bool
has_begun connection = is_unattached connection && is_something connection.heard

-- the first of two places, if there is one, or else the second
abbrev pub first_place : Option ℕ → Option ℕ → Option ℕ
first_place (Some place) other = Some place
first_place None other = other

-- where the unattached connection stands that goes first: the oldest silent one, or else the oldest one that began to say
-- something. One that nobody looked at stays, and so does one whose frame is not answered yet
abbrev pub place_to_give : List OpenConnection → Option ℕ
place_to_give connections =
    first_place (position is_silent connections) (position has_begun connections)

-- whether fewer than 64 connections are unattached
abbrev pub are_few : List OpenConnection → Bool
are_few connections = nat_lt (count_by is_unattached connections) 64

-- whether a connection may come
abbrev pub has_room : List OpenConnection → Bool
has_room connections = are_few connections || is_some (place_to_give connections)

-- the connections once there is room for one more
abbrev pub with_room : List OpenConnection → List OpenConnection
with_room connections = if are_few connections then connections else without_at connections (place_to_give connections)

-- the connection, by which this came if it has this number
abbrev pub noted : ℕ → Heard → OpenConnection → OpenConnection
noted number heard connection =
    if has_number number connection then record connection { heard = heard } else connection

-- the connection, of which the first frame is answered if it has this number, so that it is one of this peer
abbrev pub named : ℕ → Peer → OpenConnection → OpenConnection
named number peer connection =
    if has_number number connection then record connection { peer = peer; heard = Something } else connection

-- a connection that just came: it is unattached
abbrev pub entered : ℕ → ConnectionHandle → OpenConnection
entered number handle = record { number = number; peer = Unattached; heard = Unknown; handle = handle }
