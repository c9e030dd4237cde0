-- What each event prints, and what `show` prints of the world. (This project's own.)
use Rattle.std.specs.Prelude.{ℕ, ◌+◌, ◌-◌, ◌*◌, ◌/◌, ◌%◌, List, [], ◌∷◌, ◌++◌, length, codes, slice_get, sum_by, count_by, Option, Some, None}
use Rattle.std.specs.Fmt.{decimal}
use Rattle.std.specs.Option.{option_and_then, option_map_or}
use Rattle.eden_base.specs.Words.{errno_name, kind_name}
use Rattle.eden_base.specs.declared.attr.Attr.{Attr}
use Rattle.eden_base.specs.declared.number.DaemonId.{DaemonId}
use Rattle.eden_base.specs.declared.number.Number.{Number}
use Rattle.eden_base.specs.declared.place.Place.{Place}
use Rattle.eden_base.specs.declared.place.Place.TheVariants.{Linked, Unlinked}
use Rattle.broker_core.specs.Held.{held_count}
use Rattle.broker_core.specs.Traffic.{taken_back, forgets_on, gives, entries_of}
use Rattle.broker_core.specs.declared.seat.Seat.{Seat}
use Rattle.fuse_ops.specs.Served.{ServedState}
use Rattle.fuse_wire.specs.Request.{item_of}
use Rattle.fuse_wire.specs.declared.request.Ask.{Ask}
use Rattle.fuse_wire.specs.declared.reply.Answer.{Answer}
use Rattle.fuse_wire.specs.declared.reply.Answer.TheVariants as answers
use Rattle.fuse_wire.specs.declared.reply.Answer.TheVariants.{Entry, Opened, Attrs, Done, Buffer, Error}
use Rattle.fuse_wire.specs.declared.reply.Extent.{Extent}
use Rattle.fuse_wire.specs.declared.reply.Reply.{Reply}
use Rattle.fuse_wire.specs.DirectoryEntries.{Dirent}
use Rattle.map_image.specs.Versions.{part_len}
use Rattle.takeover_core.specs.declared.message.Message.{Message}
use Rattle.takeover_core.specs.declared.message.Message.TheVariants.{Offer, Choice, NoCommon, Busy, Ready, Pong, Data, Part, Failed}
use Rattle.daemon.specs.Server.{at_position}
use Rattle.daemon.specs.Talking.{bytes_of}
use Rattle.script_lines.specs.Listed.{listing_of}
use Rattle.world.specs.State.{State, served_of, hand_of, unposted_of}
use Rattle.inode_map.specs.Words.{forgot_name}
use Rattle.daemon.specs.Refusals.{refusal_name}
use Rattle.world.specs.declared.event.Event.{Event}
use Rattle.world.specs.declared.event.Event.TheVariants.{Show}
use Rattle.entry_table.specs.declared.kept.Kept.{Kept}
use Rattle.daemon.specs.declared.happened.Happened.{Happened}
use Rattle.daemon.specs.declared.happened.Happened.TheVariants.{Started, Mounted, Asked, Took, TookForgets, Made, Forgot, Posted, Answered, Said, Heard, Ignored, Claimed, Crashed, Refused}
use Rattle.daemon.specs.declared.happened.Refusal.{Refusal}
use Rattle.daemon.specs.declared.happened.Refusal.TheVariants.{Stale, Unanswered, Undrained}

-- a line: its words, separated by one space each, and LF
abbrev pub line : List (List ℕ) → List ℕ
line [] = 10 ∷ []
line (word ∷ []) = word ++ 10 ∷ []
line (word ∷ next ∷ more) = word ++ 32 ∷ line (next ∷ more)

-- words, each followed by a space
abbrev pub spaced : List (List ℕ) → List ℕ
spaced [] = []
spaced (word ∷ more) = word ++ 32 ∷ spaced more

-- the last octal digit of a number
abbrev pub octal_digit : ℕ → ℕ
octal_digit n = 48 + n % 8

-- the last four octal digits of a number
abbrev pub octal : ℕ → List ℕ
octal n = octal_digit (n / 8 / 8 / 8) ∷ octal_digit (n / 8 / 8) ∷ octal_digit (n / 8) ∷ octal_digit n ∷ []

-- the words of a number and its file's attributes: `WORD N KIND PERM SIZE NLINK`
abbrev pub file_words : List ℕ → Number → Attr → List (List ℕ)
file_words word number attr =
    word ∷ decimal number.0 ∷ kind_name attr.kind ∷ octal attr.perm.bits ∷ decimal attr.size ∷ decimal attr.nlink ∷ []

-- the line of an entry of a directory: `listed NUMBER NEXT KIND NAME`, with the name byte for byte
abbrev pub entry_line : Dirent → List ℕ
entry_line entry =
    line (codes "listed" ∷ decimal entry.number ∷ decimal entry.next ∷ kind_name entry.kind ∷ entry.name ∷ [])

-- the lines of entries
abbrev pub entry_lines : List Dirent → List ℕ
entry_lines [] = []
entry_lines (entry ∷ more) = entry_line entry ++ entry_lines more

-- the lines of a buffer: `listing COUNT` and its entries, or `buffer LENGTH` if its bytes are no entries
abbrev pub buffer_lines : List ℕ → Option (List Dirent) → List ℕ
buffer_lines bytes (Some entries) = line (codes "listing" ∷ decimal (length entries) ∷ []) ++ entry_lines entries
buffer_lines bytes None = line (codes "buffer" ∷ decimal (length bytes) ∷ [])

-- the line of an extent, the part of a file that was read: `extent FILE OFFSET LENGTH`
abbrev pub extent_line : Extent → List ℕ
extent_line extent =
    line (codes "extent" ∷ decimal extent.file.0 ∷ decimal extent.offset ∷ decimal extent.len ∷ [])

-- the line of an answer, and the entries of a listing behind it
abbrev pub answer_lines : Answer → List ℕ
answer_lines (Entry number attr) = line (file_words (codes "entry") number attr)
answer_lines (Opened number attr) = line (file_words (codes "opened") number attr)
answer_lines (Attrs number attr) = line (file_words (codes "attr") number attr)
answer_lines Done = line (codes "done" ∷ [])
answer_lines (Buffer bytes) = buffer_lines bytes (listing_of bytes)
answer_lines (answers.Extent extent) = extent_line extent
answer_lines (Error errno) = line (codes "error" ∷ errno_name errno ∷ [])

-- the line of a reply: `WORD U`, and its answer; the entries of a listing stand behind it
abbrev pub reply_line : List ℕ → Reply → List ℕ
reply_line word reply = spaced (word ∷ decimal reply.unique ∷ []) ++ answer_lines reply.answer

-- the words of a request that waits: an ask's with its unique, a forget's without
abbrev pub asked_words : Option ℕ → List (List ℕ)
asked_words (Some unique) = codes "asked" ∷ decimal unique ∷ []
asked_words None = codes "asked" ∷ []

-- the words of a refusal after its name: its values
abbrev pub refusal_values : Refusal → List (List ℕ)
refusal_values (Stale now) = decimal now ∷ []
refusal_values (Unanswered asks) = decimal asks ∷ []
refusal_values (Undrained in_hand unposted) = decimal in_hand ∷ decimal unposted ∷ []
refusal_values refusal = []

-- the line of a refusal: its name and its values
abbrev pub refusal_line : Refusal → List ℕ
refusal_line refusal = line (codes "refused" ∷ refusal_name refusal ∷ refusal_values refusal)

-- how many bytes of data the message at a position carries; 0 if there is no such message
abbrev pub length_at : List Message → ℕ → ℕ
length_at messages position = option_map_or (λ (said : Message). length (bytes_of said)) (at_position messages position) 0

-- the length of a text in `count` parts, the first of which is the message at `position`; each part but the last is
-- full
abbrev pub total_length : List Message → ℕ → ℕ → ℕ
total_length messages position count = (count - 1) * part_len + length_at messages (position + (count - 1))

-- the words of the message at a position, by its kind; for data they say how many bytes it has
abbrev pub message_words : List Message → ℕ → Message → List (List ℕ)
message_words messages position (Offer versions) = codes "offer" ∷ []
message_words messages position (Choice session version) = codes "choice" ∷ decimal session ∷ decimal version ∷ []
message_words messages position NoCommon = codes "nocommon" ∷ []
message_words messages position Busy = codes "busy" ∷ []
message_words messages position (Ready session generation) =
    codes "ready" ∷ decimal session ∷ decimal generation ∷ []
message_words messages position (Pong session) = codes "pong" ∷ decimal session ∷ []
message_words messages position (Data session generation bytes) =
    codes "data" ∷ decimal session ∷ decimal generation ∷ decimal (length bytes) ∷ []
message_words messages position (Part session generation index count bytes) =
    codes "parts" ∷ decimal session ∷ decimal generation ∷ decimal count
    ∷ decimal (total_length messages position count) ∷ []
message_words messages position (Failed session) = codes "failed" ∷ decimal session ∷ []

-- the line of the message at a position, `said K MESSAGE`; no line if there is no such message
abbrev pub said_line : List Message → ℕ → Option Message → List ℕ
said_line messages position None = []
said_line messages position (Some message) =
    spaced (codes "said" ∷ decimal position ∷ []) ++ line (message_words messages position message)

-- the line of what happened, in a world with these messages
abbrev pub line_of : List Message → Happened → List ℕ
line_of messages (Started daemon) = line (codes "daemon" ∷ decimal daemon.0 ∷ [])
line_of messages (Mounted generation) = line (codes "mounted" ∷ decimal generation ∷ [])
line_of messages (Asked unique) = line (asked_words unique)
line_of messages (Took unique) = line (codes "took" ∷ decimal unique ∷ [])
line_of messages (TookForgets count) = line (codes "took" ∷ codes "forgets" ∷ decimal count ∷ [])
line_of messages (Made reply) = reply_line (codes "made") reply
line_of messages (Forgot item forgot) = line (codes "forgot" ∷ forgot_name forgot ∷ [])
line_of messages (Posted unique) = line (codes "posted" ∷ decimal unique ∷ [])
line_of messages (Answered reply) = reply_line (codes "answer") reply
line_of messages (Said place) = said_line messages place (at_position messages place)
line_of messages Heard = line (codes "heard" ∷ [])
line_of messages Ignored = line (codes "ignored" ∷ [])
line_of messages (Claimed generation) = line (codes "claimed" ∷ decimal generation ∷ [])
line_of messages Crashed = line (codes "crashed" ∷ [])
line_of messages (Refused refusal) = refusal_line refusal

-- the line of a number's place: `at PARENT NAME`, with the name byte for byte, or `unlinked FILE`
abbrev pub place_line : Place → List ℕ
place_line (Linked parent name) = line (codes "at" ∷ decimal parent.0 ∷ name ∷ [])
place_line (Unlinked file) = line (codes "unlinked" ∷ decimal file.0 ∷ [])

-- how many lookups of a number a member of a hand takes back: an item may take some back, an ask takes none
abbrev pub taken_back_by : ℕ → Ask → ℕ
taken_back_by n task = option_map_or (taken_back n) (item_of task.what) 0

-- how many lookups of a number the items that wait and the items in a daemon's hand take back
abbrev pub taken_back_under_way : State → DaemonId → ℕ → ℕ
taken_back_under_way state daemon n =
    forgets_on state.broker.traffic n + sum_by (taken_back_by n) (hand_of state daemon)

-- how many replies under way give a number out: those that a daemon did not post, and those that wait for the kernel
abbrev pub given_under_way : State → DaemonId → ℕ → ℕ
given_under_way state daemon n =
    count_by (gives n) (unposted_of state daemon) + entries_of state.broker.traffic n

-- the words `held H up U down W count C` of a number's line
abbrev pub count_words : State → DaemonId → ℕ → ℕ → List (List ℕ)
count_words state daemon n count =
    codes "held" ∷ decimal (held_count state.broker.held n)
    ∷ codes "up" ∷ decimal (taken_back_under_way state daemon n)
    ∷ codes "down" ∷ decimal (given_under_way state daemon n) ∷ codes "count" ∷ decimal count ∷ []

-- the line of a number that a daemon keeps: `number N held H up U down W count C`, and its place
abbrev pub kept_line : State → DaemonId → Kept → List ℕ
kept_line state daemon kept =
    spaced (codes "number" ∷ decimal kept.number.0 ∷ [])
    ++ spaced (count_words state daemon kept.number.0 kept.count) ++ place_line kept.place

-- the lines of the numbers that a daemon keeps
abbrev pub kept_lines : State → DaemonId → List Kept → List ℕ
kept_lines state daemon [] = []
kept_lines state daemon (kept ∷ more) = kept_line state daemon kept ++ kept_lines state daemon more

-- the lines of the seat's daemon: `seat G D next X`, and the numbers that the daemon keeps
abbrev pub served_lines : State → Seat → ServedState → List ℕ
served_lines state seat served =
    line (codes "seat" ∷ decimal seat.generation ∷ decimal seat.daemon.0 ∷ codes "next" ∷ decimal served.map.next ∷ [])
    ++ kept_lines state seat.daemon served.map.entries

-- the line of a world in which nobody has the seat
abbrev pub no_seat : List ℕ
no_seat = line (codes "seat" ∷ codes "none" ∷ [])

-- the lines of the seat, and of what its daemon serves
abbrev pub seat_lines : State → Option Seat → Option ServedState → List ℕ
seat_lines state (Some seat) (Some served) = served_lines state seat served
seat_lines state _ _ = no_seat

-- the lines that `show` prints
abbrev pub world_lines : State → List ℕ
world_lines state =
    seat_lines state state.broker.seat
    (option_and_then (λ (seat : Seat). served_of state seat.daemon) state.broker.seat)

-- the line of the last thing that happened at an event, if anything did
abbrev pub last_line : List Message → Option Happened → List ℕ
last_line messages None = []
last_line messages (Some happened) = line_of messages happened

-- the lines that an event prints, by the state after it
abbrev pub printed : State → Event → List Happened → List ℕ
printed state Show outcome = world_lines state
printed state event outcome = last_line state.messages (slice_get outcome (length outcome - 1))
