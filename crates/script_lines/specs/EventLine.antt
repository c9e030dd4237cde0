-- The lines of a script that say what happens: a command and its words, separated by one space each. A name is the last
-- word, and runs to the end of the line. (This project's own.)
use Rattle.std.specs.Prelude.{ℕ, ◌^◌, Bool, true, false, nat_lt, List, [], ◌∷◌, ◌++◌, length, Option, Some, None, codes, option_map, option_and_then, is_none, if◌then◌else◌}
use Rattle.fuse_wire.specs.declared.request.Request.{Request}
use Rattle.fuse_wire.specs.declared.request.Request.TheVariants.{Lookup, Getattr, Readlink, Read, Readdir, Create, Mkdir, Unlink, Rmdir, Rename, Forget}
use Rattle.fuse_wire.specs.Request.{other_of}
use Rattle.world.specs.declared.event.Event.{Event}
use Rattle.world.specs.declared.event.Event.TheVariants.{Start, Mount, Issue, Take, Work, Post, Deliver, Hear, Drained, GiveUp, Claim, Crash, Do, Show}
use Rattle.eden_base.specs.Name.{name_fault}
use Rattle.eden_base.specs.declared.attr.Perm.{Perm}
use Rattle.eden_base.specs.declared.number.DaemonId.{DaemonId}
use Rattle.eden_base.specs.declared.number.Number.{Number}
use Rattle.manifest.specs.Text.{mode_of}
use Rattle.script_lines.specs.Number.{number_of}
use Rattle.eden_base.specs.Text.{cut}
use Rattle.script_lines.specs.Words.{is_word, words_of}

-- the name that the bytes are, if they are a name
abbrev pub name_of : List ℕ → Option (List ℕ)
name_of bytes = if is_none (name_fault bytes) then Some bytes else None

-- this directory's number, and the name that the bytes are, if they are a name
abbrev pub named_in : ℕ → List ℕ → Option (Number × List ℕ)
named_in dir bytes = option_map (λ (name : List ℕ). (record { 0 = dir }, name)) (name_of bytes)

-- a directory's number and a name in it, of which these words are the `N NAME`
abbrev pub named_of : List ℕ → Option (Number × List ℕ)
named_of words =
    option_and_then (λ (parts : List ℕ × List ℕ). option_and_then (λ dir. named_in dir parts.1) (number_of parts.0))
    (cut 32 words)

-- a directory, permissions, and the name that the bytes are, if they are a name
abbrev pub made_with : Number → Perm → List ℕ → Option (Number × Perm × List ℕ)
made_with dir perm bytes = option_map (λ (name : List ℕ). (dir, perm, name)) (name_of bytes)

-- this directory's number, and the permissions and the name of which these words are the `MODE NAME`; a mode is written
-- as in a manifest
abbrev pub made_in : ℕ → List ℕ → Option (Number × Perm × List ℕ)
made_in dir words =
    option_and_then
    (λ (parts : List ℕ × List ℕ).
    option_and_then (λ perm. made_with (record { 0 = dir }) perm parts.1) (mode_of parts.0))
    (cut 32 words)

-- a directory's number, permissions and a name, of which these words are the `N MODE NAME`
abbrev pub made_of : List ℕ → Option (Number × Perm × List ℕ)
made_of words =
    option_and_then (λ (parts : List ℕ × List ℕ). option_and_then (λ dir. made_in dir parts.1) (number_of parts.0))
    (cut 32 words)

-- the request of `lookup N NAME`, of which these words are the `N NAME`
abbrev pub lookup_of : List ℕ → Option Request
lookup_of words = option_map (λ (named : Number × List ℕ). Lookup named.0 named.1) (named_of words)

-- the request of `unlink N NAME`, of which these words are the `N NAME`
abbrev pub unlink_of : List ℕ → Option Request
unlink_of words = option_map (λ (named : Number × List ℕ). Unlink named.0 named.1) (named_of words)

-- the request of `rmdir N NAME`, of which these words are the `N NAME`
abbrev pub rmdir_of : List ℕ → Option Request
rmdir_of words = option_map (λ (named : Number × List ℕ). Rmdir named.0 named.1) (named_of words)

-- two names, if both are there
abbrev pub both_names : Option (List ℕ) → Option (List ℕ) → Option (List ℕ × List ℕ)
both_names (Some old) (Some new) = Some (old, new)
both_names _ _ = None

-- the two names of which these bytes are the `OLD/NEW`, if both are names: a name has no slash
abbrev pub names_of : List ℕ → Option (List ℕ × List ℕ)
names_of bytes =
    option_and_then (λ (parts : List ℕ × List ℕ). both_names (name_of parts.0) (name_of parts.1)) (cut 47 bytes)

-- the request to move a file between these directories, of whose names these bytes are the `OLD/NEW`
abbrev pub moved_between : ℕ → ℕ → List ℕ → Option Request
moved_between dir to_dir bytes =
    option_map
    (λ (names : List ℕ × List ℕ). Rename (record { 0 = dir }) names.0 (record { 0 = to_dir }) names.1)
    (names_of bytes)

-- the request to move a file out of this directory, of which these words are the `NEWDIR OLD/NEW`
abbrev pub moved_from : ℕ → List ℕ → Option Request
moved_from dir words =
    option_and_then
    (λ (parts : List ℕ × List ℕ). option_and_then (λ to_dir. moved_between dir to_dir parts.1) (number_of parts.0))
    (cut 32 words)

-- the request of `rename N NEWDIR OLD/NEW`, of which these words are the `N NEWDIR OLD/NEW`
abbrev pub rename_of : List ℕ → Option Request
rename_of words =
    option_and_then (λ (parts : List ℕ × List ℕ). option_and_then (λ dir. moved_from dir parts.1) (number_of parts.0))
    (cut 32 words)

-- the request of `create N MODE NAME`, of which these words are the `N MODE NAME`
abbrev pub create_of : List ℕ → Option Request
create_of words = option_map (λ (made : Number × Perm × List ℕ). Create made.0 made.2 made.1) (made_of words)

-- the request of `mkdir N MODE NAME`, of which these words are the `N MODE NAME`
abbrev pub mkdir_of : List ℕ → Option Request
mkdir_of words = option_map (λ (made : Number × Perm × List ℕ). Mkdir made.0 made.2 made.1) (made_of words)

-- the pair of two numbers, if both are there
abbrev pub both_numbers : Option ℕ → Option ℕ → Option (ℕ × ℕ)
both_numbers (Some first) (Some second) = Some (first, second)
both_numbers _ _ = None

-- the two numbers that these words write, separated by a space
abbrev pub pair_of : List ℕ → Option (ℕ × ℕ)
pair_of words =
    option_and_then (λ (parts : List ℕ × List ℕ). both_numbers (number_of parts.0) (number_of parts.1)) (cut 32 words)

-- the request of `forget N K`, of which these words are the `N K`
abbrev pub forget_of : List ℕ → Option Request
forget_of words =
    option_map (λ (pair : ℕ × ℕ). Forget (record { node = record { 0 = pair.0 }; k = pair.1 })) (pair_of words)

-- the request of `getattr N`, of which these words are the `N`
abbrev pub getattr_of : List ℕ → Option Request
getattr_of words = option_map (λ (node : ℕ). Getattr (record { 0 = node })) (number_of words)

-- the request of `readlink N`, of which these words are the `N`
abbrev pub readlink_of : List ℕ → Option Request
readlink_of words = option_map (λ (node : ℕ). Readlink (record { 0 = node })) (number_of words)

-- this number with an offset and a size, if the size fits 32 bits
abbrev pub range_in : ℕ → ℕ → ℕ → Option (Number × ℕ × ℕ)
range_in node offset size = if nat_lt size (2 ^ 32) then Some (record { 0 = node }, offset, size) else None

-- this number with the offset and the size of which these words are the `OFFSET SIZE`
abbrev pub range_from : ℕ → List ℕ → Option (Number × ℕ × ℕ)
range_from node words = option_and_then (λ (pair : ℕ × ℕ). range_in node pair.0 pair.1) (pair_of words)

-- a number, an offset and a size, of which these words are the `N OFFSET SIZE`
abbrev pub range_of : List ℕ → Option (Number × ℕ × ℕ)
range_of words =
    option_and_then
    (λ (parts : List ℕ × List ℕ). option_and_then (λ node. range_from node parts.1) (number_of parts.0))
    (cut 32 words)

-- the request of `read N OFFSET SIZE`, of which these words are the `N OFFSET SIZE`
abbrev pub read_of : List ℕ → Option Request
read_of words = option_map (λ (range : Number × ℕ × ℕ). Read range.0 range.1 range.2) (range_of words)

-- the request of `readdir N OFFSET SIZE`, of which these words are the `N OFFSET SIZE`
abbrev pub readdir_of : List ℕ → Option Request
readdir_of words = option_map (λ (range : Number × ℕ × ℕ). Readdir range.0 range.1 range.2) (range_of words)

-- the request of an opcode that has no command of its own, if the opcode fits 32 bits
abbrev pub other_in : ℕ → ℕ → Option Request
other_in opcode node = if nat_lt opcode (2 ^ 32) then other_of opcode (record { 0 = node }) else None

-- the request of `other OPCODE N`, of which these words are the `OPCODE N`
abbrev pub other_said : List ℕ → Option Request
other_said words = option_and_then (λ (pair : ℕ × ℕ). other_in pair.0 pair.1) (pair_of words)

-- a request with a name, by its first word and the rest
abbrev pub naming_by : List ℕ → List ℕ → Option Request
naming_by word rest =
    if is_word word (codes "lookup") then lookup_of rest
    else if is_word word (codes "create") then create_of rest
    else if is_word word (codes "mkdir") then mkdir_of rest
    else if is_word word (codes "unlink") then unlink_of rest
    else if is_word word (codes "rmdir") then rmdir_of rest
    else if is_word word (codes "rename") then rename_of rest
    else None

-- a request, by its first word and the rest
abbrev pub request_by : List ℕ → List ℕ → Option Request
request_by word rest =
    if is_word word (codes "forget") then forget_of rest
    else if is_word word (codes "getattr") then getattr_of rest
    else if is_word word (codes "readlink") then readlink_of rest
    else if is_word word (codes "read") then read_of rest
    else if is_word word (codes "readdir") then readdir_of rest
    else if is_word word (codes "other") then other_said rest
    else naming_by word rest

-- the request that these words write: `lookup N NAME`, `create N MODE NAME`, `mkdir N MODE NAME`, `unlink N NAME`,
-- `rmdir N NAME`, `rename N NEWDIR OLD/NEW`, `forget N K`, `getattr N`, `readlink N`, `read N OFFSET SIZE`, `readdir N
-- OFFSET SIZE` or `other OPCODE N`
abbrev pub request_of : List ℕ → Option Request
request_of words = option_and_then (λ (parts : List ℕ × List ℕ). request_by parts.0 parts.1) (cut 32 words)

-- the daemon of a number
abbrev pub daemon_said : ℕ → DaemonId
daemon_said daemon = record { 0 = daemon }

-- the version of the image that a number is, if it fits 16 bits
abbrev pub version_in : ℕ → Option ℕ
version_in version = if nat_lt version (2 ^ 16) then Some version else None

-- the version of the image that a word writes
abbrev pub version_of : List ℕ → Option ℕ
version_of word = option_and_then version_in (number_of word)

-- the versions with the version of one more word appended, if there are at most eight then
abbrev pub with_version : List ℕ → List ℕ → Option (List ℕ)
with_version versions word =
    if nat_lt (length versions) 8 then option_map (λ (version : ℕ). versions ++ version ∷ []) (version_of word)
    else None

-- the versions with the versions of more words appended
abbrev pub versions_after : List ℕ → List (List ℕ) → Option (List ℕ)
versions_after versions [] = Some versions
versions_after versions (word ∷ words) =
    option_and_then (λ longer. versions_after longer words) (with_version versions word)

-- the event of `start V ..`, of which these words are the `V ..`: one version to eight, in order
abbrev pub start_of : List ℕ → Option Event
start_of words = option_map (λ (versions : List ℕ). Start versions) (versions_after [] (words_of words))

-- the event of `mount D`, of which these words are the `D`
abbrev pub mount_of : List ℕ → Option Event
mount_of words = option_map (λ (daemon : ℕ). Mount (daemon_said daemon)) (number_of words)

-- the event of `take D`, of which these words are the `D`
abbrev pub take_of : List ℕ → Option Event
take_of words = option_map (λ (daemon : ℕ). Take (daemon_said daemon)) (number_of words)

-- the position, if there is one, with whether the backing fails
abbrev pub tried_at : Option ℕ → Bool → Option (ℕ × Bool)
tried_at position fails = option_map (λ (position : ℕ). (position, fails)) position

-- the position and whether the backing fails, by the words before and after the first space, if there is a space
abbrev pub tried_by : List ℕ → Option (List ℕ × List ℕ) → Option (ℕ × Bool)
tried_by words None = tried_at (number_of words) false
tried_by words (Some parts) = if is_word parts.1 (codes "fail") then tried_at (number_of parts.0) true else None

-- the position and whether the backing fails, of which these words are the `I` or the `I fail`
abbrev pub tried_of : List ℕ → Option (ℕ × Bool)
tried_of words = tried_by words (cut 32 words)

-- the event of a daemon that works at a position, if the daemon and the position are there
abbrev pub work_both : Option ℕ → Option (ℕ × Bool) → Option Event
work_both (Some daemon) (Some tried) = Some (Work (daemon_said daemon) tried.0 tried.1)
work_both _ _ = None

-- the event of `work D I` or `work D I fail`, of which these words are those after `work`
abbrev pub work_of : List ℕ → Option Event
work_of words =
    option_and_then (λ (parts : List ℕ × List ℕ). work_both (number_of parts.0) (tried_of parts.1)) (cut 32 words)

-- the event of `post D I`, of which these words are the `D I`
abbrev pub post_of : List ℕ → Option Event
post_of words = option_map (λ (pair : ℕ × ℕ). Post (daemon_said pair.0) pair.1) (pair_of words)

-- the event of `hear D K`, of which these words are the `D K`
abbrev pub hear_of : List ℕ → Option Event
hear_of words = option_map (λ (pair : ℕ × ℕ). Hear (daemon_said pair.0) pair.1) (pair_of words)

-- the event of `drained D`, of which these words are the `D`
abbrev pub drained_of : List ℕ → Option Event
drained_of words = option_map (λ (daemon : ℕ). Drained (daemon_said daemon)) (number_of words)

-- the event of `giveup D`, of which these words are the `D`
abbrev pub give_up_of : List ℕ → Option Event
give_up_of words = option_map (λ (daemon : ℕ). GiveUp (daemon_said daemon)) (number_of words)

-- the event of `claim D`, of which these words are the `D`
abbrev pub claim_of : List ℕ → Option Event
claim_of words = option_map (λ (daemon : ℕ). Claim (daemon_said daemon)) (number_of words)

-- the event of `crash D`, of which these words are the `D`
abbrev pub crash_of : List ℕ → Option Event
crash_of words = option_map (λ (daemon : ℕ). Crash (daemon_said daemon)) (number_of words)

-- the event of a daemon's command in a takeover, by the first word and the rest
abbrev pub takeover_event_by : List ℕ → List ℕ → Option Event
takeover_event_by word rest =
    if is_word word (codes "hear") then hear_of rest
    else if is_word word (codes "drained") then drained_of rest
    else if is_word word (codes "giveup") then give_up_of rest
    else if is_word word (codes "claim") then claim_of rest
    else None

-- the event of a daemon's command, by the first word and the rest
abbrev pub daemon_event_by : List ℕ → List ℕ → Option Event
daemon_event_by word rest =
    if is_word word (codes "mount") then mount_of rest
    else if is_word word (codes "take") then take_of rest
    else if is_word word (codes "work") then work_of rest
    else if is_word word (codes "post") then post_of rest
    else if is_word word (codes "crash") then crash_of rest
    else takeover_event_by word rest

-- the event of `issue REQUEST`, of which these words are the `REQUEST`
abbrev pub issue_of : List ℕ → Option Event
issue_of words = option_map (λ (request : Request). Issue request) (request_of words)

-- the event of `do REQUEST`, of which these words are the `REQUEST`
abbrev pub do_of : List ℕ → Option Event
do_of words = option_map (λ (request : Request). Do request) (request_of words)

-- the event of a command with words after it, by the first word and the rest
abbrev pub event_by : List ℕ → List ℕ → Option Event
event_by word rest =
    if is_word word (codes "do") then do_of rest
    else if is_word word (codes "issue") then issue_of rest
    else if is_word word (codes "start") then start_of rest
    else daemon_event_by word rest

-- the event that a line writes: `start`, `start V ..`, `show`, `deliver`, `do REQUEST`, `issue REQUEST`, `mount D`,
-- `take D`, `work D I`, `work D I fail`, `post D I`, `hear D K`, `drained D`, `giveup D`, `claim D` or `crash D`. A
-- bare `start` has version 1
abbrev pub event_of : List ℕ → Option Event
event_of line =
    if is_word line (codes "start") then Some (Start (1 ∷ []))
    else if is_word line (codes "show") then Some Show
    else if is_word line (codes "deliver") then Some Deliver
    else option_and_then (λ (parts : List ℕ × List ℕ). event_by parts.0 parts.1) (cut 32 line)
