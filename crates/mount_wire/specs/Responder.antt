-- Who answers a request, by its opcode (linux/fuse.h: enum fuse_opcode). The kernel counts ENOSYS as success for what it
-- only tells a file system: it then opens and syncs by itself, and doesn't tell again (fs/fuse/file.c, dir.c of Linux).
use Rattle.std.specs.Prelude.{ℕ, ◌==◌, ◌||◌, Bool, is_none, if◌then◌else◌}
use Rattle.fuse_wire.specs.Request.{other_of}
use Rattle.mount_wire.specs.declared.responder.Responder.{Responder}
use Rattle.mount_wire.specs.declared.responder.Responder.TheVariants.{Init, Statfs, Opendir, Releasedir, Allowed, Refused, Nobody, Daemon}

-- OPEN, RELEASE, FSYNC, FLUSH, FSYNCDIR, ACCESS
abbrev pub is_allowed : ℕ → Bool
is_allowed n = n == 14 || n == 18 || n == 20 || n == 25 || n == 30 || n == 34

-- INTERRUPT, DESTROY
abbrev pub is_unanswered : ℕ → Bool
is_unanswered n = n == 36 || n == 38

-- requests with this opcode are read as a kind of their own, which daemons answer: none of them is an Other
abbrev pub is_kind : ℕ → Bool
is_kind n = is_none (other_of n (record { 0 = 1 }))

-- Who answers a request with this opcode: a daemon exactly where it is that of a kind. Of the others 26 is INIT, 17
-- STATFS, 27 OPENDIR and 29 RELEASEDIR, and every opcode that isn't named is refused.
unfoldable pub responder_of : ℕ → Responder
responder_of n =
    if is_kind n then Daemon
    else if n == 26 then Init
    else if n == 17 then Statfs
    else if n == 27 then Opendir
    else if n == 29 then Releasedir
    else if is_allowed n then Allowed
    else if is_unanswered n then Nobody
    else Refused
