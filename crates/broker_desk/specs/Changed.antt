-- The directories of a mount that changed, and what the kernel may keep of answers by them. A kernel keeps what it reads of a
-- directory, part by part, and doesn't look between the parts whether the directory changed. So what it has of one that
-- changed may be parts of two listings (fs/fuse/readdir.c of Linux).
use Rattle.std.specs.Prelude.{◌≡◌, ℕ, ◌==◌, ◌||◌, Bool, true, false, List, [], if◌then◌else◌}
use Rattle.std.specs.BTreeMap.{is_at}
use Rattle.std.specs.List.{list_any}
use Rattle.std.specs.Ordering.{nat_cmp}
use Rattle.eden_base.specs.declared.number.Number.{Number}
use Rattle.broker_core.specs.Held.{held_count}
use Rattle.fuse_wire.specs.Request.{nodes}
use Rattle.fuse_wire.specs.declared.request.Request.{Request}
use Rattle.fuse_wire.specs.declared.request.Request.TheVariants.{Lookup, Getattr, Readlink, Read, Readdir}
use Rattle.mount_wire.specs.declared.kept.Kept.{Kept}
use Rattle.mount_wire.specs.declared.kept.Kept.TheVariants.{Told, Absence, Listing, NoListing}
use Rattle.broker_desk.specs.Desk.{DeskState}

-- a request only looks, and changes no directory
abbrev pub is_look : Request → Bool
is_look (Lookup dir name) = true
is_look (Getattr node) = true
is_look (Readlink node) = true
is_look (Read node offset size) = true
is_look (Readdir dir offset size) = true
is_look request = false

-- the directories that a request may change: those that it goes to, unless it only looks
abbrev pub changed_by : Request → List Number
changed_by request = if is_look request then [] else nodes request

-- whether a number is one of these
abbrev pub is_in : ℕ → List ℕ → Bool
is_in n numbers = list_any (is_at (nat_cmp n)) numbers

-- whether a number is that of one of these
abbrev pub is_one_of : ℕ → List Number → Bool
is_one_of n numbers = list_any (λ (number : Number). is_at (nat_cmp number.0) n) numbers

-- these directories changed, beside those that did before
abbrev pub Adds : List ℕ → List Number → List ℕ → Type 0
Adds old numbers new = (n : ℕ) → is_in n new ≡ (is_in n old || is_one_of n numbers)

-- the same of some of these directories
abbrev pub AddsSome : List ℕ → List Number → List ℕ → Type 0
AddsSome old numbers new =
    (n : ℕ) → (is_in n old ≡ true → is_in n new ≡ true) × (is_in n new ≡ true → (is_in n old || is_one_of n numbers) ≡ true)

-- The directories that changed are those that did before, but for some that the kernel doesn't hold: once it has let go of a
-- directory, it has nothing of it. The root, which is 1, it never lets go of.
abbrev pub LetsGo : DeskState → List ℕ → List ℕ → Type 0
LetsGo desk old new =
    (n : ℕ) → (is_in n new ≡ true → is_in n old ≡ true)
    × (is_in n old ≡ true → is_in n new ≡ false → ((n == 1) ≡ false) × (held_count desk.broker.held n ≡ 0))

-- what the kernel may keep of the answer to a request: of a LOOKUP also that the name is not there, and of a READDIR the
-- listing unless the directory changed
abbrev pub kept_of : List ℕ → Request → Kept
kept_of changed (Lookup dir name) = Absence
kept_of changed (Readdir dir offset size) = if is_in dir.0 changed then NoListing else Listing
kept_of changed request = Told
