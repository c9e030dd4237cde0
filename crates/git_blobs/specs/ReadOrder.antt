-- Which files are asked for ahead: those behind the one that is read, where files are read one after another.
use Rattle.std.specs.Prelude.{◌&&◌, ◌+◌, ◌-◌, ◌*◌, ◌==◌, ℕ, Bool, nat_le, nat_lt, max, min, Option, Some, None, if◌then◌else◌}
use Rattle.eden_base.specs.declared.number.FileId.{FileId}
use Rattle.git_blobs.specs.declared.read_order.Ahead.{Ahead}
use Rattle.git_blobs.specs.declared.read_order.ReadOrder.{ReadOrder}

-- whether a file stands a little behind another: eight places at most
abbrev pub is_behind : FileId → FileId → Bool
is_behind last file = nat_lt last.0 file.0 && nat_le file.0 (last.0 + 8)

-- how many files ahead are asked for by one more read in order: 2, and then twice as many each time, 32 at most
abbrev pub longer : ℕ → ℕ
longer reach = min 32 (max 2 (2 * reach))

-- no files
abbrev pub nothing : Ahead
nothing = record { from = 0; to = 0 }

-- A file is read: how many files ahead are asked for then, and which of them now, where so many were. The file that was read
-- last adds nothing, and a read in order those files that were not asked for yet.
abbrev pub step : Option FileId → ℕ → FileId → ℕ × Ahead
step None reach file = (0, nothing)
step (Some last) reach file =
    if last.0 == file.0 then (reach, nothing)
    else if is_behind last file then (longer reach, record { from = reach - (file.0 - last.0); to = longer reach })
    else (0, nothing)

-- the order behind a read of a file
abbrev pub order_after : ReadOrder → FileId → ReadOrder
order_after was file = record { last = Some file; reach = (step was.last was.reach file).0 }

-- the files that are asked for ahead by a read of a file
abbrev pub ahead_of : ReadOrder → FileId → Ahead
ahead_of was file = (step was.last was.reach file).1
