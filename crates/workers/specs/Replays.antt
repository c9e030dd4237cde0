-- A history of what was served: each record is a legal step from what the records before it led to. (This project's
-- own.)
use Rattle.std.specs.Prelude.{◌≡◌, List, [], ◌∷◌}
use Rattle.fuse_ops.specs.Served.{ServedState, Replay}
use Rattle.journal.specs.declared.journal.Record.{Record}

-- from an opening state the records lead to a last one, each by a legal step
abbrev pub Replays : ServedState → List Record → ServedState → Type 0
Replays opening [] last = last ≡ opening
Replays opening (first ∷ rest) last =
    (next : ServedState) × Replay opening first.request first.answer next × Replays next rest last
