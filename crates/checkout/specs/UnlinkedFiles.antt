-- The manifest's files whose link is gone.
use Rattle.std.specs.Prelude.{◌≡◌, ℕ, ◌+◌, ◌<◌, ◌≤◌, ◌==◌, Bool, true, List, nat_lt}
use Rattle.std.specs.List.{list_any}
use Rattle.manifest.specs.Tally.{Tally, count_of}

-- the ids of the manifest's files whose link is gone, in the order in which the links went. There is room for the ids
-- below `room`
pub record UnlinkedFiles : Type 0 where
  pub files : List ℕ
  pub room : ℕ

-- whether the file's link is gone
abbrev pub is_gone : UnlinkedFiles → ℕ → Bool
is_gone gone file = list_any (λ f. file == f) gone.files

-- these marks say of each file whether its link is gone: where it is, how many files from this one on are all gone, at
-- least itself; and 0 where it isn't. (This project's own.)
abbrev pub AreMarks : (ℕ → Bool) → Tally → Type 0
AreMarks gone marks =
    ((q : ℕ) → nat_lt 0 (count_of marks q) ≡ gone q)
    × ((q x : ℕ) → q ≤ x → x < q + count_of marks q → gone x ≡ true)
