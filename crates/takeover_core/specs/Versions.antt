-- Which versions two daemons have in common. (EdenFS's new daemon sends the versions that it supports; that the
-- greatest is chosen is this project's own.)
use Rattle.std.specs.Prelude.{ℕ, Bool, ◌==◌, max, List, filter, Option}
use Rattle.std.specs.List.{list_any, reduce}

-- a version is in the list
abbrev pub is_among : List ℕ → ℕ → Bool
is_among versions version = list_any (λ v. v == version) versions

-- the greatest version that is in both lists, if there is one
abbrev pub greatest_common : List ℕ → List ℕ → Option ℕ
greatest_common own offered = reduce max (filter (is_among own) offered)
