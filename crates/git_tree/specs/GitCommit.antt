-- The name of a commit. (git-rev-parse(1): it prints the name of an object on a line of its own.)
use Rattle.std.specs.Prelude.{ℕ, ◌==◌, ◌&&◌, List, [], ◌∷◌, length, Option, Some, None, Result, Ok, Err, if◌then◌else◌}
use Rattle.std.specs.List.{list_all}
use Rattle.eden_base.specs.Text.{cut}
use Rattle.git_tree.specs.GitObject.{is_lower_digit, object_of}
use Rattle.git_tree.specs.declared.fault.CommitFault.{CommitFault}
use Rattle.git_tree.specs.declared.fault.CommitFault.TheVariants.{BadName, Sha256}
use Rattle.git_tree.specs.declared.object_id.ObjectId.{ObjectId}

-- the commit with this name, or why these digits are the name of none: SHA-256 has sixty-four
abbrev pub commit_named : List ℕ → Option ObjectId → Result (List ℕ) CommitFault
commit_named digits (Some commit) = Ok commit.0
commit_named digits None =
    if length digits == 64 && list_all is_lower_digit digits then Err Sha256 else Err BadName

-- the commit of a text that was split at its first LF, behind which nothing may stand
abbrev pub commit_split : Option (List ℕ × List ℕ) → Result (List ℕ) CommitFault
commit_split None = Err BadName
commit_split (Some (digits, b ∷ more)) = Err BadName
commit_split (Some (digits, [])) = commit_named digits (object_of digits)

-- the twenty bytes of the name that was printed, or why there are none
abbrev pub commit_of : List ℕ → Result (List ℕ) CommitFault
commit_of printed = commit_split (cut 10 printed)
