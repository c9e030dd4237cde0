use Rattle.std.proofs.Common.{◌≡◌, [], length}
use Rattle.script_lines.specs.EventLine.{versions_after}
use Rattle.script_lines.specs.Words.{words_of}
use Rattle.script_lines.proofs.event_line.read_start.Given as goal

-- what the words behind make of the versions so far is what all words make of none
abbrev pub invariant-loop-word : goal.invariant-loop-word
invariant-loop-word l = versions_after l.versions.items (words_of l.rest) ≡ versions_after [] (words_of l.words)

abbrev pub decreases-loop-word : goal.decreases-loop-word
decreases-loop-word l = length l.rest
