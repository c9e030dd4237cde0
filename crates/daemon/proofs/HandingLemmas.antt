-- A text that is handed over has few parts.
use Rattle.std.proofs.Common.{◌≤◌, ℕ, List, length, Option, Some, None}
use Rattle.map_image.specs.Parts.{AreParts}
use Rattle.map_image.specs.Versions.{most_parts}
use Rattle.map_image.proofs.LongestLaws.{no_longer}
use Rattle.map_image.proofs.PartsLaws.{few}
use Rattle.daemon.specs.Server.{ServerState}
use Rattle.daemon.specs.Talking.{HasData}

pub has_few : (server : Option ServerState) (generation version : ℕ) (text : List ℕ) → HasData server generation version text → (parts : List (List ℕ)) → AreParts text parts → length parts ≤ most_parts
has_few None generation version text has parts are = absurd has
has_few (Some server) generation version text has parts are =
    few version text parts (no_longer has.image version text has.text has.accepted) are
