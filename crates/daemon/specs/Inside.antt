-- What holds of a server's fields before and after every call.
use Rattle.std.specs.Prelude.{◌≡◌, ◌≤◌, length, true}
use Rattle.std.specs.List.{AllByRecursion}
use Rattle.daemon.specs.Server.{is_single}
use Rattle.daemon.specs.declared.server.Server.TheInside.{Inside}

-- a server serves a tree of its own manifest, has asks and single items in hand, and room for a reply to each of them
pub record IsConsistent (server : Inside) : Type 0 where
  pub of_manifest : server.served.tree.manifest ≡ server.manifest
  pub single : AllByRecursion (λ task. is_single task ≡ true) server.hand.members
  pub room : length server.hand.members ≤ server.unposted.room
