-- What a daemon has in hand, as contracts see it. (This project's own.)
use Rattle.daemon.specs.Server.{single}
use Rattle.daemon.specs.declared.task.TaskKind.{TaskKind}
use Rattle.daemon.specs.declared.task.TaskKind.TheVariants as kind
use Rattle.fuse_wire.specs.declared.request.Ask.{Ask}

-- the ask, or the item as a request of its own
abbrev pub ask_of : TaskKind → Ask
ask_of (kind.Ask ask) = ask.value
ask_of (kind.Item item) = single item
