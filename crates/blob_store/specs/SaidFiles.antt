-- Of which files something may be said. (This project's own.)
use Rattle.std.specs.Prelude.{◌==◌, ◌&&◌, nat_lt, not, Bool, List, length}
use Rattle.std.specs.List.{list_any}
use Rattle.eden_base.specs.declared.number.FileId.{FileId}

-- this is the file
abbrev pub is_file : FileId → FileId → Bool
is_file file said = said.0 == file.0

-- something may be said of a file: of fewer than 16 files something was said, and this is none of them
abbrev pub may_be_said : List FileId → FileId → Bool
may_be_said said file = nat_lt (length said) 16 && not (list_any (is_file file) said)
