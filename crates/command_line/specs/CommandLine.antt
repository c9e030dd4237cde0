-- The words that the program is started with, as `clap` reads them: none, or a command with its words and options.
use Rattle.std.specs.Prelude.{◌≡◌, ◌==◌, ℕ, Bool, true, false, List, [], ◌∷◌, Option, Some, None, is_none, is_some, unwrap_or, codes, if◌then◌else◌, ◌||◌}
use Rattle.std.specs.Str.{bytes_eq}
use Rattle.std.specs.Str.Parse.{without_leading_plus}
use Rattle.clap.specs.Words.{App, Kinds, Row, Rule, Text, app_of, fault_of, first_of, new_app, new_rule, subcommand_of, with_rule, with_subcommand}
use Rattle.clap.specs.Kinds.{or_else}
use Rattle.clap.specs.Simple.{new_shape}
use Rattle.clap.specs.declared.builder.action.ArgAction.TheVariants.{Set, SetTrue}
use Rattle.clap.specs.declared.builder.command.Command.{Command, out-Command}
use Rattle.clap.specs.declared.builder.value_parser.ValueParser.TheVariants as parser
use Rattle.clap.specs.declared.error.kind.ErrorKind.TheVariants as kind
use Rattle.script_lines.specs.Number.{number_of}
use Rattle.command_line.specs.Owner.{owner_of}
use Rattle.command_line.specs.declared.server_command.StartMode.{StartMode}
use Rattle.command_line.specs.declared.server_command.StartMode.TheVariants.{Mount, Takeover}

-- the command is read as this, and hands no option on to commands below it
abbrev pub IsReadAs : App → Command → Type 0
IsReadAs app command = (app_of command ≡ app) × ((out-Command command).has_globals ≡ false)

-- the rule of a word that a command has to have
abbrev pub word_rule : Text → Rule
word_rule name = record (new_rule name) { action = Some Set; required = true }

-- the rule of an option without a value
abbrev pub flag_rule : Text → Rule
flag_rule name = record (new_rule name) { long = Some name; action = Some SetTrue }

-- the rule of an option whose value is a number from `least` to `greatest`, and `default` if the option is not there
abbrev pub number_rule : Text → ℕ → ℕ → Text → Rule
number_rule name least greatest default = record (new_rule name) {
  long = Some name;
  action = Some Set;
  value_names = 1;
  defaults = default ∷ [];
  parser = Some (parser.Unsigned least greatest);
}

-- the rule of the option that says how many files a daemon keeps loaded
abbrev pub limit_rule : Rule
limit_rule = number_rule (codes "limit") 1 65536 (codes "1024")

-- the rule of the option that says how many threads serve
abbrev pub workers_rule : Rule
workers_rule = number_rule (codes "workers") 1 16 (codes "2")

-- the rule of the option that says for how many milliseconds a peer may be silent
abbrev pub patience_rule : Rule
patience_rule = number_rule (codes "patience") 1 600000 (codes "2000")

-- the command `app` with these words and options
abbrev pub with_rules : App → List Rule → App
with_rules app [] = app
with_rules app (rule ∷ rules) = with_rules (with_rule app rule) rules

-- the command `world SCRIPT`
abbrev pub world_app : App
world_app = with_rules (new_app (codes "world")) (word_rule (codes "SCRIPT") ∷ limit_rule ∷ [])

-- the command `broker SOCKET SCRIPT`
abbrev pub broker_app : App
broker_app =
    with_rules (new_app (codes "broker")) (word_rule (codes "SOCKET") ∷ word_rule (codes "SCRIPT") ∷ [])

-- the rule of the option that names a directory with the contents of files
abbrev pub files_rule : Rule
files_rule = record (new_rule (codes "files")) { long = Some (codes "files"); action = Some Set; value_names = 1 }

-- the rule of the word that names a manifest, or a commit where there is a repository
abbrev pub manifest_rule : Rule
manifest_rule = record (new_rule (codes "MANIFEST")) { action = Some Set }

-- the rule of the option that names a repository of git
abbrev pub git_rule : Rule
git_rule = record (new_rule (codes "git")) { long = Some (codes "git"); action = Some Set; value_names = 1 }

-- the rule of the option that says how many megabytes of contents are kept of a repository
abbrev pub cache_rule : Rule
cache_rule = record (new_rule (codes "cache")) {
  long = Some (codes "cache");
  action = Some Set;
  value_names = 1;
  parser = Some (parser.Unsigned 1 1048576);
}

-- the command `daemon BROKER TAKEOVER`, with `--mount` or `--takeover`, and with a manifest, or `--git` and perhaps a commit;
-- perhaps with `--until-closed`, `--files` and `--cache`
abbrev pub daemon_app : App
daemon_app = with_rules (new_app (codes "daemon")) (
    flag_rule (codes "mount") ∷ flag_rule (codes "takeover")
    ∷ word_rule (codes "BROKER") ∷ word_rule (codes "TAKEOVER") ∷ manifest_rule
    ∷ workers_rule ∷ limit_rule ∷ patience_rule ∷ flag_rule (codes "until-closed") ∷ files_rule ∷ git_rule ∷ cache_rule ∷ [])

-- the rule of the option that names a file for what the kernel holds
abbrev pub held_rule : Rule
held_rule = record (new_rule (codes "held")) { long = Some (codes "held"); action = Some Set; value_names = 1 }

-- the rule of the option that names the user and the group that own each file
abbrev pub owner_rule : Rule
owner_rule = record (new_rule (codes "owner")) { long = Some (codes "owner"); action = Some Set; value_names = 1 }

-- the rule of the option that says for how many seconds the kernel may keep what it is told, which is a day by default
abbrev pub valid_rule : Rule
valid_rule = number_rule (codes "valid") 0 86400 (codes "86400")

-- the command `mount MOUNTPOINT SOCKET`, perhaps with `--held`, `--owner` and `--valid`
abbrev pub mount_app : App
mount_app =
    with_rules (new_app (codes "mount"))
    (word_rule (codes "MOUNTPOINT") ∷ word_rule (codes "SOCKET") ∷ held_rule ∷ owner_rule ∷ valid_rule ∷ [])

-- the program, which has a version and these four commands
abbrev pub edend_app : App
edend_app =
    with_subcommand (with_subcommand (with_subcommand (with_subcommand
    (record { top = record (new_shape (codes "edend")) { has_version = true }; subs = [] })
    world_app.top) broker_app.top) daemon_app.top) mount_app.top

-- the command that the words have, and what it was given; the first word is the program's name
abbrev pub command_of : List Text → Option (Text × List Row)
command_of words = subcommand_of edend_app words

-- standard input
abbrev pub standard_input : Text
standard_input = codes "-"

-- the script that a command's words name, or standard input
abbrev pub script_in : Option (Text × List Row) → Text
script_in None = standard_input
script_in (Some command) =
    if bytes_eq command.0 (codes "world") then unwrap_or (first_of (codes "SCRIPT") command.1) standard_input
    else standard_input

-- the script that the words name
abbrev pub script_named : List Text → Text
script_named words = script_in (command_of words)

-- the number that an option's word writes, or `other` if there is no word or no number
abbrev pub number_or : ℕ → Option Text → ℕ
number_or other None = other
number_or other (Some word) = unwrap_or (number_of (without_leading_plus word)) other

-- the limit that a command's words name, or 1024
abbrev pub limit_in : Option (Text × List Row) → ℕ
limit_in None = 1024
limit_in (Some command) =
    if bytes_eq command.0 (codes "world") then number_or 1024 (first_of (codes "limit") command.1) else 1024

-- the limit that the words name, or 1024
abbrev pub limit_named : List Text → ℕ
limit_named words = limit_in (command_of words)

-- whether the word would be read as an option: it begins with `-` and is longer
abbrev pub is_option : Text → Bool
is_option [] = false
is_option (byte ∷ []) = false
is_option (byte ∷ next ∷ rest) = byte == 45

-- the words as anyone would write them: the program's name alone, or followed by `world` and a script
abbrev pub NamesPlainly : List Text → Text → Type 0
NamesPlainly (program ∷ []) script = script ≡ standard_input
NamesPlainly (program ∷ command ∷ word ∷ []) script =
    (command ≡ codes "world") × (word ≡ script) × (is_option word ≡ false)
NamesPlainly _ script = ⊥

-- the word that a command has for the argument `place`, and an empty word if it has none
abbrev pub word_in : Text → List Row → Text
word_in place rows = unwrap_or (first_of place rows) []

-- whether the flag is there; `clap` keeps the word `true` for a flag that is
abbrev pub has_flag : Text → List Row → Bool
has_flag flag rows = bytes_eq (word_in flag rows) (codes "true")

-- how a daemon comes to serve, by whether it mounts
abbrev pub start_by : Bool → StartMode
start_by mounts = if mounts then Mount else Takeover

-- what is wrong with a daemon's start, by whether it mounts and whether it takes over: it has to do exactly one
abbrev pub start_fault_by : Bool → Bool → Kinds
start_fault_by true true = kind.ArgumentConflict ∷ []
start_fault_by true false = []
start_fault_by false true = []
start_fault_by false false = kind.MissingRequiredArgument ∷ []

abbrev pub start_fault : List Row → Kinds
start_fault rows = start_fault_by (has_flag (codes "mount") rows) (has_flag (codes "takeover") rows)

-- whether a command was given a word for the argument `place`
abbrev pub is_given : Text → List Row → Bool
is_given place rows = is_some (first_of place rows)

-- what is wrong with the words of a daemon without a repository, by whether they bound what is kept of one, and whether they
-- name a manifest, which they have to
abbrev pub manifest_fault_by : Bool → Bool → Kinds
manifest_fault_by true word = kind.ArgumentConflict ∷ []
manifest_fault_by false true = []
manifest_fault_by false false = kind.MissingRequiredArgument ∷ []

abbrev pub manifest_fault : List Row → Kinds
manifest_fault rows = manifest_fault_by (is_given (codes "cache") rows) (is_given (codes "MANIFEST") rows)

-- what is wrong with where a daemon's files come from, by whether a repository and a directory are given, which exclude each
-- other, and what is wrong where there is no repository
abbrev pub origin_fault_by : Bool → Bool → Kinds → Kinds
origin_fault_by true true others = kind.ArgumentConflict ∷ []
origin_fault_by true false others = []
origin_fault_by false files others = others

abbrev pub origin_fault : List Row → Kinds
origin_fault rows =
    origin_fault_by (is_given (codes "git") rows) (is_given (codes "files") rows) (manifest_fault rows)

-- what is wrong with a daemon's words: with its start, and else with where its files come from
abbrev pub daemon_fault : List Row → Kinds
daemon_fault rows = or_else (start_fault rows) (origin_fault rows)

-- the commit that a daemon's words name, or HEAD
abbrev pub commit_in : List Row → Text
commit_in rows = unwrap_or (first_of (codes "MANIFEST") rows) (codes "HEAD")

-- what is wrong with the word of `--owner`, if there is one: it names no owner
abbrev pub owner_fault_of : Option Text → Kinds
owner_fault_of None = []
owner_fault_of (Some word) = if is_none (owner_of word) then kind.InvalidValue ∷ [] else []

abbrev pub owner_fault : List Row → Kinds
owner_fault rows = owner_fault_of (first_of (codes "owner") rows)

-- what is wrong with a command's words behind its rules: with those of `daemon`, or with the owner of `mount`
abbrev pub words_fault_in : Option (Text × List Row) → Kinds
words_fault_in None = []
words_fault_in (Some command) =
    if bytes_eq command.0 (codes "daemon") then daemon_fault command.1
    else if bytes_eq command.0 (codes "mount") then owner_fault command.1
    else []

-- what is wrong with the words: by the rules of the commands, and else with those of a daemon or a mount's owner
abbrev pub wrong_of : List Text → Kinds
wrong_of words = or_else (fault_of edend_app words) (words_fault_in (command_of words))

-- whether the command is one of a process that serves over sockets
abbrev pub is_server : Option (Text × List Row) → Bool
is_server None = false
is_server (Some command) =
    bytes_eq command.0 (codes "broker") || bytes_eq command.0 (codes "daemon") || bytes_eq command.0 (codes "mount")
