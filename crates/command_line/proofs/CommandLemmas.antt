-- Lemmas on the command that `clap` reads words by.
use Rattle.std.proofs.Common.{◌≡◌, ◌||◌, Bool, true, false, List, Option, Some, None, refl, ap, ap₂, sym, [], ◌∙◌, codes, option_map, unwrap_or, is_some, if◌then◌else◌}
use Rattle.std.specs.Str.{bytes_eq}
use Rattle.std.proofs.lemmas.Slice.Eq.{bytes_eq-Decides}
use Rattle.std.specs.Borrow.{Bor}
use Rattle.clap.specs.Words.{AddsArg, AddsSubcommand, App, Row, Rule, Text, app_of, first_of, new_app, rule_of, with_rule, with_subcommand}
use Rattle.clap.specs.Simple.{app_of_fields}
use Rattle.clap.specs.declared.builder.arg.Arg.{Arg}
use Rattle.clap.specs.declared.builder.command.Command.{Command, out-Command}
use Rattle.command_line.specs.CommandLine.{IsReadAs, is_server, limit_in, number_or, script_in, standard_input, owner_fault, daemon_fault, words_fault_in}

-- a command of its own, as it is made
pub made : (name : Text) (command : Command) → app_of command ≡ new_app name → (out-Command command).has_globals ≡ false → IsReadAs (new_app name) command
made name command app own = (app, own)

-- a text for help changes nothing that is read
pub with_about : (app : App) (old told : Command) (about : Bor Text) → out-Command told ≡ record (out-Command old) { about = Some about } → IsReadAs app old → IsReadAs app told
with_about app old told about is read = (ap app_of_fields is ∙ read.0, ap (λ fields. fields.has_globals) is ∙ read.1)

-- a text at the end of the help changes nothing that is read
pub with_after_help : (app : App) (old told : Command) (text : Bor Text) → out-Command told ≡ record (out-Command old) { after_help = Some text } → IsReadAs app old → IsReadAs app told
with_after_help app old told text is read = (ap app_of_fields is ∙ read.0, ap (λ fields. fields.has_globals) is ∙ read.1)

-- a usage that is shown in place of `clap`'s own changes nothing that is read
pub with_usage : (app : App) (old told : Command) (text : Bor Text) → out-Command told ≡ record (out-Command old) { usage_str = Some text } → IsReadAs app old → IsReadAs app told
with_usage app old told text is read = (ap app_of_fields is ∙ read.0, ap (λ fields. fields.has_globals) is ∙ read.1)

-- an argument that belongs to the command alone is one rule more
pub with_arg : (app : App) (rule : Rule) (old new : Command) (arg : Arg) → rule_of arg ≡ rule → arg.global ≡ false → IsReadAs app old → AddsArg old arg new → IsReadAs (with_rule app rule) new
with_arg app rule old new arg rule_is own read adds =
    (adds.shape own ∙ ap₂ with_rule read.0 rule_is, adds.globals ∙ ap₂ (λ (a b : Bool). a || b) read.1 own)

-- a command is one more below another
pub with_command : (app below : App) (old new sub : Command) → IsReadAs app old → IsReadAs below sub → AddsSubcommand old sub new → IsReadAs (with_subcommand app below.top) new
with_command app below old new sub read sub_read adds = (
  adds.shape sub_read.1 ∙ ap₂ with_subcommand read.0 (ap (λ (a : App). a.top) sub_read.0),
  adds.globals ∙ ap₂ (λ (a b : Bool). a || b) read.1 sub_read.1,
)

-- the same command, with a version
abbrev pub versioned : App → App
versioned app = record { top = record app.top { has_version = true }; subs = app.subs }

-- a version, and a text for help
pub with_version : (app : App) (old new told : Command) (version about : Bor Text) →
    out-Command new ≡ record (out-Command old) { version = Some version } → out-Command told ≡ record (out-Command new) { about = Some about } →
    IsReadAs app old → IsReadAs (versioned app) told
with_version app old new told version about first second read = (
  ap app_of_fields second ∙ ap (λ fields. app_of_fields (record fields { about = Some about })) first ∙ ap versioned read.0,
  ap (λ fields. fields.has_globals) second ∙ ap (λ fields. fields.has_globals) first ∙ read.1,
)

world_or_none : (equal : Bool) (sub : Text × List Row) → bytes_eq sub.0 (codes "world") ≡ equal → script_in (Some sub) ≡ (if equal then unwrap_or (first_of (codes "SCRIPT") sub.1) standard_input else standard_input)
world_or_none equal sub is = ap (λ (b : Bool). if b then unwrap_or (first_of (codes "SCRIPT") sub.1) standard_input else standard_input) is

-- `world` was read, with these rows
pub script_in-world : (sub : Option (Text × List Row)) (rows : List Row) → option_map (λ (p : Text × List Row). p.0) sub ≡ Some (codes "world") → option_map (λ (p : Text × List Row). p.1) sub ≡ Some rows →
    script_in sub ≡ unwrap_or (first_of (codes "SCRIPT") rows) standard_input
script_in-world None rows name is = cc
script_in-world (Some sub) rows name is =
    let name_is : sub.0 ≡ codes "world" = cc in
    let rows_are : sub.1 ≡ rows = cc in
    world_or_none true sub ((bytes_eq-Decides sub.0 (codes "world")).1 name_is)
    ∙ ap (λ (r : List Row). unwrap_or (first_of (codes "SCRIPT") r) standard_input) rows_are

limit_or_none : (equal : Bool) (sub : Text × List Row) → bytes_eq sub.0 (codes "world") ≡ equal → limit_in (Some sub) ≡ (if equal then number_or 1024 (first_of (codes "limit") sub.1) else 1024)
limit_or_none equal sub is = ap (λ (b : Bool). if b then number_or 1024 (first_of (codes "limit") sub.1) else 1024) is

pub limit_in-world : (sub : Option (Text × List Row)) (rows : List Row) → option_map (λ (p : Text × List Row). p.0) sub ≡ Some (codes "world") → option_map (λ (p : Text × List Row). p.1) sub ≡ Some rows →
    limit_in sub ≡ number_or 1024 (first_of (codes "limit") rows)
limit_in-world None rows name is = cc
limit_in-world (Some sub) rows name is =
    let name_is : sub.0 ≡ codes "world" = cc in
    let rows_are : sub.1 ≡ rows = cc in
    limit_or_none true sub ((bytes_eq-Decides sub.0 (codes "world")).1 name_is) ∙ ap (λ (r : List Row). number_or 1024 (first_of (codes "limit") r)) rows_are

-- two maps of an option, one after the other, are one map
pub option_map_twice : {A B C : Type 0} (f : B → C) (g : A → B) (o : Option A) → option_map f (option_map g o) ≡ option_map (λ x. f (g x)) o
option_map_twice f g None = refl
option_map_twice f g (Some x) = refl

-- a text that may be there, or another
pub text_or : (found : Option (Bor Text)) (other : Bor Text) (text : Option Text) → option_map (λ s. s.now) found ≡ text → (unwrap_or found other).now ≡ unwrap_or text other.now
text_or None other text is = ap (λ t. unwrap_or t other.now) is
text_or (Some s) other text is = ap (λ t. unwrap_or t other.now) is

-- whether a text is there
pub text_there : (found : Option (Bor Text)) (text : Option Text) → option_map (λ s. s.now) found ≡ text → is_some found ≡ is_some text
text_there None text is = ap (λ t. is_some t) is
text_there (Some s) text is = ap (λ t. is_some t) is

second_of_two : (a b c : Bool) → b ≡ true → ((a || b) || c) ≡ true
second_of_two true b c is = refl
second_of_two false true c is = refl
second_of_two false false c is = let bad : true ≡ false = sym is in cc

third_of_three : (a b c : Bool) → c ≡ true → ((a || b) || c) ≡ true
third_of_three true b c is = refl
third_of_three false true c is = refl
third_of_three false false true is = refl
third_of_three false false false is = let bad : true ≡ false = sym is in cc

-- what is wrong with the words of `daemon`
pub words_fault-daemon : (sub : Option (Text × List Row)) (rows : List Row) → option_map (λ (p : Text × List Row). p.0) sub ≡ Some (codes "daemon") → option_map (λ (p : Text × List Row). p.1) sub ≡ Some rows →
    words_fault_in sub ≡ daemon_fault rows
words_fault-daemon None rows name is = cc
words_fault-daemon (Some sub) rows name is =
    let name_is : sub.0 ≡ codes "daemon" = cc in
    let rows_are : sub.1 ≡ rows = cc in
    ap (λ (b : Bool). if b then daemon_fault sub.1 else if bytes_eq sub.0 (codes "mount") then owner_fault sub.1 else []) ((bytes_eq-Decides sub.0 (codes "daemon")).1 name_is)
    ∙ ap daemon_fault rows_are

-- nothing is wrong with the words of a command that is no server command
pub words_fault-other : (sub : Option (Text × List Row)) → is_server sub ≡ false → words_fault_in sub ≡ []
words_fault-other None apart = refl
words_fault-other (Some sub) apart = go (bytes_eq sub.0 (codes "daemon")) (bytes_eq sub.0 (codes "mount")) refl refl
  where
    go : (daemon mount : Bool) → bytes_eq sub.0 (codes "daemon") ≡ daemon → bytes_eq sub.0 (codes "mount") ≡ mount → words_fault_in (Some sub) ≡ []
    go true mount is other = let bad : true ≡ false = sym (second_of_two (bytes_eq sub.0 (codes "broker")) (bytes_eq sub.0 (codes "daemon")) (bytes_eq sub.0 (codes "mount")) is) ∙ apart in cc
    go false true is other = let bad : true ≡ false = sym (third_of_three (bytes_eq sub.0 (codes "broker")) (bytes_eq sub.0 (codes "daemon")) (bytes_eq sub.0 (codes "mount")) other) ∙ apart in cc
    go false false is other =
        ap₂ (λ (daemon mount : Bool). if daemon then daemon_fault sub.1 else if mount then owner_fault sub.1 else []) is other
