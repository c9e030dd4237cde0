-- Lemmas on commands that fail: what their failure names, which fault it tells, and what was printed before.
use Rattle.std.proofs.Common.{◌≡◌, ◌<◌, ◌⊎◌, ℕ, List, [], ◌∷◌, length, Option, Some, Result, Ok, Err, refl, subst, sym, ◌∙◌, inl, inr}
use Rattle.std.specs.Option.{IfSome}
use Rattle.std.specs.Io.KnownBytes.{Keeps}
use Rattle.std.proofs.KnownBytes.{Appends-kept, Appends-nil}
use Rattle.broker_process.specs.Mounting.{PrintsDead}
use Rattle.broker_process.specs.declared.fault.MountRunFault.TheVariants as mount
use Rattle.broker_script.specs.Reading.{IsRefusal}
use Rattle.broker_script.specs.declared.fault.BrokerScriptFault.{BrokerScriptFault}
use Rattle.command_line.specs.declared.server_command.BrokerWords.{BrokerWords}
use Rattle.command_line.specs.declared.server_command.DaemonWords.{DaemonWords}
use Rattle.command_line.specs.declared.server_command.ServerCommand.{ServerCommand}
use Rattle.command_line.specs.declared.server_command.ServerCommand.TheVariants as command
use Rattle.git_blobs.specs.declared.tree_fault.TreeFault.TheVariants as tree
use Rattle.world_script.specs.ProgramEnd.{name_by, name_of, plain}
use Rattle.world_script.specs.Refusal.{IsManifestFault, IsReadRefusal}
use Rattle.world_script.specs.Source.{script_at}
use Rattle.world_script.specs.declared.failure.Failure.{Failure}
use Rattle.world_script.specs.declared.program_fault.ProgramFault.{ProgramFault}
use Rattle.world_script.specs.declared.program_fault.ProgramFault.TheVariants.{BadManifest, CannotRead, NoMemory, TooLong}
use Rattle.edend.specs.Commands.{Fails, IsManifestRefusal, IsTold, IsTreeTold, IsUnread, Names, PrintsFirst, RunsTo, fault_of_script, name_at}

-- ---- what was printed

none-dead : (before after : Option (List ℕ)) → Keeps before after → PrintsDead before after
none-dead before after kept = ([], Appends-kept before before after [] (Appends-nil before) kept)

prints-nothing : (e : ServerCommand) (before after : Option (List ℕ)) → Keeps before after → PrintsFirst e before after
prints-nothing (command.Broker words) before after kept = Appends-kept before before after [] (Appends-nil before) kept
prints-nothing (command.Daemon words) before after kept = ([], Appends-kept before before after [] (Appends-nil before) kept)
prints-nothing (command.Mount words) before after kept = inl (none-dead before after kept)

-- a failure before anything was printed
first-none : (e : ServerCommand) (known : Option (List ℕ)) → PrintsFirst e known known
first-none (command.Broker words) known = Appends-nil known
first-none (command.Daemon words) known = ([], Appends-nil known)
first-none (command.Mount words) known = inl ([], Appends-nil known)

pub fails-to : (input : Option (List ℕ)) (file : List ℕ → Option (List ℕ)) (e : ServerCommand) (failure : Failure) (ended : Result (Unit {0}) Failure) (old new : Option (List ℕ)) →
    ended ≡ Err failure → new ≡ old → Names e failure → IsTold input file e old old failure.fault → RunsTo input file e ended old new
fails-to input file e failure ended old new is same names told =
    subst (λ (r : Result (Unit {0}) Failure). RunsTo input file e r old new) (sym is)
    (subst (λ (n : Option (List ℕ)). Fails input file e failure old n) (sym same)
    (record { names = names; told = told; first = inr (first-none e old) }))

-- ---- want of memory, which no error of the system causes

names-no_memory : (e : ServerCommand) → Names e (plain NoMemory)
names-no_memory (command.Broker words) = refl
names-no_memory (command.Daemon words) = refl
names-no_memory (command.Mount words) = refl

tree_no_memory : (repository : List ℕ) (known : Option (List ℕ)) → IsTreeTold repository known NoMemory
tree_no_memory [] known = inl tt
tree_no_memory (byte ∷ rest) known = (tree.NoMemory, refl)

told-no_memory : (input : Option (List ℕ)) (file : List ℕ → Option (List ℕ)) (e : ServerCommand) (before after : Option (List ℕ)) → Keeps before after → IsTold input file e before after NoMemory
told-no_memory input file (command.Broker words) before after kept = inl tt
told-no_memory input file (command.Daemon words) before after kept = inl (tree_no_memory words.git.now (script_at input file words.manifest.now))
told-no_memory input file (command.Mount words) before after kept = record { fault = mount.NoMemory; ran = inl (none-dead before after kept); is_told = refl }

pub fails-no_memory : (input : Option (List ℕ)) (file : List ℕ → Option (List ℕ)) (e : ServerCommand) (before after : Option (List ℕ)) → Keeps before after → Fails input file e (plain NoMemory) before after
fails-no_memory input file e before after kept =
    record { names = names-no_memory e; told = told-no_memory input file e before after kept; first = inr (prints-nothing e before after kept) }

-- ---- a text that was not read

unread : (known : Option (List ℕ)) (fault : ProgramFault) → IsReadRefusal fault → (fault ≡ TooLong → IfSome known (λ all. 1048576 < length all)) → IsUnread known fault
unread known CannotRead is long = tt
unread known TooLong is long = long refl
unread known NoMemory is long = tt
unread known fault is long = absurd is

read_by_broker : (words : BrokerWords) (fault : ProgramFault) → IsReadRefusal fault → name_by words.script.now fault ≡ name_at (command.Broker words) fault
read_by_broker words CannotRead is = refl
read_by_broker words TooLong is = refl
read_by_broker words NoMemory is = refl
read_by_broker words fault is = absurd is

read_by_daemon : (words : DaemonWords) (fault : ProgramFault) → IsReadRefusal fault → name_by words.manifest.now fault ≡ name_at (command.Daemon words) fault
read_by_daemon words CannotRead is = refl
read_by_daemon words TooLong is = refl
read_by_daemon words NoMemory is = refl
read_by_daemon words fault is = absurd is

pub broker-unread : (input : Option (List ℕ)) (file : List ℕ → Option (List ℕ)) (words : BrokerWords) (failure : Failure) (fault : ProgramFault) (ended : Result (Unit {0}) Failure) (old new : Option (List ℕ)) →
    ended ≡ Err failure → new ≡ old → failure.fault ≡ fault → IsReadRefusal fault → (fault ≡ TooLong → IfSome (script_at input file words.script.now) (λ all. 1048576 < length all)) →
    name_of failure ≡ name_by words.script.now failure.fault → RunsTo input file (command.Broker words) ended old new
broker-unread input file words failure fault ended old new is none same refused long named =
    fails-to input file (command.Broker words) failure ended old new is none
    (named ∙ read_by_broker words failure.fault (subst IsReadRefusal (sym same) refused))
    (inl (subst (IsUnread (script_at input file words.script.now)) (sym same) (unread (script_at input file words.script.now) fault refused long)))

pub manifest-unread : (known : Option (List ℕ)) (words : DaemonWords) (failure : Failure) (fault : ProgramFault) → failure.fault ≡ fault → IsReadRefusal fault →
    (fault ≡ TooLong → IfSome known (λ all. 1048576 < length all)) → name_of failure ≡ name_by words.manifest.now failure.fault → IsManifestRefusal known words failure
manifest-unread known words failure fault same refused long named = (
  named ∙ read_by_daemon words failure.fault (subst IsReadRefusal (sym same) refused),
  inl (subst (IsUnread known) (sym same) (unread known fault refused long)),
)

-- ---- a text that was refused

-- no error of the system causes a bad manifest
names-bad_manifest : (words : DaemonWords) (text : List ℕ) (fault : ProgramFault) → IsManifestFault text fault → Names (command.Daemon words) (plain fault)
names-bad_manifest words text (BadManifest fault) is = refl
names-bad_manifest words text NoMemory is = refl
names-bad_manifest words text fault is = absurd is

pub broker-refused : (input : Option (List ℕ)) (file : List ℕ → Option (List ℕ)) (words : BrokerWords) (failure : Failure) (text : List ℕ) (refused : BrokerScriptFault) (ended : Result (Unit {0}) Failure) (old new : Option (List ℕ)) →
    ended ≡ Err failure → new ≡ old → Names (command.Broker words) failure → IfSome (script_at input file words.script.now) (λ all. text ≡ all) → IsRefusal text refused → failure.fault ≡ fault_of_script refused →
    RunsTo input file (command.Broker words) ended old new
broker-refused input file words failure text refused ended old new is none names read why told =
    fails-to input file (command.Broker words) failure ended old new is none names
    (inr (inl (record { script = text; is = read; holds = (refused, why, told) })))

pub manifest-refused : (known : Option (List ℕ)) (words : DaemonWords) (text : List ℕ) (fault : ProgramFault) → IfSome known (λ all. text ≡ all) → IsManifestFault text fault →
    IsManifestRefusal known words (plain fault)
manifest-refused known words text fault read why = (names-bad_manifest words text fault why, inr (record { script = text; is = read; holds = why }))
