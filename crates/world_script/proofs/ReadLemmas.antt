-- Lemmas on what holds of a script that was read.
use Rattle.std.proofs.Common.{◌≡◌, ℕ, suc, ◌<◌, List, [], length, replicate, Option, Some, None, Result, Ok, Err, false, refl, sym, subst, ◌∙◌, arith}
use Rattle.std.specs.Prelude.{IfErr, IfSome, OnOk, codes}
use Rattle.std.specs.Str.{bytes_eq}
use Rattle.std.specs.Io.KnownBytes.{Keeps}
use Rattle.std.proofs.lemmas.List.{length-replicate}
use Rattle.world_script.specs.declared.program_fault.ProgramFault.{ProgramFault}
use Rattle.world_script.specs.declared.program_fault.ProgramFault.TheVariants.{CannotRead, TooLong, NoMemory}
use Rattle.world_script.specs.Refusal.{IsReadRefusal, IsRunRefusal}
use Rattle.world_script.specs.Source.{OfRead, script_at}
use Rattle.world_script.specs.declared.run_error.RunError.{RunError}

-- what holds of every script holds of the script that was read
pub of_read-any : (known : Option (List ℕ)) (Holds : List ℕ → Type 0) → ((script : List ℕ) → Holds script) → OfRead known Holds
of_read-any None Holds all = record { script = []; is = tt; holds = all [] }
of_read-any (Some script) Holds all = record { script = script; is = refl; holds = all script }

-- what follows from something that holds of the script that was read holds of it too
pub of_read-map : (known : Option (List ℕ)) (Holds Follows : List ℕ → Type 0) → ((script : List ℕ) → Holds script → Follows script) → OfRead known Holds → OfRead known Follows
of_read-map known Holds Follows goes read = record { script = read.script; is = read.is; holds = goes read.script read.holds }

-- what is known of where a reader comes from is known of the reader
pub of_read-kept : (known opened : Option (List ℕ)) (Holds : List ℕ → Type 0) → Keeps known opened → OfRead opened Holds → OfRead known Holds
of_read-kept None opened Holds kept read = record { script = read.script; is = tt; holds = read.holds }
of_read-kept (Some all) None Holds kept read = absurd kept
of_read-kept (Some all) (Some same) Holds kept read = record { script = read.script; is = read.is ∙ kept; holds = read.holds }

-- a script at a path that isn't standard input's is the file's
pub at_file : (input : Option (List ℕ)) (file : List ℕ → Option (List ℕ)) (path : List ℕ) → false ≡ bytes_eq path (codes "-") → script_at input file path ≡ file path
at_file input file path not = rw (sym not) refl

-- what holds of a run of the file that was opened holds of what is known of its path
pub opened_runs : {E : Type 0} (r : Result (Unit {0}) E) (at known opened : Option (List ℕ)) (Holds : List ℕ → Type 0) → at ≡ known → Keeps known opened → OnOk r (OfRead opened Holds) → OnOk r (OfRead at Holds)
opened_runs (Ok done) at known opened Holds same kept ran = subst (λ (k : Option (List ℕ)). OfRead k Holds) (sym same) (of_read-kept known opened Holds kept ran)
opened_runs (Err error) at known opened Holds same kept ran = tt

-- a refusal of the file that was opened is one of what is known of its path
pub opened_refused : (r : Result (Unit {0}) RunError) (at known opened : Option (List ℕ)) → at ≡ known → Keeps known opened →
    IfErr r (λ error. OfRead opened (λ script. IsRunRefusal script error.fault)) → IfErr r (λ error. OfRead at (λ script. IsRunRefusal script error.fault))
opened_refused (Ok done) at known opened same kept ran = tt
opened_refused (Err error) at known opened same kept ran =
    subst (λ (k : Option (List ℕ)). OfRead k (λ script. IsRunRefusal script error.fault)) (sym same) (of_read-kept known opened (λ script. IsRunRefusal script error.fault) kept ran)

-- there are bytes of every length
longer : (n : ℕ) → (bytes : List ℕ) × (n < length bytes)
longer n = (replicate {A = ℕ} (suc n) 0, omega (arith, length-replicate {A = ℕ} (suc n) 0))

-- a script whose bytes were not read is refused for that
pub refused_early : (known : Option (List ℕ)) (fault : ProgramFault) → IsReadRefusal fault → (fault ≡ TooLong → IfSome known (λ all. 1048576 < length all)) → OfRead known (λ script. IsRunRefusal script fault)
refused_early known CannotRead is long = of_read-any known (λ script. IsRunRefusal script CannotRead) (λ script. tt)
refused_early known NoMemory is long = of_read-any known (λ script. IsRunRefusal script NoMemory) (λ script. tt)
refused_early None TooLong is long = let bytes = longer 1048576 in record { script = bytes.0; is = tt; holds = bytes.1 }
refused_early (Some all) TooLong is long = record { script = all; is = refl; holds = long refl }
refused_early known fault is long = absurd is
