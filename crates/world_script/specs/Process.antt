-- A run of the program in a process. (This project's own.)
use Rattle.std.specs.Prelude.{◌≡◌, ℕ, List, Option, Result, IfOk, IfSome, OnOk}
use Rattle.std.specs.declared.io.Error.{Error as IoError}
use Rattle.clap.specs.Words.{Text}
use Rattle.world_script.specs.ProgramEnd.{EndsAfter, EndsBy, HandlerKnown, Had, Says, status_of}
use Rattle.world_script.specs.declared.failure.Failure.{Failure}
use Rattle.world_script.specs.declared.program_end.ProgramEnd.{ProgramEnd}

-- The process ends by an ending of which this is known. The ending determines the status, and what standard error gets.
pub record EndsWith (known : ProgramEnd → Type 0) (errors errors_after : Option (List ℕ))
    (status : ℕ) (said : Result (Unit {0}) IoError) : Type 0 where
  pub ending : ProgramEnd
  pub is : known ending
  pub status_is : status ≡ status_of ending
  -- standard error got exactly what the ending says, unless a write to it failed
  pub says : OnOk said (Says ending errors errors_after)

-- the process ends after a server command with this result
abbrev pub EndsCommand :
    Result (Unit {0}) Failure → Option (List ℕ) → Option (List ℕ) → Option (List ℕ) → Option (List ℕ) →
    ℕ → Result (Unit {0}) IoError → Type 0
EndsCommand ran output output_after errors errors_after status said =
    EndsWith (EndsAfter ran output output_after) errors errors_after status said

-- The program ran in a process of which this is known: its words, the bytes of standard input and of files, how server
-- commands end, and what standard output and standard error held before and hold after. There are words, which are the known
-- ones where some are known. There is an ending for them, which determines all else.
pub record RunsIn (words : Option (List Text)) (input : Option (List ℕ)) (file : List ℕ → Option (List ℕ))
    (handler : HandlerKnown)
    (output output_after errors errors_after : Option (List ℕ))
    (status : ℕ) (said : Result (Unit {0}) IoError) : Type 0 where
  pub had : Had
  pub are : IfOk had (λ all. IfSome words (λ known. all ≡ known))
  pub ends : EndsWith (EndsBy had input file handler output output_after) errors errors_after status said
