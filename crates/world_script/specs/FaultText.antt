-- The words that tell a fault. (This project's own.)
use Rattle.std.specs.Prelude.{ℕ, List, [], ◌∷◌, ◌++◌, codes}
use Rattle.std.specs.Fmt.{decimal}
use Rattle.manifest.specs.Words.{kind_text}
use Rattle.world_script.specs.declared.program_fault.ProgramFault.{ProgramFault}
use Rattle.world_script.specs.declared.program_fault.ProgramFault.TheVariants.{CannotRead, TooLong, NoEvents, BadManifest, BadLine, NoMemory, CannotWrite, CannotListen, NoBroker, Seated, Full, NoDaemon, OfferRefused, TakeoverFailed, NoThread, Broken, NoLog, NoDevice, CannotMount, NoFiles, NoGit, NoRepository, NoCommit, Sha256, BadTree}

-- the text of a fault
abbrev pub fault_text : ProgramFault → List ℕ
fault_text CannotRead = codes "cannot read"
fault_text TooLong = codes "too long"
fault_text NoEvents = codes "no events"
fault_text (BadManifest fault) = codes "line " ++ decimal fault.line ++ codes ": " ++ kind_text fault.kind
fault_text (BadLine line) = codes "line " ++ decimal line ++ codes ": bad line"
fault_text NoMemory = codes "no memory"
fault_text CannotWrite = codes "cannot write"
fault_text CannotListen = codes "cannot listen"
fault_text NoBroker = codes "no broker"
fault_text Seated = codes "seated"
fault_text Full = codes "full"
fault_text NoDaemon = codes "no daemon"
fault_text OfferRefused = codes "offer refused"
fault_text TakeoverFailed = codes "takeover failed"
fault_text NoThread = codes "no thread"
fault_text Broken = codes "broken"
fault_text NoLog = codes "no log"
fault_text NoDevice = codes "no device"
fault_text CannotMount = codes "cannot mount"
fault_text NoFiles = codes "no files"
fault_text NoGit = codes "no git"
fault_text NoRepository = codes "no repository"
fault_text NoCommit = codes "no commit"
fault_text Sha256 = codes "objects by SHA-256"
fault_text BadTree = codes "bad tree"

-- the line of a fault: `fault: TEXT`
abbrev pub fault_line : ProgramFault → List ℕ
fault_line fault = codes "fault: " ++ fault_text fault ++ 10 ∷ []
