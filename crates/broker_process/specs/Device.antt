-- What a read and a write of a kernel's device do (fs/fuse/dev.c of Linux: a read gives one message, and a write takes
-- one reply).
use Rattle.std.specs.Prelude.{◌≡◌, ℕ, ℤ, Bool, false, ◌||◌, pos, List, Option, Result, Ok, Err, if◌then◌else◌}
use Rattle.std.specs.Io.KnownBytes.{Consumes, Keeps, WriteAppends}
use Rattle.std.specs.IoError.{raw_os_error}
use Rattle.std.specs.Option.{option_map_or}
use Rattle.std.specs.Ordering.{int_eq}
use Rattle.std.specs.declared.io.Error.{Error as IoError}
use Rattle.broker_process.specs.declared.device.Given.{Given}
use Rattle.broker_process.specs.declared.device.Given.TheVariants as given
use Rattle.broker_process.specs.declared.device.DeviceRead.{DeviceRead}
use Rattle.broker_process.specs.declared.device.DeviceRead.TheVariants.{Message, Again, Unmounted, Broken}

-- whether the system told an error by this number
abbrev pub has_number : IoError → ℤ → Bool
has_number error number = option_map_or (λ (code : ℤ). int_eq code number) (raw_os_error error) false

-- what a read says that failed: EINTR (4) and ENOENT (2) that it is to be made again, since it was interrupted or its
-- request withdrawn; ENODEV (19) that the mount is gone; any other error that the device can't be read
abbrev pub failed_read : IoError → DeviceRead
failed_read error =
    if has_number error (pos 4) || has_number error (pos 2) then Again
    else if has_number error (pos 19) then Unmounted
    else Broken error

-- a read gave a message, which leaves what is left to read; or it failed, and nothing leaves
abbrev pub ReadsDevice : Option (List ℕ) → Option (List ℕ) → DeviceRead → Type 0
ReadsDevice old new (Message bytes) = Consumes old new bytes.now
ReadsDevice old new read = (error : IoError) × (read ≡ failed_read error) × Keeps old new

-- what became of a reply whose write failed: ENOENT (2) says that the kernel wants it no more, since its request was
-- withdrawn or the mount is gone; by any other error the device refused it
abbrev pub refused_by : IoError → Given
refused_by error = if has_number error (pos 2) then given.Withdrawn else given.Refused error

-- what became of a reply, by the result of its write
abbrev pub given_by : Result ℕ IoError → Given
given_by (Ok len) = given.Taken
given_by (Err error) = refused_by error

-- a reply was written by one call
abbrev pub Gives : List ℕ → Given → Option (List ℕ) → Option (List ℕ) → Type 0
Gives text given old new =
    (written : Result ℕ IoError) × (given ≡ given_by written) × WriteAppends old new written text
