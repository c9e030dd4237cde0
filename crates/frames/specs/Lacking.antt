-- How many bytes the frame at the front of a stream lacks. (This project's own.)
use Rattle.std.specs.Prelude.{ℕ, ◌+◌, ◌-◌, nat_lt, List, length, slice_index, Option, Some, None, Result, Ok, Err, if◌then◌else◌}
use Rattle.frames.specs.declared.fault.FrameFault.{FrameFault}
use Rattle.frames.specs.declared.fault.FrameFault.TheVariants.{TooLong, BadKind}
use Rattle.frames.specs.declared.kind.FrameKind.{FrameKind}
use Rattle.frames.specs.FrameText.{longest_body}
use Rattle.frames.specs.Kind.{kind_with}
use Rattle.frames.specs.Reading.{body_len}

-- how many bytes of the body are lacking after the number of this kind, or BadKind if the number is of no kind
abbrev pub lacking_by : Option FrameKind → List ℕ → Result ℕ FrameFault
lacking_by None bytes = Err BadKind
lacking_by (Some kind) bytes = Ok (5 + body_len bytes - length bytes)

-- how many bytes the frame at the front lacks: first those up to the kind, then those of the body; or the fault that
-- shows before the body is whole
unfoldable pub lacking : List ℕ → Result ℕ FrameFault
lacking bytes =
    if nat_lt (length bytes) 4 then Ok (5 - length bytes)
    else if nat_lt longest_body (body_len bytes) then Err TooLong
    else if nat_lt (length bytes) 5 then Ok (5 - length bytes)
    else lacking_by (kind_with (slice_index bytes 4)) bytes

-- the fault is one that shows before the body is whole
abbrev pub IsHeadFault : FrameFault → Type 0
IsHeadFault TooLong = Unit {0}
IsHeadFault BadKind = Unit {0}
IsHeadFault fault = ⊥
