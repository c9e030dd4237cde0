-- A kernel's messages, turn by turn and read by read.
use Rattle.std.proofs.Common.{ℕ, zero, suc, List, Option, Result, inl, inr}
use Rattle.broker_desk.specs.declared.progress.Progress.{Progress}
use Rattle.broker_desk.specs.declared.progress.Progress.TheVariants.{Leaves}
use Rattle.mount_wire.specs.declared.message.KernelMessage.{KernelMessage}
use Rattle.broker_process.specs.Device.{ReadsDevice}
use Rattle.broker_process.specs.Serving.{EndsBy, GoesOn, IsHeard, IsHeardIn, IsHeardToTheEnd, ServesIn, ServesMount}
use Rattle.broker_process.specs.declared.device.DeviceRead.{DeviceRead}
use Rattle.broker_process.specs.declared.fault.MountRunFault.{MountRunFault}
use Rattle.broker_process.specs.declared.service.MountEnd.{MountEnd}

-- one turn more, in front
pub heard_before : (message left : KernelMessage) (end : Progress) → IsHeard message (Leaves left) → IsHeardToTheEnd left end → IsHeardToTheEnd message end
heard_before message left end first rest = (suc rest.0, (left, first, rest.1))

-- one read more, in front
pub read_before : (read : DeviceRead) (ended : Result MountEnd MountRunFault) (left output left_mid output_mid left_then output_then : Option (List ℕ)) → ReadsDevice left left_mid read → GoesOn read output output_mid → ((reads : ℕ) × ServesIn reads ended left_mid output_mid left_then output_then) → ((reads : ℕ) × ServesIn reads ended left output left_then output_then)
read_before read ended left output left_mid output_mid left_then output_then is_read goes rest = (suc rest.0, (read, left_mid, output_mid, is_read, goes, rest.1))

pub read_last : (read : DeviceRead) (ended : Result MountEnd MountRunFault) (left output left_then output_then : Option (List ℕ)) → ReadsDevice left left_then read → EndsBy read ended output output_then → ((reads : ℕ) × ServesIn reads ended left output left_then output_then)
read_last read ended left output left_then output_then is_read ends = (zero, (read, is_read, ends))

-- what is heard to the end leaves nothing
pub never_left : (turns : ℕ) (message left : KernelMessage) → IsHeardIn turns message (Leaves left) → ⊥
never_left zero message left heard = heard.1
never_left (suc turns) message left heard = never_left turns heard.0 left heard.2
