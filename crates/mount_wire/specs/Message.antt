-- What a kernel's message comes to: who answers it, and with what (linux/fuse.h; who answers which opcode is this
-- project's own).
use Rattle.std.specs.Prelude.{◌≡◌, ℕ, true, false, ⊤, ◌⊎◌, ◌==◌, List, Option, Some, None, Result, Ok, Err, IsOkAnd, if◌then◌else◌}
use Rattle.eden_base.specs.declared.errno.Errno.TheVariants.{ENOSYS, EINVAL}
use Rattle.fuse_wire.specs.declared.fault.WireFault.{WireFault}
use Rattle.fuse_wire.specs.declared.fault.WireFault.TheVariants.{NoMemory}
use Rattle.fuse_wire.specs.declared.item.Item.{Item}
use Rattle.fuse_wire.specs.declared.reply.Reply.{Reply}
use Rattle.fuse_wire.specs.declared.request.Ask.{Ask}
use Rattle.fuse_wire.specs.FaultReply.{fault_reply_of}
use Rattle.fuse_wire.specs.ReplyText.{reply_text}
use Rattle.fuse_wire.specs.Request.{is_ask, item_of, IsSendable}
use Rattle.fuse_wire.specs.RequestReading.{request_of, WantsMemory}
use Rattle.mount_wire.specs.declared.fault.KernelMessageFault.{KernelMessageFault}
use Rattle.mount_wire.specs.declared.header.RequestHeader.{RequestHeader}
use Rattle.mount_wire.specs.declared.message.KernelMessage.{KernelMessage}
use Rattle.mount_wire.specs.declared.message.KernelMessage.TheVariants.{Answered, Asked, Forgot, ForgotMany, Ignored}
use Rattle.mount_wire.specs.declared.offer.Offer.{Offer}
use Rattle.mount_wire.specs.declared.responder.Responder.{Responder}
use Rattle.mount_wire.specs.declared.responder.Responder.TheVariants.{Init, Statfs, Opendir, Releasedir, Allowed, Refused, Nobody, Daemon}
use Rattle.mount_wire.specs.Batches.{forgotten_of}
use Rattle.mount_wire.specs.Header.{header_of}
use Rattle.mount_wire.specs.Init.{agreement_of, init_reply_text, offer_of}
use Rattle.mount_wire.specs.Responder.{responder_of}
use Rattle.mount_wire.specs.Opendir.{opendir_reply_text, releasedir_reply_text}
use Rattle.mount_wire.specs.Statfs.{statfs_reply_text}
use Rattle.mount_wire.specs.Told.{error_text}

-- ---- what the program answers by itself

-- the answer to INIT, by its offer; an INIT that is cut is answered EINVAL
abbrev pub init_message : ℕ → Result Offer KernelMessageFault → KernelMessage
init_message unique (Ok offer) = Answered (init_reply_text offer.unique (agreement_of offer))
init_message unique (Err fault) = Answered (error_text unique EINVAL)

-- ---- what is for a daemon

-- a forget of one number
abbrev pub forgot_message : Option Item → KernelMessage
forgot_message (Some item) = Forgot item
forgot_message None = Ignored

-- forgets of many numbers; a batch that is broken is ignored, for which the kernel awaits no reply
abbrev pub many_message : Result (List Item) KernelMessageFault → KernelMessage
many_message (Ok items) = ForgotMany items
many_message (Err fault) = Ignored

-- a request that was read: an ask, or a forget
abbrev pub read_message : Ask → KernelMessage
read_message ask = if is_ask ask.what then Asked ask else forgot_message (item_of ask.what)

-- a request that was refused is answered with its error, and a forget isn't answered
abbrev pub refused_message : Option Reply → KernelMessage
refused_message (Some reply) = Answered (reply_text reply)
refused_message None = Ignored

-- a request of a daemon's opcode, by what its bytes are read as
abbrev pub daemon_message : List ℕ → Result Ask WireFault → KernelMessage
daemon_message bytes (Ok ask) = read_message ask
daemon_message bytes (Err fault) = refused_message (fault_reply_of bytes fault)

-- ---- whole messages

-- the message with this header, by who answers it; 42 is the opcode of BATCH_FORGET
abbrev pub message_by : Responder → RequestHeader → List ℕ → KernelMessage
message_by Init header bytes = init_message header.unique (offer_of bytes)
message_by Statfs header bytes = Answered (statfs_reply_text header.unique)
message_by Opendir header bytes = Answered (opendir_reply_text header.unique)
message_by Releasedir header bytes = Answered (releasedir_reply_text header.unique)
message_by Allowed header bytes = Answered (error_text header.unique ENOSYS)
message_by Refused header bytes = Answered (error_text header.unique ENOSYS)
message_by Nobody header bytes = Ignored
message_by Daemon header bytes =
    if header.opcode == 42 then many_message (forgotten_of bytes) else daemon_message bytes (request_of bytes)

-- the message by its header; bytes without a header that fits them are ignored
abbrev pub message_in : List ℕ → Result RequestHeader KernelMessageFault → KernelMessage
message_in bytes (Ok header) = message_by (responder_of header.opcode) header bytes
message_in bytes (Err fault) = Ignored

-- what the bytes of a message come to
unfoldable pub message_of : List ℕ → KernelMessage
message_of bytes = message_in bytes (header_of bytes)

-- the message is no batch, whose items stay in its bytes
abbrev pub IsNoBatch : List ℕ → Type 0
IsNoBatch bytes = IsOkAnd (header_of bytes) (λ header. (header.opcode == 42) ≡ false)

-- memory for a request was refused, and the kernel is told so
pub record Lacks (bytes : List ℕ) (message : KernelMessage) : Type 0 where
  pub takes : IsOkAnd (request_of bytes) WantsMemory
  pub no_batch : IsNoBatch bytes
  pub told : message ≡ daemon_message bytes (Err NoMemory)

-- the message is read as what its bytes come to, unless memory is refused
abbrev pub Reads : List ℕ → KernelMessage → Type 0
Reads bytes message = (message ≡ message_of bytes) ⊎ Lacks bytes message

-- the same of a request of a daemon's opcode that is no batch
abbrev pub ReadsFor : List ℕ → KernelMessage → Type 0
ReadsFor bytes message = (message ≡ daemon_message bytes (request_of bytes)) ⊎ Lacks bytes message

-- what daemons are asked awaits a reply, and can be sent
abbrev pub IsForDaemons : KernelMessage → Type 0
IsForDaemons (Asked ask) = (is_ask ask.what ≡ true) × IsSendable ask.what
IsForDaemons message = ⊤
