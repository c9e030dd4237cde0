-- A kernel's BATCH_FORGET (linux/fuse.h: fuse_batch_forget_in, fuse_forget_one), which has any number of items.
use Rattle.std.specs.Prelude.{ℕ, ◌+◌, ◌*◌, ◌==◌, nat_lt, List, length, drop, Result, Ok, Err, if◌then◌else◌}
use Rattle.byte_codec.specs.Reading.{◌>>=◌}
use Rattle.fuse_wire.specs.declared.item.Item.{Item}
use Rattle.fuse_wire.specs.Field.{u32_at}
use Rattle.fuse_wire.specs.RequestBody.{items_at}
use Rattle.mount_wire.specs.declared.fault.KernelMessageFault.{KernelMessageFault}
use Rattle.mount_wire.specs.declared.fault.KernelMessageFault.TheVariants.{BadBody, BadCount}
use Rattle.mount_wire.specs.Header.{behind_header, unique_of}

-- the items in the body of a BATCH_FORGET, or the first fault: a count, four bytes that are ignored, sixteen an item
unfoldable pub items_in : List ℕ → Result (List Item) KernelMessageFault
items_in body =
    if nat_lt (length body) 8 then Err BadBody
    else if length body == 8 + 16 * u32_at body then Ok (items_at (u32_at body) (drop 8 body))
    else Err BadCount

-- the items of the BATCH_FORGET that the bytes are, or their first fault; 42 is the opcode of BATCH_FORGET
unfoldable pub forgotten_of : List ℕ → Result (List Item) KernelMessageFault
forgotten_of bytes = unique_of 42 bytes >>= λ unique. items_in (behind_header bytes)
