-- The body of a request, by its kind (linux/fuse.h: the struct of each opcode). First comes how it is written, with 0
-- in the fields that no reader uses, then which bytes are read as the body. Last comes what bytes are read as, or their
-- first fault. Each table has a row for each kind of request.
use Rattle.std.specs.Prelude.{All, ◌≡◌, ◌<◌, ◌≤◌, ◌^◌, ◌+◌, ◌-◌, ◌*◌, ◌%◌, ◌⊎◌, ℕ, zero, suc, not, ◌||◌, ◌&&◌, ◌==◌, nat_lt, List, [], ◌∷◌, ◌++◌, length, take, drop, slice_index, Option, Some, None, Result, Ok, Err, if◌then◌else◌}
use Rattle.std.specs.List.{flat_map}
use Rattle.eden_base.specs.declared.attr.Perm.{Perm}
use Rattle.eden_base.specs.declared.name.NameFault.{NameFault}
use Rattle.eden_base.specs.declared.number.Number.{Number}
use Rattle.eden_base.specs.Name.{IsNameText, name_fault}
use Rattle.eden_base.specs.Text.{cut}
use Rattle.fuse_wire.specs.declared.fault.WireFault.{WireFault}
use Rattle.fuse_wire.specs.declared.fault.WireFault.TheVariants.{BadBody, BadCount, BadName}
use Rattle.fuse_wire.specs.declared.item.Item.{Item}
use Rattle.fuse_wire.specs.declared.request.Opcode.{Opcode}
use Rattle.fuse_wire.specs.declared.request.Opcode.TheVariants as opcodes
use Rattle.fuse_wire.specs.declared.request.Request.{Request}
use Rattle.fuse_wire.specs.declared.request.Request.TheVariants.{Lookup, Getattr, Readlink, Create, Mkdir, Unlink, Rmdir, Rename, Read, Readdir, Forget, BatchForget, Other}
use Rattle.fuse_wire.specs.Field.{zeros, u32_bytes, u64_bytes, u32_at, u64_at}
use Rattle.fuse_wire.specs.Mode.{S_IFREG, perm_of}
use Rattle.byte_codec.specs.Reading.{◌>>=◌}
use Rattle.fuse_wire.specs.Request.{opcode_of}

-- ---- as written

-- a name and its NUL
abbrev pub name_text : List ℕ → List ℕ
name_text name = name ++ 0 ∷ []

-- one item of a batch
abbrev pub item_text : Item → List ℕ
item_text item = u64_bytes item.node.0 ++ u64_bytes item.k

-- a fixed part, in which a mode stands at an offset with `rest` bytes after the mode, and then a name
abbrev pub made_body : ℕ → ℕ → ℕ → List ℕ → List ℕ
made_body offset mode rest name = (zeros offset ++ u32_bytes mode ++ zeros rest) ++ name_text name

-- the body of a batch: the count and four bytes, then the items
abbrev pub batch_body : List Item → List ℕ
batch_body items = (u32_bytes (length items) ++ zeros 4) ++ flat_map item_text items

-- the body of a RENAME: the number of the new directory, then the old name and the new one
abbrev pub move_body : Number → List ℕ → List ℕ → List ℕ
move_body to_dir name to_name = u64_bytes to_dir.0 ++ name_text name ++ name_text to_name

-- the body of a READ or a READDIR: the number of an open file, then an offset and a size, then flags and an owner of
-- locks
abbrev pub range_body : ℕ → ℕ → List ℕ
range_body offset size = (zeros 8 ++ u64_bytes offset ++ u32_bytes size) ++ zeros 20

-- what follows the header; CREATE has flags before the mode, and umask and another word after it, MKDIR has umask after
-- it
abbrev pub body : Request → List ℕ
body (Lookup dir name) = name_text name
body (Unlink dir name) = name_text name
body (Rmdir dir name) = name_text name
body (Rename dir name to_dir to_name) = move_body to_dir name to_name
body (Read node offset size) = range_body offset size
body (Readdir dir offset size) = range_body offset size
body (Create dir name perm) = made_body 4 (S_IFREG + perm.bits) 8 name
body (Mkdir dir name perm) = made_body 0 perm.bits 4 name
body (Getattr node) = zeros 16
body (Readlink node) = []
body (Forget item) = u64_bytes item.k
body (BatchForget items) = batch_body items
body (Other n node) = []

-- ---- as read: fields that are ignored may be any bytes

-- a mode has these permissions; its bits above them are ignored
pub record IsMode (perm : Perm) (mode : ℕ) : Type 0 where
  pub in_range : mode < 2 ^ 32
  pub low : mode % 4096 ≡ perm.bits

-- a body of CREATE or MKDIR: a fixed part, of which only the mode is read, then a name
pub record IsMadeBody (offset rest : ℕ) (name : List ℕ) (perm : Perm) (bytes : List ℕ) : Type 0 where
  pub before : List ℕ
  pub mode : ℕ
  pub behind : List ℕ
  pub len_before : length before ≡ offset
  pub is_mode : IsMode perm mode
  pub len_behind : length behind ≡ rest
  pub is_name : IsNameText name
  pub parts : bytes ≡ (before ++ u32_bytes mode ++ behind) ++ name_text name

-- a body of BATCH_FORGET: the count, four bytes that are ignored, the items
pub record IsBatchBody (items : List Item) (bytes : List ℕ) : Type 0 where
  pub others : List ℕ
  pub four : length others ≡ 4
  pub at_most : length items ≤ 256
  pub parts : bytes ≡ (u32_bytes (length items) ++ others) ++ flat_map item_text items

-- a body of RENAME: the number of the new directory, and two names
pub record IsMoveBody (to_dir : Number) (name to_name : List ℕ) (bytes : List ℕ) : Type 0 where
  pub is_name : IsNameText name
  pub is_to_name : IsNameText to_name
  pub parts : bytes ≡ move_body to_dir name to_name

-- a body of READ or READDIR: eight bytes that are ignored, an offset and a size, and twenty bytes that are ignored
pub record IsRangeBody (offset size : ℕ) (bytes : List ℕ) : Type 0 where
  pub before : List ℕ
  pub behind : List ℕ
  pub len_before : length before ≡ 8
  pub len_behind : length behind ≡ 20
  pub parts : bytes ≡ (before ++ u64_bytes offset ++ u32_bytes size) ++ behind

-- the bytes after the header are a body of this request
abbrev pub IsBody : Request → List ℕ → Type 0
IsBody (Lookup dir name) bytes = IsNameText name × (bytes ≡ name_text name)
IsBody (Unlink dir name) bytes = IsNameText name × (bytes ≡ name_text name)
IsBody (Rmdir dir name) bytes = IsNameText name × (bytes ≡ name_text name)
IsBody (Rename dir name to_dir to_name) bytes = IsMoveBody to_dir name to_name bytes
IsBody (Read node offset size) bytes = IsRangeBody offset size bytes
IsBody (Readdir dir offset size) bytes = IsRangeBody offset size bytes
IsBody (Create dir name perm) bytes = IsMadeBody 4 8 name perm bytes
IsBody (Mkdir dir name perm) bytes = IsMadeBody 0 4 name perm bytes
IsBody (Getattr node) bytes = length bytes ≡ 16
IsBody (Readlink node) bytes = bytes ≡ []
IsBody (Forget item) bytes = bytes ≡ u64_bytes item.k
IsBody (BatchForget items) bytes = IsBatchBody items bytes
IsBody (Other n node) bytes = opcode_of n ≡ opcodes.Other n

-- ---- numbers that fit their fields

-- the numbers of an item fit their fields
pub record FitsItem (item : Item) : Type 0 where
  pub node_fits : item.node.0 < 2 ^ 64
  pub k_fits : item.k < 2 ^ 64

-- the numbers of a body fit their fields
abbrev pub FitsBody : Request → Type 0
FitsBody (Rename dir name to_dir to_name) = to_dir.0 < 2 ^ 64
FitsBody (Read node offset size) = (offset < 2 ^ 64) × (size < 2 ^ 32)
FitsBody (Readdir dir offset size) = (offset < 2 ^ 64) × (size < 2 ^ 32)
FitsBody (Forget item) = item.k < 2 ^ 64
FitsBody (BatchForget items) = All FitsItem items
FitsBody request = Unit {0}

-- ---- what is read, or the first fault

-- this name if it has no fault, else BadName with the fault
abbrev pub checked : List ℕ → Option NameFault → Result (List ℕ) WireFault
checked name None = Ok name
checked name (Some fault) = Err (BadName fault)

-- the bytes before a NUL at the end, or BadBody if the last byte is no NUL
unfoldable pub ended_by_nul : List ℕ → Result (List ℕ) WireFault
ended_by_nul bytes =
    if nat_lt 0 (length bytes) && slice_index bytes (length bytes - 1) == 0
    then Ok (take (length bytes - 1) bytes)
    else Err BadBody

-- the name in a body that ends with a NUL, or the first fault
unfoldable pub name_of : List ℕ → Result (List ℕ) WireFault
name_of body = ended_by_nul body >>= λ name. checked name (name_fault name)

-- two names, or the first fault, which is the first name's if both have one
abbrev pub both_checked : List ℕ → List ℕ → Result (List ℕ × List ℕ) WireFault
both_checked first second =
    checked first (name_fault first) >>= λ old. checked second (name_fault second) >>= λ new. Ok (old, new)

-- two names, of which the first ends before the first NUL, if there is one, and the second before a NUL at the end
abbrev pub names_in : Option (List ℕ × List ℕ) → Result (List ℕ × List ℕ) WireFault
names_in (Some parts) = ended_by_nul parts.1 >>= λ second. both_checked parts.0 second
names_in None = Err BadBody

-- the two names in these bytes, each with its NUL, or the first fault
unfoldable pub names_of : List ℕ → Result (List ℕ × List ℕ) WireFault
names_of bytes = names_in (cut 0 bytes)

-- the new directory, the old name and the new one in a body of RENAME, or the first fault
unfoldable pub move_of : List ℕ → Result (Number × List ℕ × List ℕ) WireFault
move_of body =
    if nat_lt (length body) 8 then Err BadBody
    else names_of (drop 8 body) >>= λ names. Ok (record { 0 = u64_at body }, names.0, names.1)

-- the name in these bytes with these permissions, or the first fault
abbrev pub named_with : Perm → List ℕ → Result (List ℕ × Perm) WireFault
named_with perm rest = name_of rest >>= λ name. Ok (name, perm)

-- the name after the mode and `rest` more bytes, with the permissions of the mode at `offset`, or the first fault
unfoldable pub made_of : ℕ → ℕ → List ℕ → Result (List ℕ × Perm) WireFault
made_of offset rest body =
    if nat_lt (length body) (offset + 4 + rest) then Err BadBody
    else named_with (perm_of (u32_at (drop offset body))) (drop (offset + 4 + rest) body)

-- the offset and the size in a body of READ or READDIR, which has forty bytes, or BadBody
unfoldable pub range_of : List ℕ → Result (ℕ × ℕ) WireFault
range_of body = if length body == 40 then Ok (u64_at (drop 8 body), u32_at (drop 16 body)) else Err BadBody

-- the item in the first sixteen bytes
abbrev pub item_at : List ℕ → Item
item_at bytes = record { node = record { 0 = u64_at bytes }; k = u64_at (drop 8 bytes) }

-- this count of items at the front of the bytes, of sixteen bytes each
unfoldable pub items_at : ℕ → List ℕ → List Item
items_at zero bytes = []
items_at (suc n) bytes = item_at bytes ∷ items_at n (drop 16 bytes)

-- the items in a body of BATCH_FORGET, at most 256, or the first fault; four bytes after the count are ignored
unfoldable pub batch_of : List ℕ → Result (List Item) WireFault
batch_of body =
    if nat_lt (length body) 8 then Err BadBody
    else if nat_lt 256 (u32_at body) || not (length body == 8 + 16 * u32_at body) then Err BadCount
    else Ok (items_at (u32_at body) (drop 8 body))

-- the item of a FORGET with this number in the header and this body, or BadBody
unfoldable pub forget_of : Number → List ℕ → Result Item WireFault
forget_of node body = if length body == 8 then Ok (record { node = node; k = u64_at body }) else Err BadBody

-- the request with this operation, this nodeid and this body, or the first fault
unfoldable pub what_of : Opcode → Number → List ℕ → Result Request WireFault
what_of opcodes.Lookup node body = name_of body >>= λ name. Ok (Lookup node name)
what_of opcodes.Unlink node body = name_of body >>= λ name. Ok (Unlink node name)
what_of opcodes.Rmdir node body = name_of body >>= λ name. Ok (Rmdir node name)
what_of opcodes.Create node body = made_of 4 8 body >>= λ made. Ok (Create node made.0 made.1)
what_of opcodes.Mkdir node body = made_of 0 4 body >>= λ made. Ok (Mkdir node made.0 made.1)
what_of opcodes.Rename node body = move_of body >>= λ move. Ok (Rename node move.1 move.0 move.2)
what_of opcodes.Read node body = range_of body >>= λ range. Ok (Read node range.0 range.1)
what_of opcodes.Readdir node body = range_of body >>= λ range. Ok (Readdir node range.0 range.1)
what_of opcodes.Getattr node body = if length body == 16 then Ok (Getattr node) else Err BadBody
what_of opcodes.Readlink node body = if length body == 0 then Ok (Readlink node) else Err BadBody
what_of opcodes.Forget node body = forget_of node body >>= λ item. Ok (Forget item)
what_of opcodes.BatchForget node body = batch_of body >>= λ items. Ok (BatchForget items)
what_of (opcodes.Other opcode) node body = Ok (Other opcode node)

-- ---- what takes memory

-- a name takes memory of its own: it has more than the 16 bytes that stand in its value (eden_base: `SHORT`)
abbrev pub IsLongName : List ℕ → Type 0
IsLongName name = 16 < length name

-- one of two names takes memory
abbrev pub IsLongEither : List ℕ → List ℕ → Type 0
IsLongEither first second = IsLongName first ⊎ IsLongName second

-- a request takes memory: it has a long name, or is a batch
abbrev pub TakesMemory : Request → Type 0
TakesMemory (Lookup dir name) = IsLongName name
TakesMemory (Create dir name perm) = IsLongName name
TakesMemory (Mkdir dir name perm) = IsLongName name
TakesMemory (Unlink dir name) = IsLongName name
TakesMemory (Rmdir dir name) = IsLongName name
TakesMemory (Rename dir name to_dir to_name) = IsLongEither name to_name
TakesMemory (BatchForget items) = Unit {0}
TakesMemory request = ⊥
