-- What a request is, by its kind: its opcode and the nodeid in its header (linux/fuse.h, enum fuse_opcode and
-- fuse_in_header). Also what a layer above has to know of it: the kernel waits for no reply to a forget, and asks only
-- on numbers that it holds; the kind says the form of the answer (libfuse's `fuse_lowlevel.h`). Each table has a row
-- for each kind of request.
use Rattle.std.specs.Prelude.{◌≡◌, ℕ, ◌==◌, Bool, true, false, List, [], ◌∷◌, Option, Some, None, if◌then◌else◌}
use Rattle.eden_base.specs.declared.number.Number.{Number}
use Rattle.fuse_wire.specs.declared.form.Form.{Form}
use Rattle.fuse_wire.specs.declared.form.Form.TheVariants.{AnEntry, AnOpenEntry, Attributes, NoValue, ABuffer, FileBytes, OnlyAnError}
use Rattle.fuse_wire.specs.declared.item.Item.{Item}
use Rattle.fuse_wire.specs.declared.request.Opcode.{Opcode}
use Rattle.fuse_wire.specs.declared.request.Opcode.TheVariants as opcodes
use Rattle.fuse_wire.specs.declared.request.Request.{Request}
use Rattle.fuse_wire.specs.declared.request.Request.TheVariants.{Lookup, Getattr, Readlink, Create, Mkdir, Unlink, Rmdir, Rename, Read, Readdir, Forget, BatchForget, Other}

-- ---- opcodes

-- the opcode of an operation, as a number
abbrev pub code : Opcode → ℕ
code opcodes.Lookup = 1
code opcodes.Forget = 2
code opcodes.Getattr = 3
code opcodes.Readlink = 5
code opcodes.Mkdir = 9
code opcodes.Unlink = 10
code opcodes.Rmdir = 11
code opcodes.Rename = 12
code opcodes.Read = 15
code opcodes.Readdir = 28
code opcodes.Create = 35
code opcodes.BatchForget = 42
code (opcodes.Other n) = n

-- the operation with this opcode
unfoldable pub opcode_of : ℕ → Opcode
opcode_of n =
    if n == 1 then opcodes.Lookup
    else if n == 2 then opcodes.Forget
    else if n == 3 then opcodes.Getattr
    else if n == 5 then opcodes.Readlink
    else if n == 9 then opcodes.Mkdir
    else if n == 10 then opcodes.Unlink
    else if n == 11 then opcodes.Rmdir
    else if n == 12 then opcodes.Rename
    else if n == 15 then opcodes.Read
    else if n == 28 then opcodes.Readdir
    else if n == 35 then opcodes.Create
    else if n == 42 then opcodes.BatchForget
    else opcodes.Other n

-- the operation is a forget, for which the kernel awaits no reply
abbrev pub is_forget : Opcode → Bool
is_forget opcodes.Forget = true
is_forget opcodes.BatchForget = true
is_forget opcode = false

-- the operation of a request
abbrev pub opcode : Request → Opcode
opcode (Lookup dir name) = opcodes.Lookup
opcode (Getattr node) = opcodes.Getattr
opcode (Readlink node) = opcodes.Readlink
opcode (Create dir name perm) = opcodes.Create
opcode (Mkdir dir name perm) = opcodes.Mkdir
opcode (Unlink dir name) = opcodes.Unlink
opcode (Rmdir dir name) = opcodes.Rmdir
opcode (Rename dir name to_dir to_name) = opcodes.Rename
opcode (Read node offset size) = opcodes.Read
opcode (Readdir dir offset size) = opcodes.Readdir
opcode (Forget item) = opcodes.Forget
opcode (BatchForget items) = opcodes.BatchForget
opcode (Other n node) = opcodes.Other n

-- a request can be sent: an Other does not have the opcode of another variant
abbrev pub IsSendable : Request → Type 0
IsSendable (Other n node) = opcode_of n ≡ opcodes.Other n
IsSendable request = Unit {0}

-- the request Other for this operation and this number, if no other variant has the operation
abbrev pub other_by : Opcode → Number → Option Request
other_by (opcodes.Other n) node = Some (Other n node)
other_by opcode node = None

-- the request Other for this opcode and this number, if no other variant has the opcode
abbrev pub other_of : ℕ → Number → Option Request
other_of n node = other_by (opcode_of n) node

-- ---- the nodeid

-- the nodeid that is written into the header: the old directory's for a RENAME, and 0 for a batch, whose numbers are in
-- its items
abbrev pub nodeid : Request → ℕ
nodeid (Lookup dir name) = dir.0
nodeid (Getattr node) = node.0
nodeid (Readlink node) = node.0
nodeid (Create dir name perm) = dir.0
nodeid (Mkdir dir name perm) = dir.0
nodeid (Unlink dir name) = dir.0
nodeid (Rmdir dir name) = dir.0
nodeid (Rename dir name to_dir to_name) = dir.0
nodeid (Read node offset size) = node.0
nodeid (Readdir dir offset size) = dir.0
nodeid (Forget item) = item.node.0
nodeid (BatchForget items) = 0
nodeid (Other n node) = node.0

-- the header of a request may have this nodeid, which is any number for a batch
abbrev pub IsNodeid : Request → ℕ → Type 0
IsNodeid (BatchForget items) n = Unit {0}
IsNodeid request n = n ≡ nodeid request

-- ---- what a layer above has to know

-- whether a request is answered
abbrev pub is_ask : Request → Bool
is_ask (Forget item) = false
is_ask (BatchForget items) = false
is_ask request = true

-- the numbers of the files that a request is for; those of a forget are in its items
abbrev pub nodes : Request → List Number
nodes (Lookup dir name) = dir ∷ []
nodes (Getattr node) = node ∷ []
nodes (Readlink node) = node ∷ []
nodes (Create dir name perm) = dir ∷ []
nodes (Mkdir dir name perm) = dir ∷ []
nodes (Unlink dir name) = dir ∷ []
nodes (Rmdir dir name) = dir ∷ []
nodes (Rename dir name to_dir to_name) = dir ∷ to_dir ∷ []
nodes (Read node offset size) = node ∷ []
nodes (Readdir dir offset size) = dir ∷ []
nodes (Forget item) = []
nodes (BatchForget items) = []
nodes (Other n node) = node ∷ []

-- the form of the answer to a request, if the request does not fail
abbrev pub form_of : Request → Form
form_of (Lookup dir name) = AnEntry
form_of (Mkdir dir name perm) = AnEntry
form_of (Create dir name perm) = AnOpenEntry
form_of (Getattr node) = Attributes
form_of (Unlink dir name) = NoValue
form_of (Rmdir dir name) = NoValue
form_of (Rename dir name to_dir to_name) = NoValue
form_of (Readlink node) = FileBytes
form_of (Read node offset size) = FileBytes
form_of (Readdir dir offset size) = ABuffer
form_of request = OnlyAnError

-- the item of a FORGET; none for any other request, also for a batch
abbrev pub item_of : Request → Option Item
item_of (Forget item) = Some item
item_of request = None

-- the items of a forget of either form; none for any other request
abbrev pub items_of : Request → List Item
items_of (Forget item) = item ∷ []
items_of (BatchForget items) = items
items_of request = []
