-- The bytes of a request (linux/fuse.h: fuse_in_header, and a body of its kind): those that are written, with 0 in the
-- fields that no reader uses, and all those that are read as the request.
use Rattle.std.specs.Prelude.{◌≡◌, ◌<◌, ◌^◌, ◌+◌, ℕ, List, ◌++◌, length}
use Rattle.fuse_wire.specs.declared.request.Ask.{Ask}
use Rattle.fuse_wire.specs.Field.{zeros, u32_bytes, u64_bytes}
use Rattle.fuse_wire.specs.Request.{code, opcode, nodeid, IsNodeid}
use Rattle.fuse_wire.specs.RequestBody.{body, IsBody, FitsBody}

-- the first 24 bytes of a request: the length of the whole, the opcode, the unique, the nodeid
abbrev pub header : ℕ → ℕ → ℕ → ℕ → List ℕ
header len opcode unique nodeid = u32_bytes len ++ u32_bytes opcode ++ u64_bytes unique ++ u64_bytes nodeid

-- a request as it is written: the header, with 16 bytes after its fields, then the body
abbrev pub request_text : Ask → List ℕ
request_text ask =
    (header (40 + length (body ask.what)) (code (opcode ask.what)) ask.unique (nodeid ask.what) ++ zeros 16)
    ++ body ask.what

-- the bytes are read as this request: its header, 16 bytes that are ignored, its body
pub record IsRequestText (ask : Ask) (bytes : List ℕ) : Type 0 where
  pub node : ℕ
  pub others : List ℕ
  pub rest : List ℕ
  pub is_nodeid : IsNodeid ask.what node
  pub sixteen : length others ≡ 16
  pub len_fits : 40 + length rest < 2 ^ 32
  pub is_body : IsBody ask.what rest
  pub parts : bytes ≡ (header (40 + length rest) (code (opcode ask.what)) ask.unique node ++ others) ++ rest

-- the numbers of an ask fit their fields
pub record FitsAsk (ask : Ask) : Type 0 where
  pub unique : ask.unique < 2 ^ 64
  pub opcode_fits : code (opcode ask.what) < 2 ^ 32
  pub nodeid_fits : nodeid ask.what < 2 ^ 64
  pub body_fits : FitsBody ask.what
