-- What is written is a text.
use Rattle.std.proofs.Common.{◌≡◌, ℕ, ◌+◌, ◌≤◌, List, length, Ok, refl, arith}
use Rattle.eden_base.specs.declared.attr.Perm.{Perm}
use Rattle.eden_base.specs.Name.{IsNameText}
use Rattle.fuse_wire.specs.declared.request.Ask.{Ask}
use Rattle.fuse_wire.specs.declared.item.Item.{Item}
use Rattle.fuse_wire.specs.Mode.{S_IFREG}
use Rattle.fuse_wire.specs.Field.{zeros}
use Rattle.fuse_wire.specs.Request.{nodeid}
use Rattle.fuse_wire.specs.RequestBody.{made_body, batch_body, body, IsBody, IsMode, IsMadeBody, IsBatchBody}
use Rattle.fuse_wire.specs.RequestReading.{request_of}
use Rattle.fuse_wire.specs.RequestText.{IsRequestText, request_text, FitsAsk}
use Rattle.fuse_wire.proofs.Lengths.{length-zeros}
use Rattle.fuse_wire.proofs.Ranges.{range_is_body}
use Rattle.fuse_wire.proofs.RequestKinds.{own_nodeid}
use Rattle.fuse_wire.proofs.Requests.{request_again}

pub made_is_body : (offset mode rest : ℕ) (name : List ℕ) (perm : Perm) → IsMode perm mode → IsNameText name → IsMadeBody offset rest name perm (made_body offset mode rest name)
made_is_body offset mode rest name perm is_mode is = record {
  before = zeros offset;
  mode = mode;
  behind = zeros rest;
  len_before = length-zeros offset;
  is_mode = is_mode;
  len_behind = length-zeros rest;
  is_name = is;
  parts = refl;
}

-- the permissions of a mode with the type bits of a file, and of one without
pub file_mode : (perm : Perm) → IsMode perm (S_IFREG + perm.bits)
file_mode perm = record { in_range = omega (arith, perm.in_range); low = omega (arith, perm.in_range) }

pub bare_mode : (perm : Perm) → IsMode perm perm.bits
bare_mode perm = record { in_range = omega (arith, perm.in_range); low = omega (arith, perm.in_range) }

pub batch_is_body : (items : List Item) → length items ≤ 256 → IsBatchBody items (batch_body items)
batch_is_body items le = record { others = zeros 4; four = length-zeros 4; at_most = le; parts = refl }

pub ruleset own_bodies = (made_is_body, file_mode, bare_mode, range_is_body, batch_is_body, length-zeros)

pub own_text : (ask : Ask) → length (body ask.what) ≤ 4104 → IsBody ask.what (body ask.what) → IsRequestText ask (request_text ask)
own_text ask short is = record {
  node = nodeid ask.what;
  others = zeros 16;
  rest = body ask.what;
  is_nodeid = own_nodeid ask.what;
  sixteen = length-zeros 16;
  len_fits = omega arith;
  is_body = is;
  parts = refl;
}

pub own_text_again : (ask : Ask) → FitsAsk ask → length (body ask.what) ≤ 4104 → IsBody ask.what (body ask.what) → request_of (request_text ask) ≡ Ok ask
own_text_again ask fits short is = request_again ask (request_text ask) fits (own_text ask short is)
