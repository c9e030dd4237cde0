-- Where the values of a `Vec` lie, and to which of them an address leads.
use Rattle.std.specs.Prelude.{◌≡◌, ℕ, ◌+◌, ◌-◌, ◌*◌, ◌/◌, ◌<◌}
use Rattle.std.specs.Vec.{vec_ptr, vec_len}
use Rattle.std_alloc.specs.declared.vec.Vec.{Vec}
use denote.RawPtr.{Ptr, block_ptr, null_ptr}

-- the address of the value at an index: each value takes this count of bytes, and the first is at `start`
abbrev pub address_of : (start : Ptr) (bytes index : ℕ) → Ptr
address_of (block_ptr b o) bytes index = block_ptr b (index * bytes + o)
address_of null_ptr bytes index = null_ptr

-- the index of the value at an address: how many such values lie before it
abbrev pub index_of : (start : Ptr) (bytes : ℕ) (to : Ptr) → ℕ
index_of (block_ptr b o) bytes (block_ptr c p) = (p - o) / bytes
index_of (block_ptr b o) bytes null_ptr = 0
index_of null_ptr bytes to = 0

-- the address is that of one of `len` such values
abbrev pub IsAmong : (start : Ptr) (bytes len : ℕ) (to : Ptr) → Type 0
IsAmong start bytes len to = (index_of start bytes to < len) × (to ≡ address_of start bytes (index_of start bytes to))

-- the address is that of a value in the `Vec`, in which each value takes this count of bytes
abbrev pub LeadsIn : {N A : Type 0} → Vec N A → (bytes : ℕ) (to : Ptr) → Type 0
LeadsIn v bytes to = IsAmong (vec_ptr v) bytes (vec_len v) to
