-- An address leads back to the index that it was made of.
use Rattle.std.proofs.Common.{◌≡◌, ℕ, ◌+◌, ◌-◌, ◌*◌, ◌/◌, ◌<◌, ◌≤◌, sym, ap, ◌∙◌, subst, arith}
use Rattle.std.proofs.Math.Nat.{mul-div_cancel}
use denote.RawPtr.{Ptr, InBlock, block_ptr, null_ptr}
use Rattle.node_arena.specs.Addresses.{address_of, index_of, IsAmong}

back_off : (m o : ℕ) → m + o - o ≡ m
back_off m o = omega arith

pub index_of-address_of : (start : Ptr) (bytes i : ℕ) → InBlock start → 1 ≤ bytes → index_of start bytes (address_of start bytes i) ≡ i
index_of-address_of (block_ptr b o) bytes i there pos = ap (λ (n : ℕ). n / bytes) (back_off (i * bytes) o) ∙ mul-div_cancel i pos
index_of-address_of null_ptr bytes i there pos = absurd there

-- the address that was made of an index leads to that one
pub leads : (start : Ptr) (bytes len i : ℕ) (to : Ptr) → InBlock start → 1 ≤ bytes → to ≡ address_of start bytes i → i < len
    → IsAmong start bytes len to × (index_of start bytes to ≡ i)
leads start bytes len i to there pos is within =
    let back : index_of start bytes to ≡ i = ap (index_of start bytes) is ∙ index_of-address_of start bytes i there pos in
    ((subst (λ (k : ℕ). k < len) (sym back) within, is ∙ ap (address_of start bytes) (sym back)), back)
