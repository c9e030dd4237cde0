-- The inode numbers that a daemon's entries of a directory tell are those of the world.
use Rattle.std.proofs.Common.{◌≡◌, ℕ, inl, inr, ◌⊎◌, arith}
use Rattle.eden_base.specs.declared.number.FileId.{FileId}
use Rattle.eden_base.proofs.NumberTests.{eq-or}
use Rattle.entry_table.specs.Entries.{count_of}
use Rattle.inode_map.specs.InodeMap.{MapState}
use Rattle.fuse_ops.specs.Gifts.{served_over}
use Rattle.fuse_ops.specs.Served.{IsLive as IsLiveThere, IsInode as IsInodeThere}
use Rattle.world.specs.World.{World, IsInode, IsLive, owed}
use Rattle.world.specs.Agreement.{Knows}
use Rattle.world.proofs.Knowing.{number-names}

module _ (w : World) (m : MapState) (k : Knows w.tree w.names (owed w) (served_over w.tree m)) where
  -- a number is live for the daemon exactly if it is in the world
  live-known : (n : ℕ) → IsLiveThere (served_over w.tree m) n → IsLive w n
  live-known n (inl one) = inl one
  live-known n (inr some) = in_ (eq-or n 1) where
    in_ : (n ≡ 1) ⊎ (n ≡ 1 → ⊥) → IsLive w n
    in_ (inl one) = inl one
    in_ (inr other) = let c : count_of m.entries n ≡ owed w n = k.counts n other in inr (omega arith)

  live-there : (n : ℕ) → IsLive w n → IsLiveThere (served_over w.tree m) n
  live-there n (inl one) = inl one
  live-there n (inr some) = in_ (eq-or n 1) where
    in_ : (n ≡ 1) ⊎ (n ≡ 1 → ⊥) → IsLiveThere (served_over w.tree m) n
    in_ (inl one) = inl one
    in_ (inr other) = let c : count_of m.entries n ≡ owed w n = k.counts n other in inr (omega arith)

  pub inode-known : (file : FileId) (n : ℕ) → IsInodeThere (served_over w.tree m) file n → IsInode w file n
  inode-known file n (inl (live, names)) = inl (record { live = live-known n live; named = k.files n file names })
  inode-known file n (inr (unknown, none)) = inr (unknown, λ j is. none j (live-there j is.live) (number-names w w.tree m k j file is))
