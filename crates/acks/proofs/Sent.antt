-- A report that is sent: its Ack block is written, and read back it is the report. Assumes nothing.
use Rattle.std.specs.Prelude.{Ok, Err}
use mathlib.Core.Path.{◌≡◌, refl}
use mathlib.Core.Bool.{Bool, true, false, cond}
use mathlib.Core.List.{List}
use Prim.Native.Nat.{ℕ, ◌+◌, ◌%◌, ◌^◌, ◌≤◌, ◌<◌}
use native.Mathlib.Omega.{arith}
use lib.Dec.{eqb}
use lib.ListN.{length}
use borrow.Author.Tests.{eq-eqb, eqb-true}
use Rattle.wire.specs.Parts.{part}
use Rattle.blocks.specs.Layout.{fits}
use Rattle.blocks.specs.Table.{widths}
use Rattle.blocks.specs.Names.{ack_fields}
use Rattle.blocks.specs.Reading.{bytes_at, block_read, read_at}
use Rattle.blocks.specs.Writing.{writing, room_after}
use Rattle.blocks.proofs.Named.{ack_fits, ack_written, ack_read}
use Rattle.acks.specs.Reporting.{Report, pair_bytes}
use Rattle.acks.specs.AckBlocks.{ack_fields_of, ack_writing, ack_room}

-- numbers of four bytes and of one fit an Ack block
pub ack_fields_fit : (r : Report) → r.through < 256 ^ 4 → r.count < 256 → fits (widths 12) (ack_fields_of r) ≡ true
unfolding ack_fields_of
ack_fields_fit r h g = ack_fits r.through r.count h g

-- a report whose numbers fit an Ack block, of whole pairs, at most 127, and a room for its block
module _ (r : Report) (room : List ℕ) (zero : r.number ≡ 0) (fit : fits (widths 12) (ack_fields_of r) ≡ true) (even : length (pair_bytes r) % 2 ≡ 0) (few : length (pair_bytes r) ≤ 254)
    (big : 8 + length (pair_bytes r) ≤ length room) where
  wrote : writing 12 (ack_fields_of r) (pair_bytes r) (length room) ≡ Ok (8 + length (pair_bytes r))
  unfolding ack_fields_of
  wrote = ack_written r.through r.count (pair_bytes r) room fit even few big

  pub is_written : ack_writing r (length room) ≡ Ok (8 + length (pair_bytes r))
  unfolding ack_writing
  is_written = rw (eq-eqb r.number 0 zero) wrote

  pub is_read :
      (read_at (ack_room r room) 0 ≡ block_read 12 (5 + length (pair_bytes r)) (8 + length (pair_bytes r)) (ack_fields r.through r.count) (bytes_at 8 (length (pair_bytes r))))
      × (part (ack_room r room) 8 (length (pair_bytes r)) ≡ pair_bytes r)
  unfolding ack_room ack_fields_of
  is_read = rw (eq-eqb r.number 0 zero) (ack_read r.through r.count (pair_bytes r) room (8 + length (pair_bytes r)) wrote)

-- an Ack block that was written, read where it stands: the report's own numbers and pairs
pub written_is_read :
    (r : Report) (room : List ℕ) (n : ℕ) → ack_writing r (length room) ≡ Ok n
    → (r.number ≡ 0)
    × (read_at (ack_room r room) 0 ≡ block_read 12 (5 + length (pair_bytes r)) n (ack_fields r.through r.count) (bytes_at 8 (length (pair_bytes r))))
    × (part (ack_room r room) 8 (length (pair_bytes r)) ≡ pair_bytes r)
unfolding ack_writing ack_room ack_fields_of
written_is_read r room n = go (eqb r.number 0) refl
  where
    go :
        (b : Bool) → eqb r.number 0 ≡ b → cond b (writing 12 (ack_fields r.through r.count) (pair_bytes r) (length room)) (Err r.number) ≡ Ok n
        → (r.number ≡ 0)
        × (read_at (cond b (room_after 12 (ack_fields r.through r.count) (pair_bytes r) room) room) 0
        ≡ block_read 12 (5 + length (pair_bytes r)) n (ack_fields r.through r.count) (bytes_at 8 (length (pair_bytes r))))
        × (part (cond b (room_after 12 (ack_fields r.through r.count) (pair_bytes r) room) room) 8 (length (pair_bytes r)) ≡ pair_bytes r)
    go true e w = let z = ack_read r.through r.count (pair_bytes r) room n w in (eqb-true r.number 0 e, z.0, z.1)
    go false e w = let o : ◌≡◌ {A = ℕ} 0 1 = cc in absurd (omega arith)
