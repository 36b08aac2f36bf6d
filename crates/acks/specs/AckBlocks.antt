-- A report as an Ack block.
use Rattle.std.specs.Prelude.{cond, List, ℕ, eqb, Result, Err}
use Rattle.blocks.specs.Names.{ack_fields}
use Rattle.blocks.specs.Writing.{writing, room_after}
use Rattle.acks.specs.Reporting.{Report, pair_bytes}

-- its fields; the pairs are the bytes after them
unfoldable pub ack_fields_of : Report → List ℕ
ack_fields_of r = ack_fields r.through r.count

-- what writing it answers: a refused report its number, else what the block writer does
unfoldable pub ack_writing : Report → ℕ → Result ℕ ℕ
ack_writing r room = cond (eqb r.number 0) (writing 12 (ack_fields_of r) (pair_bytes r) room) (Err r.number)

-- and the room afterwards
unfoldable pub ack_room : Report → List ℕ → List ℕ
ack_room r room = cond (eqb r.number 0) (room_after 12 (ack_fields_of r) (pair_bytes r) room) room
