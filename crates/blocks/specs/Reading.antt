-- Reading one block, by its row: its fields as numbers, its bytes as a part of the payload.
use Rattle.std.specs.Prelude.{cond, List, [], ℕ, ◌+◌, ◌-◌, Result, Ok, Err}
use Rattle.refusals.specs.Numbers.{number}
use Rattle.blocks.specs.declared.Part.{Part}
use Rattle.blocks.specs.Outcomes.{Extent}
use Rattle.blocks.specs.Outcomes as End
use Rattle.blocks.specs.Outcomes.{Read}
use Rattle.blocks.specs.declared.Block.{Block}
use Rattle.blocks.specs.declared.RefusedAt.{RefusedAt}
use Rattle.blocks.specs.Layout.{fields_at, eight}
use Rattle.blocks.specs.Table.{widths, after_fields, field_length, carries}
use Rattle.blocks.specs.Extent.{extent_at}

-- so many bytes from a place on
abbrev pub bytes_at : ℕ → ℕ → Part
bytes_at o n = record { start = o; len = n }

-- what reading a block gives: its type, its size field and the place after it; its fields; its bytes
abbrev pub block_read : ℕ → ℕ → ℕ → List ℕ → Part → Read
block_read kind size next fields bytes = record { extent = End.Ends kind size next; fields = fields; bytes = bytes }

-- or a refusal, at the block's type byte
abbrev pub read_refused : ℕ → ℕ → Read
read_refused number place = record { extent = End.Refused number place; fields = eight []; bytes = bytes_at 0 0 }

-- what the code answers of a block
abbrev pub read_as : Result Block RefusedAt → Read
read_as (Ok b) = block_read b.kind b.size b.next b.fields b.bytes
read_as (Err r) = read_refused (number r.refusal) r.place

-- of a body of n bytes at a place, those after its fields; none where none follow
unfoldable pub bytes_after : ℕ → ℕ → ℕ → Part
bytes_after kind o n = cond (carries (after_fields kind)) (bytes_at (o + field_length kind) (n - field_length kind)) (bytes_at 0 0)

-- a block that has an end is read; a refusal stays the refusal
abbrev pub reading : List ℕ → ℕ → Extent → Read
reading s at (End.Ends kind size next) = block_read kind size next (eight (fields_at (widths kind) s (at + 3))) (bytes_after kind (at + 3) (next - (at + 3)))
reading s at (End.Refused number place) = read_refused number place

-- the block at a place, or the refusal
unfoldable pub read_at : List ℕ → ℕ → Read
read_at s at = reading s at (extent_at s at)
