-- Blocks as the C calls pass them: type, size field, start and length of the bytes, then eight numbers. They are the fields, but a follow-on's first byte is two numbers: its number and the mark of the last.
use Rattle.std.specs.Prelude.{cond, not, List, [], ◌∷◌, ℕ, min, eqb, get_or, Result}
use Rattle.blocks.specs.declared.Part.{Part}
use Rattle.blocks.specs.Outcomes.{Extent}
use Rattle.blocks.specs.Outcomes as End
use Rattle.blocks.specs.Outcomes.{Read}
use Rattle.blocks.specs.Layout.{eight}
use Rattle.blocks.specs.Names.{follow_on_fields, follow_on_number, follow_on_last, follow_on_id}
use Rattle.blocks.specs.Writing.{writing, room_after}

-- a block's fields as they are passed
unfoldable pub as_numbers : ℕ → List ℕ → List ℕ
as_numbers kind f = cond (eqb kind 5) (eight (follow_on_number f ∷ cond (follow_on_last f) 1 0 ∷ follow_on_id f ∷ [])) f

-- the fields of the eight numbers that are passed; a follow-on's number above 127 is taken as 128, which has no byte, and of its mark counts whether it is 0
unfoldable pub as_fields : ℕ → List ℕ → List ℕ
as_fields kind v = cond (eqb kind 5) (follow_on_fields (min (get_or v 0 0) 128) (not (eqb (get_or v 1 0) 0)) (get_or v 2 0)) v

-- the twelve numbers that were lent, after a block was read; refused, they stay
abbrev pub block_numbers : Extent → List ℕ → Part → List ℕ → List ℕ
block_numbers (End.Ends kind size next) fields bytes out = kind ∷ size ∷ bytes.start ∷ bytes.len ∷ as_numbers kind fields
block_numbers (End.Refused number place) fields bytes out = out

-- the same of a reading
abbrev pub read_numbers : Read → List ℕ → List ℕ
read_numbers r out = block_numbers r.extent r.fields r.bytes out

-- what writing a block by its numbers answers
unfoldable pub writing_by : ℕ → List ℕ → List ℕ → ℕ → Result ℕ ℕ
writing_by kind v bytes room = writing kind (as_fields kind v) bytes room

-- and the room afterwards
unfoldable pub room_by : ℕ → List ℕ → List ℕ → List ℕ → List ℕ
room_by kind v bytes room = room_after kind (as_fields kind v) bytes room
