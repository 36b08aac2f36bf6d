-- What is shown of reading and writing together, for every type at once.
use Rattle.std.specs.Prelude.{◌≡◌, cond, List, [], ◌∷◌, ℕ, ◌+◌, ◌-◌, ◌≤◌, ◌<◌, eqb, length, get_or, take, Ok}
use Rattle.wire.specs.Parts.{part, splice}
use Rattle.wire.specs.Numbers.{Bytes}
use Rattle.blocks.specs.Outcomes as End
use Rattle.blocks.specs.Outcomes.{Read}
use Rattle.blocks.specs.Layout.{eight}
use Rattle.blocks.specs.Table.{widths, field_length}
use Rattle.blocks.specs.Reading.{bytes_after, block_read, read_at}
use Rattle.blocks.specs.Writing.{carried_bytes, size_of, writing, room_after}
use Rattle.blocks.specs.Numbers.{as_numbers, read_numbers, writing_by, room_by}

-- of eight numbers those of a type's fields, 0 for the others
unfoldable pub own_fields : ℕ → List ℕ → List ℕ
own_fields kind fields = eight (take (length (widths kind)) fields)

-- a block that the writer takes, read where it was written: its type, the size that was put, its fields; its bytes are those lent
abbrev pub WriteThenRead : Type 0
WriteThenRead =
    (kind : ℕ) (fields body room : List ℕ) (n : ℕ)
    → kind < 256
    → writing kind fields body (length room) ≡ Ok n
    → (read_at (room_after kind fields body room) 0 ≡ block_read kind (size_of kind body) n (own_fields kind fields) (bytes_after kind 3 (size_of kind body)))
    × (part (room_after kind fields body room) (3 + field_length kind) (length (carried_bytes kind body)) ≡ carried_bytes kind body)

-- the bytes of a payload that a block shows
abbrev pub shown_bytes : List ℕ → Read → List ℕ
shown_bytes s r = part s r.bytes.start r.bytes.len

-- a block that was read, written with its fields and the bytes that it shows, is the same bytes again, where its size is what the writer puts
abbrev pub ReadThenWrite : Type 0
ReadThenWrite =
    (s room : List ℕ) (at kind size next : ℕ)
    → Bytes s
    → (read_at s at).extent ≡ End.Ends kind size next
    → size ≡ size_of kind (shown_bytes s (read_at s at))
    → next - at ≤ length room
    → (writing kind (read_at s at).fields (shown_bytes s (read_at s at)) (length room) ≡ Ok (next - at))
    × (room_after kind (read_at s at).fields (shown_bytes s (read_at s at)) room ≡ splice room 0 (part s at (next - at)))

-- eight numbers as reading gives them: 0 for what a type does not have, and 1 for a mark that is set
unfoldable pub numbers_back : ℕ → List ℕ → List ℕ
numbers_back kind v = cond (eqb kind 5) (eight (get_or v 0 0 ∷ cond (eqb (get_or v 1 0) 0) 0 1 ∷ get_or v 2 0 ∷ [])) (own_fields kind v)

-- a block that is written by numbers is read by the same numbers
abbrev pub NumbersBack : Type 0
NumbersBack =
    (kind : ℕ) (v body room out : List ℕ) (n : ℕ)
    → kind < 256
    → writing_by kind v body (length room) ≡ Ok n
    → read_numbers (read_at (room_by kind v body room) 0) out
    ≡ kind ∷ size_of kind body ∷ (bytes_after kind 3 (size_of kind body)).start ∷ (bytes_after kind 3 (size_of kind body)).len ∷ numbers_back kind v

-- and the numbers of a block that was read are written as its fields are
abbrev pub NumbersAgain : Type 0
NumbersAgain =
    (s body room : List ℕ) (at kind size next : ℕ)
    → Bytes s
    → (read_at s at).extent ≡ End.Ends kind size next
    → (writing_by kind (as_numbers kind (read_at s at).fields) body (length room) ≡ writing kind (read_at s at).fields body (length room))
    × (room_by kind (as_numbers kind (read_at s at).fields) body room ≡ room_after kind (read_at s at).fields body room)
