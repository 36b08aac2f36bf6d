-- A neighbour's share of the record: 4 heads of 24 bytes, then 4 tables of 128 entries of 4 bytes; and the pieces in its share of the room. `rec` and `room` are these shares.
use Rattle.std.specs.Prelude.{Bool, List, [], ◌∷◌, ◌++◌, ℕ, ◌+◌, ◌*◌, ltb, get_or, replicate}
use Rattle.wire.specs.Parts.{part, splice}
use Rattle.wire.specs.Numbers.{little_at, little_bytes}
use Rattle.reassembly.specs.Sizes.{slot_size, head_size, tables_at, entry_size, table_size}
use Rattle.reassembly.specs.declared.Head.{Head}
use Rattle.reassembly.specs.declared.Entry.{Entry}

-- the head that 24 bytes are
unfoldable pub head_of : List ℕ → Head
head_of l =
    record { id = little_at 4 l 0; opened = little_at 8 l 4; expires = little_at 4 l 12; total = little_at 2 l 16; count = get_or l 18 0; last = get_or l 19 0; top = get_or l 20 0; kind = get_or l 21 0 }

-- the bytes of a head
unfoldable pub head_bytes : Head → List ℕ
head_bytes h =
    little_bytes 4 h.id ++ little_bytes 8 h.opened ++ little_bytes 4 h.expires ++ little_bytes 2 h.total
    ++ (h.count ∷ h.last ∷ h.top ∷ h.kind ∷ 0 ∷ 0 ∷ [])

-- the entry that 4 bytes are
unfoldable pub entry_of : List ℕ → Entry
entry_of l = record { place = little_at 2 l 0; len = little_at 2 l 2 }

-- the bytes of an entry
unfoldable pub entry_bytes : Entry → List ℕ
entry_bytes e = little_bytes 2 e.place ++ little_bytes 2 e.len

-- slot i's head
unfoldable pub head_at : List ℕ → ℕ → Head
head_at rec i = head_of (part rec (i * head_size) head_size)

-- the record with another head for slot i
unfoldable pub with_head : List ℕ → ℕ → Head → List ℕ
with_head rec i h = splice rec (i * head_size) (head_bytes h)

-- where the entry of number k in slot i stands
abbrev pub entry_place : ℕ → ℕ → ℕ
entry_place i k = tables_at + i * table_size + k * entry_size

-- the entry of number k in slot i
unfoldable pub entry_at : List ℕ → ℕ → ℕ → Entry
entry_at rec i k = entry_of (part rec (entry_place i k) entry_size)

-- the record with another entry there
unfoldable pub with_entry : List ℕ → ℕ → ℕ → Entry → List ℕ
with_entry rec i k e = splice rec (entry_place i k) (entry_bytes e)

-- the record with no number of slot i held
unfoldable pub cleared : List ℕ → ℕ → List ℕ
cleared rec i = splice rec (tables_at + i * table_size) (replicate table_size 0)

-- an entry names bytes outside its slot's own part of the room: so 01's "outside it" is read, since bytes of another slot are none of this message's
unfoldable pub outside : Entry → Bool
outside e = ltb slot_size (e.place + e.len)

-- slot i's own room
unfoldable pub room_of : List ℕ → ℕ → List ℕ
room_of room i = part room (i * slot_size) slot_size

-- the bytes that the entry of number k names in it
unfoldable pub piece_at : List ℕ → List ℕ → ℕ → ℕ → List ℕ
piece_at rec room i k = part (room_of room i) (entry_at rec i k).place (entry_at rec i k).len
