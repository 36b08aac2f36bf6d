-- Writing one block, by its row: its bytes, and what is refused.
use Rattle.std.specs.Prelude.{Bool, true, cond, ◌&&◌, List, [], ◌∷◌, ◌++◌, ℕ, ◌+◌, ltb, length, get_or, Result, Ok, Err}
use Rattle.wire.specs.Numbers.{big_bytes}
use Rattle.wire.specs.Parts.{splice}
use Rattle.blocks.specs.Layout.{field_bytes, fits}
use Rattle.blocks.specs.Table.{widths, after_fields, typed, field_length, carries, allowed}
use Rattle.blocks.specs.Extent.{is_i2np_type}

-- the bytes after the fields: those lent, if any follow
unfoldable pub carried_bytes : ℕ → List ℕ → List ℕ
carried_bytes kind body = cond (carries (after_fields kind)) body []

-- the size that the writer puts
unfoldable pub size_of : ℕ → List ℕ → ℕ
size_of kind body = field_length kind + length (carried_bytes kind body)

-- a block's bytes: type, size, fields, and the bytes that are lent
unfoldable pub block_bytes : ℕ → List ℕ → List ℕ → List ℕ
block_bytes kind fields body = (kind ∷ []) ++ big_bytes 2 (size_of kind body) ++ field_bytes (widths kind) fields ++ carried_bytes kind body

-- no field is wider than its place, so many bytes may follow, and a message's type is a listed one; else 32
unfoldable pub is_proper : ℕ → List ℕ → ℕ → Bool
is_proper kind fields n = fits (widths kind) fields && (allowed (after_fields kind) n && cond (typed kind) (is_i2np_type (get_or fields 0 0)) true)

-- 32, then 31, then 30; else the block's length
unfoldable pub writing : ℕ → List ℕ → List ℕ → ℕ → Result ℕ ℕ
writing kind fields body room =
    cond (is_proper kind fields (length body))
    (cond (ltb 65535 (size_of kind body)) (Err 31)
    (cond (ltb room (3 + size_of kind body)) (Err 30)
    (Ok (3 + size_of kind body))))
    (Err 32)

-- the room afterwards: the block stands at its start, or nothing changed
abbrev pub stored : Result ℕ ℕ → ℕ → List ℕ → List ℕ → List ℕ → List ℕ
stored (Ok n) kind fields body room = splice room 0 (block_bytes kind fields body)
stored (Err m) kind fields body room = room

-- what a room holds after a block was written to it, or refused
unfoldable pub room_after : ℕ → List ℕ → List ℕ → List ℕ → List ℕ
room_after kind fields body room = stored (writing kind fields body (length room)) kind fields body room
