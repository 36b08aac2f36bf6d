-- The fields of a type by their names, among a block's eight numbers.
use Rattle.std.specs.Prelude.{Bool, cond, List, [], ◌∷◌, ℕ, ◌+◌, ◌*◌, ◌/◌, ◌%◌, eqb, get_or}
use Rattle.blocks.specs.Layout.{eight}

-- I2NP and FirstFragment: type, id, expiration
abbrev pub message_fields : ℕ → ℕ → ℕ → List ℕ
message_fields kind id expiration = eight (kind ∷ id ∷ expiration ∷ [])

-- a message's type
abbrev pub message_type : List ℕ → ℕ
message_type f = get_or f 0 0

-- its id
abbrev pub message_id : List ℕ → ℕ
message_id f = get_or f 1 0

-- its expiration
abbrev pub message_expiration : List ℕ → ℕ
message_expiration f = get_or f 2 0

-- a follow-on's first byte: number * 2 + last
abbrev pub follow_on_byte : ℕ → Bool → ℕ
follow_on_byte number final = number * 2 + cond final 1 0

-- FollowOnFragment: that byte, id
abbrev pub follow_on_fields : ℕ → Bool → ℕ → List ℕ
follow_on_fields number final id = eight (follow_on_byte number final ∷ id ∷ [])

-- a fragment's number
abbrev pub follow_on_number : List ℕ → ℕ
follow_on_number f = get_or f 0 0 / 2

-- whether it is the last
abbrev pub follow_on_last : List ℕ → Bool
follow_on_last f = eqb (get_or f 0 0 % 2) 1

-- its message's id
abbrev pub follow_on_id : List ℕ → ℕ
follow_on_id f = get_or f 1 0

-- Ack: through, count
abbrev pub ack_fields : ℕ → ℕ → List ℕ
ack_fields through count = eight (through ∷ count ∷ [])
