-- Fields of any widths, one after the other: the numbers that stand there, their bytes, and whether each fits its place. Nothing of a block's type is known here.
use Rattle.std.specs.Prelude.{Bool, true, false, ◌&&◌, List, [], ◌∷◌, ◌++◌, ℕ, ◌+◌, ◌-◌, ◌^◌, ltb, length, replicate}
use Rattle.wire.specs.Numbers.{big_at, big_bytes}

-- the bytes that fields of these widths take
unfoldable pub sum : List ℕ → ℕ
sum [] = 0
sum (w ∷ ws) = w + sum ws

-- the numbers in the fields from a place on
unfoldable pub fields_at : List ℕ → List ℕ → ℕ → List ℕ
fields_at [] s o = []
fields_at (w ∷ ws) s o = big_at w s o ∷ fields_at ws s (o + w)

-- the bytes of a number for each field
unfoldable pub field_bytes : List ℕ → List ℕ → List ℕ
field_bytes [] vs = []
field_bytes (w ∷ ws) [] = []
field_bytes (w ∷ ws) (v ∷ vs) = big_bytes w v ++ field_bytes ws vs

-- there is a number for each field, and it fits the field's bytes; numbers beyond the fields are not looked at
unfoldable pub fits : List ℕ → List ℕ → Bool
fits [] vs = true
fits (w ∷ ws) [] = false
fits (w ∷ ws) (v ∷ vs) = ltb v (256 ^ w) && fits ws vs

-- as eight numbers, 0 after the last one
unfoldable pub eight : List ℕ → List ℕ
eight vs = vs ++ replicate (8 - length vs) 0
