-- What a field is read as: bytes, as two hex digits each, or a number, as decimal digits.
use Rattle.std.specs.Prelude.{Bool, true, cond, Option, Some, None, ◌&&◌, List, [], ◌∷◌, ℕ, ◌+◌, ◌-◌, ◌*◌, ◌^◌, ltb, leb, eqb, length}
use Rattle.wire.specs.Parts.{splice}

-- a byte is one of those from low to high
abbrev pub between : ℕ → ℕ → ℕ → Bool
between low high b = leb low b && leb b high

-- the value of a digit, 0 to 9 (bytes 48 to 57) or a to f (97 to 102); 16 where a byte is none
unfoldable pub digit_of : ℕ → ℕ
digit_of b = cond (between 48 57 b) (b - 48) (cond (between 97 102 b) (b - 87) 16)

-- the byte of two hex digits, the high one first; 256 where one of them is none
unfoldable pub pair_of : ℕ → ℕ → ℕ
pair_of high low = cond (ltb (digit_of high) 16 && ltb (digit_of low) 16) (digit_of high * 16 + digit_of low) 256

-- the byte of each two digits of a field, one after the other; 256 too for a digit that is left over
unfoldable pub pairs_of : List ℕ → List ℕ
pairs_of [] = []
pairs_of (high ∷ []) = 256 ∷ []
pairs_of (high ∷ low ∷ rest) = pair_of high low ∷ pairs_of rest

-- all of them are bytes
unfoldable pub all_bytes : List ℕ → Bool
all_bytes [] = true
all_bytes (x ∷ xs) = ltb x 256 && all_bytes xs

-- a field is read as bytes: each two digits are a byte, and there is room for all
unfoldable pub is_bytes : List ℕ → ℕ → Bool
is_bytes field room = all_bytes (pairs_of field) && leb (length (pairs_of field)) room

-- how many bytes a field is, read into a buffer with so much room
unfoldable pub bytes_in : List ℕ → ℕ → Option ℕ
bytes_in field room = cond (is_bytes field room) (Some (length (pairs_of field))) None

-- the buffer with a field's bytes at its start; as it was where the field is refused
unfoldable pub with_bytes : List ℕ → List ℕ → List ℕ
with_bytes field out = cond (is_bytes field (length out)) (splice out 0 (pairs_of field)) out

-- every byte is a decimal digit
unfoldable pub decimals : List ℕ → Bool
decimals [] = true
decimals (b ∷ bs) = ltb (digit_of b) 10 && decimals bs

-- the number that digits are after those of x
unfoldable pub value_from : ℕ → List ℕ → ℕ
value_from x [] = x
value_from x (b ∷ bs) = value_from (x * 10 + digit_of b) bs

-- that number, where all are decimal digits and it is below 2 ^ 64
unfoldable pub number_from : ℕ → List ℕ → Option ℕ
number_from x l = cond (decimals l && ltb (value_from x l) (2 ^ 64)) (Some (value_from x l)) None

-- the number that a field is; an empty one is none
unfoldable pub decimal_of : List ℕ → Option ℕ
decimal_of l = cond (eqb (length l) 0) None (number_from 0 l)
