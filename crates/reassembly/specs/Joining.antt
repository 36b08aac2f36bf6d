-- The message that a slot's pieces and one more make, read off record and room.
use Rattle.std.specs.Prelude.{Bool, false, cond, ◌||◌, List, [], ◌++◌, ℕ, zero, suc, ◌+◌, eqb}
use Rattle.reassembly.specs.Record.{entry_at, outside, piece_at}

-- the bytes of number k of slot i; those of number m are v, the piece that the call brings
unfoldable pub piece_or : List ℕ → List ℕ → ℕ → ℕ → List ℕ → ℕ → List ℕ
piece_or rec room i m v k = cond (eqb k m) v (piece_at rec room i k)

-- the numbers below n, one after the other
abbrev pub joined_below : (ℕ → List ℕ) → ℕ → List ℕ
joined_below f zero = []
joined_below f (suc n) = joined_below f n ++ f n

-- the message of the numbers below n of slot i, where number m is v
unfoldable pub message_of : List ℕ → List ℕ → ℕ → ℕ → List ℕ → ℕ → List ℕ
message_of rec room i m v n = joined_below (piece_or rec room i m v) n

-- the entry of number k of slot i names bytes outside; number m is the piece that the call brings, so its entry is not asked
unfoldable pub outside_or : List ℕ → ℕ → ℕ → ℕ → Bool
outside_or rec i m k = cond (eqb k m) false (outside (entry_at rec i k))

-- some of the numbers below n
abbrev pub some_of : (ℕ → Bool) → ℕ → Bool
some_of p zero = false
some_of p (suc n) = some_of p n || p n

-- the record names bytes outside for a piece that the message of the numbers below n joins
unfoldable pub joins_outside : List ℕ → ℕ → ℕ → ℕ → Bool
joins_outside rec i m n = some_of (outside_or rec i m) n

-- (From here on: how the code finds the length before it joins.) The length of number k of slot i by its entry, where number m has n bytes
unfoldable pub length_or : List ℕ → ℕ → ℕ → ℕ → ℕ → ℕ
length_or rec i m n k = cond (eqb k m) n (entry_at rec i k).len

-- the numbers below n, added up
abbrev pub sum_of : (ℕ → ℕ) → ℕ → ℕ
sum_of f zero = 0
sum_of f (suc n) = sum_of f n + f n
