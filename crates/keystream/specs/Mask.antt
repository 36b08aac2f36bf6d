-- A range of a buffer XORed with a keystream.
use Rattle.std.specs.Prelude.{ℕ, ◌+◌, List, [], ◌∷◌, ◌++◌, take, drop, bit_xor}
use Rattle.wire.specs.Parts.{part}

-- each byte XORed with the stream's byte at its place; bytes past the stream's end stay
unfoldable pub xor_with : List ℕ → List ℕ → List ℕ
xor_with [] k = []
xor_with (a ∷ l) [] = a ∷ l
xor_with (a ∷ l) (b ∷ k) = bit_xor a b ∷ xor_with l k

-- the bytes before a place, the n bytes from it on XORed with the stream's first n, the bytes after them
unfoldable pub masked : List ℕ → ℕ → ℕ → List ℕ → List ℕ
masked l from n k = take from l ++ (xor_with (part l from n) k ++ drop (from + n) l)
