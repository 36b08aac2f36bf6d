-- Numbers in bytes, the low byte first (little) or the high byte first (big), for every width.
use Rattle.std.specs.Prelude.{List, [], ◌∷◌, reverse, ℕ, zero, suc, ◌+◌, ◌*◌, ◌/◌, ◌%◌, ◌<◌, get_or}
use Rattle.wire.specs.Parts.{part}

-- a list of bytes: each element is below 256
abbrev pub Bytes : List ℕ → Type 0
Bytes l = (i : ℕ) → get_or l i 0 < 256

-- the number that some bytes are, the low byte first
unfoldable pub little : List ℕ → ℕ
little [] = 0
little (b ∷ bs) = b + little bs * 256

-- the number that some bytes are, the high byte first
unfoldable pub big : List ℕ → ℕ
big bs = little (reverse bs)

-- the n low bytes of x, the low byte first
unfoldable pub little_bytes : ℕ → ℕ → List ℕ
little_bytes zero x = []
little_bytes (suc n) x = x % 256 ∷ little_bytes n (x / 256)

-- the n low bytes of x, the high byte first
unfoldable pub big_bytes : ℕ → ℕ → List ℕ
big_bytes n x = reverse (little_bytes n x)

-- the number of n bytes at place o of l, the low byte first
unfoldable pub little_at : ℕ → List ℕ → ℕ → ℕ
little_at n l o = little (part l o n)

-- the number of n bytes at place o of l, the high byte first
unfoldable pub big_at : ℕ → List ℕ → ℕ → ℕ
big_at n l o = big (part l o n)
