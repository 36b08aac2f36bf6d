-- The ChaCha20 block of RFC 8439, section by section. A word is a number below 2 ^ 32, a state a list of 16 words.
use Rattle.std.specs.Prelude.{ℕ, zero, suc, ◌+◌, ◌-◌, ◌*◌, ◌/◌, ◌%◌, ◌^◌, List, [], ◌∷◌, ◌++◌, bit_xor, slice_index, slice_set}
use Rattle.wire.specs.Numbers.{little_at, little_bytes}
use Rattle.keystream.specs.declared.rounds.Quad.{Quad}

-- 2.1: the sum of two words, its carry dropped
unfoldable pub add32 : ℕ → ℕ → ℕ
add32 a b = (a + b) % 2 ^ 32

-- 2.1: a word turned left by n bits: its high bits come in again from below
unfoldable pub rotl : ℕ → ℕ → ℕ
rotl x n = (x * 2 ^ n) % 2 ^ 32 + x / 2 ^ (32 - n)

-- 2.1: b is added to a; d is XORed with the new a, then turned left by n
unfoldable pub line_ad : ℕ → Quad → Quad
line_ad n q = record { a = add32 q.a q.b; b = q.b; c = q.c; d = rotl (bit_xor q.d (add32 q.a q.b)) n }

-- 2.1: d is added to c; b is XORed with the new c, then turned left by n
unfoldable pub line_cb : ℕ → Quad → Quad
line_cb n q = record { a = q.a; b = rotl (bit_xor q.b (add32 q.c q.d)) n; c = add32 q.c q.d; d = q.d }

-- 2.1: the quarter round on four words: its lines turn by 16, 12, 8 and 7
unfoldable pub quarter : Quad → Quad
quarter q = line_cb 7 (line_ad 8 (line_cb 12 (line_ad 16 q)))

-- the words at x, y, z and w of a state
abbrev pub quad_at : ℕ → ℕ → ℕ → ℕ → List ℕ → Quad
quad_at x y z w s = record { a = slice_index s x; b = slice_index s y; c = slice_index s z; d = slice_index s w }

-- a state with four words put at x, y, z and w
unfoldable pub put_quad : ℕ → ℕ → ℕ → ℕ → List ℕ → Quad → List ℕ
put_quad x y z w s q = slice_set (slice_set (slice_set (slice_set s x q.a) y q.b) z q.c) w q.d

-- 2.2: the quarter round on the words at x, y, z and w of a state
unfoldable pub qround : ℕ → ℕ → ℕ → ℕ → List ℕ → List ℕ
qround x y z w s = put_quad x y z w s (quarter (quad_at x y z w s))

-- 2.3: a round over the four columns of the state
unfoldable pub columns : List ℕ → List ℕ
columns s = qround 3 7 11 15 (qround 2 6 10 14 (qround 1 5 9 13 (qround 0 4 8 12 s)))

-- 2.3: a round over its four diagonals
unfoldable pub diagonals : List ℕ → List ℕ
diagonals s = qround 3 4 9 14 (qround 2 7 8 13 (qround 1 6 11 12 (qround 0 5 10 15 s)))

-- 2.3: two rounds, columns first
unfoldable pub double_round : List ℕ → List ℕ
double_round s = diagonals (columns s)

-- 2.3: n times two rounds
unfoldable pub rounds : ℕ → List ℕ → List ℕ
rounds zero s = s
rounds (suc n) s = double_round (rounds n s)

-- 2.3: n words of some bytes from a place on, each with its low byte first
unfoldable pub words : ℕ → List ℕ → ℕ → List ℕ
words zero l o = []
words (suc n) l o = little_at 4 l o ∷ words n l (o + 4)

-- 2.3: the first state: four constants, eight words of key, the counter, three words of nonce
unfoldable pub initial : List ℕ → ℕ → List ℕ → List ℕ
initial key counter nonce = 0x61707865 ∷ 0x3320646e ∷ 0x79622d32 ∷ 0x6b206574 ∷ words 8 key 0 ++ (counter ∷ words 3 nonce 0)

-- 2.3: two states added word by word
unfoldable pub add_words : List ℕ → List ℕ → List ℕ
add_words [] t = []
add_words (a ∷ s) [] = []
add_words (a ∷ s) (b ∷ t) = add32 a b ∷ add_words s t

-- 2.3: the words of a state as bytes, each with its low byte first
unfoldable pub serialise : List ℕ → List ℕ
serialise [] = []
serialise (w ∷ s) = little_bytes 4 w ++ serialise s

-- 2.3: the block: 64 bytes from 20 rounds on the first state, with that state added again
unfoldable pub block : List ℕ → ℕ → List ℕ → List ℕ
block key counter nonce = serialise (add_words (rounds 10 (initial key counter nonce)) (initial key counter nonce))
