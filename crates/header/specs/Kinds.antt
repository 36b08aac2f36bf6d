-- The header types of document 01, and what a type says of its header.
use Rattle.std.specs.Prelude.{Bool, cond, ◌||◌, ℕ, eqb}

-- SessionRequest and SessionCreated: a header of 64 bytes, the last 32 a key
abbrev pub is_keyed : ℕ → Bool
is_keyed t = eqb t 0 || eqb t 1

-- SessionConfirmed and Data: a header of 16 bytes
abbrev pub is_short : ℕ → Bool
is_short t = eqb t 2 || eqb t 6

-- PeerTest, Retry, TokenRequest and HolePunch: a header of 32 bytes
abbrev pub is_middle : ℕ → Bool
is_middle t = eqb t 7 || eqb t 9 || eqb t 10 || eqb t 11

-- a type that 01 lists
unfoldable pub is_listed : ℕ → Bool
is_listed t = is_keyed t || is_short t || is_middle t

-- a version that 01 lists
unfoldable pub is_version : ℕ → Bool
is_version v = eqb v 2 || eqb v 3 || eqb v 4

-- how many bytes from 16 on are masked; a type that is not listed is refused before this is asked
unfoldable pub masked_length : ℕ → ℕ
masked_length t = cond (is_keyed t) 48 (cond (is_short t) 0 16)

-- how long a packet must be to be written, so that no nonce lies in its header
unfoldable pub need_of : ℕ → ℕ
need_of t = cond (is_keyed t) 88 (cond (is_short t) 40 56)
