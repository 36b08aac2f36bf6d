-- The slot of a message in a share of the record: found by its id, or the first that is free.
use Rattle.std.specs.Prelude.{Bool, cond, not, ◌&&◌, List, ℕ, zero, suc, ◌+◌, eqb}
use Rattle.reassembly.specs.Record.{head_at}

-- the first of n numbers from i on that passes a test, or the one after them
unfoldable pub first_from : (ℕ → Bool) → ℕ → ℕ → ℕ
first_from p i zero = i
first_from p i (suc n) = cond (p i) i (first_from p (i + 1) n)

-- slot i is free: it holds no piece
unfoldable pub is_free : List ℕ → ℕ → Bool
is_free rec i = eqb (head_at rec i).count 0

-- slot i holds pieces of the message with this id
unfoldable pub is_open_as : List ℕ → ℕ → ℕ → Bool
is_open_as rec id i = not (eqb (head_at rec i).count 0) && eqb (head_at rec i).id id
