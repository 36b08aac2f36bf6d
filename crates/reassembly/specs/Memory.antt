-- Late repeats (request P5): the finished messages that a store remembers, the first finished first.
use Rattle.std.specs.Prelude.{Bool, false, cond, ◌||◌, List, [], ◌∷◌, ◌++◌, ℕ, ltb, eqb, length, drop}
use Rattle.reassembly.specs.Ages.{long_ago}

-- A finished message: its id, and the second of the piece that finished it.
pub record Finished : Type 0 where
  pub id : ℕ
  pub second : ℕ

-- those that are remembered, in the order of the calls that finished them
abbrev pub Memory : Type 0
Memory = List Finished

-- Whether an id is remembered.
unfoldable pub remembers : Memory → ℕ → Bool
remembers [] id = false
remembers (f ∷ fs) id = eqb f.id id || remembers fs id

-- A message finishes: where `keep` are remembered already, the first of them is pushed out.
unfoldable pub remember : ℕ → Memory → Finished → Memory
remember keep fs f = cond (ltb (length fs) keep) fs (drop 1 fs) ++ (f ∷ [])

-- A finished message is due at a second that is at least 30 above its finishing second.
unfoldable pub is_due : ℕ → Finished → Bool
is_due second f = long_ago f.second second

-- A sweep forgets those that are due.
unfoldable pub forget : ℕ → Memory → Memory
forget second [] = []
forget second (f ∷ fs) = cond (is_due second f) (forget second fs) (f ∷ forget second fs)
