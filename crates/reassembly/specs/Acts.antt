-- Calls on the store of four neighbours, one after the other, and what one neighbour has of them.
use Rattle.std.specs.Prelude.{cond, List, [], ◌∷◌, ℕ, eqb}
use Rattle.std.proofs.Math.Option.{none}
use Rattle.reassembly.specs.Store.{Piece}
use Rattle.reassembly.specs.Runs.{Call, piece, sweep_at, Said}
use Rattle.reassembly.specs.Neighbours.{Neighbours, NeighboursAnswer, step_from, sweep_all}

-- A piece comes from a neighbour, of any number, at a second, with an assembly buffer of `cap` bytes; or a sweep. The seconds may go back.
pub data Act : Type 0 where
  sends : (n cap : ℕ) (p : Piece) (second : ℕ) → Act
  sweeps : (second : ℕ) → Act

-- what the store answers to an act, and what is left
unfoldable pub act_answer : Neighbours → Act → NeighboursAnswer
act_answer s (sends n cap p second) = step_from cap s n p second
act_answer s (sweeps second) = record { number = 0; out = none; left = sweep_all second s }

-- what is said to it
unfoldable pub act_said : Neighbours → Act → Said
act_said s a = record { number = (act_answer s a).number; out = (act_answer s a).out }

-- what is said to acts, one after the other
abbrev pub acts_said : Neighbours → List Act → List Said
acts_said s [] = []
acts_said s (a ∷ acts) = act_said s a ∷ acts_said (act_answer s a).left acts

-- the store after the last of them
abbrev pub acts_left : Neighbours → List Act → Neighbours
acts_left s [] = s
acts_left s (a ∷ acts) = acts_left (act_answer s a).left acts

-- The calls that neighbour n's own store meets: its pieces, and the sweeps.
abbrev pub only : ℕ → List Act → List Call
only n [] = []
only n (sends m cap p second ∷ acts) = cond (eqb m n) (piece cap p second ∷ only n acts) (only n acts)
only n (sweeps second ∷ acts) = sweep_at second ∷ only n acts

-- What was said to these, of what was said to all.
abbrev pub heard : ℕ → List Act → List Said → List Said
heard n [] rs = []
heard n (a ∷ acts) [] = []
heard n (sends m cap p second ∷ acts) (r ∷ rs) = cond (eqb m n) (r ∷ heard n acts rs) (heard n acts rs)
heard n (sweeps second ∷ acts) (r ∷ rs) = r ∷ heard n acts rs
