-- What a call on a store is, and what is said to it. Assumes nothing.
use mathlib.Core.Path.{◌≡◌, refl}
use mathlib.Core.Option.{none}
use Prim.Native.Nat.{ℕ}
use Rattle.reassembly.specs.Store.{Piece, Store, Answer, step, sweep}
use Rattle.reassembly.specs.Runs.{piece, sweep_at, answered, said_of}

-- a piece is answered by a step,
pub answered_piece : (keep cap : ℕ) (s : Store) (p : Piece) (second : ℕ) → answered keep s (piece cap p second) ≡ step keep cap s p second
unfolding answered
answered_piece keep cap s p second = refl

-- a sweep by 0.
pub answered_sweep : (keep : ℕ) (s : Store) (second : ℕ) → answered keep s (sweep_at second) ≡ record { number = 0; out = none; store = sweep second s }
unfolding answered
answered_sweep keep s second = refl

-- The number and the message are said.
pub said_of_lem : (a : Answer) → said_of a ≡ record { number = a.number; out = a.out }
unfolding said_of
said_of_lem a = refl
