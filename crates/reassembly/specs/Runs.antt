-- Calls on a store, one after the other.
use Rattle.std.specs.Prelude.{List, [], ◌∷◌, ℕ}
use Rattle.std.proofs.Math.Option.{Option, none}
use Rattle.reassembly.specs.Store.{Piece, Store, Rebuilt, Answer, step, sweep}

-- A piece comes at a second, with an assembly buffer of `cap` bytes; or a sweep. The seconds may go back.
pub data Call : Type 0 where
  piece : (cap : ℕ) (p : Piece) (second : ℕ) → Call
  sweep_at : (second : ℕ) → Call

-- What the store answers to a call, and what it becomes.
unfoldable pub answered : ℕ → Store → Call → Answer
answered keep s (piece cap p second) = step keep cap s p second
answered keep s (sweep_at second) = record { number = 0; out = none; store = sweep second s }

-- What is said to a call: a number, and perhaps a message.
pub record Said : Type 0 where
  pub number : ℕ
  pub out : Option Rebuilt

-- an answer without the store
unfoldable pub said_of : Answer → Said
said_of a = record { number = a.number; out = a.out }

-- what is said to calls, one after the other
abbrev pub said_to : ℕ → Store → List Call → List Said
said_to keep s [] = []
said_to keep s (c ∷ cs) = said_of (answered keep s c) ∷ said_to keep (answered keep s c).store cs

-- The numbers that calls are answered by.
abbrev pub numbers : ℕ → Store → List Call → List ℕ
numbers keep s [] = []
numbers keep s (c ∷ cs) = (answered keep s c).number ∷ numbers keep (answered keep s c).store cs

-- The store after the last of them.
abbrev pub reached : ℕ → Store → List Call → Store
reached keep s [] = s
reached keep s (c ∷ cs) = reached keep (answered keep s c).store cs
