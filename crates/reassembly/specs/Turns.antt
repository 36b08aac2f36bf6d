-- Turns on lent bytes, one after the other, of any kind: what is said to them, what is left, and what one neighbour has of them. A call for a piece is such a turn,
-- so is a delivery of a block, so is a sweep.
use Rattle.std.specs.Prelude.{Bool, cond, List, [], ◌∷◌, ℕ}

-- What a turn leaves: what it says, and what became of the record and the room, or of a neighbour's share of them.
pub record Turned (A : Type 0) : Type 0 where
  pub said : A
  pub rec : List ℕ
  pub room : List ℕ

-- these three as one
abbrev pub turned : {A : Type 0} → A → List ℕ → List ℕ → Turned A
turned said rec room = record { said = said; rec = rec; room = room }

module _ {C A : Type 0} where
  -- what is said to turns, one after the other
  abbrev pub said_each : (List ℕ → List ℕ → C → Turned A) → List ℕ → List ℕ → List C → List A
  said_each turn rec room [] = []
  said_each turn rec room (c ∷ cs) = (turn rec room c).said ∷ said_each turn (turn rec room c).rec (turn rec room c).room cs

  -- the record after the last of them
  abbrev pub record_left : (List ℕ → List ℕ → C → Turned A) → List ℕ → List ℕ → List C → List ℕ
  record_left turn rec room [] = rec
  record_left turn rec room (c ∷ cs) = record_left turn (turn rec room c).rec (turn rec room c).room cs

  -- the room after the last of them
  abbrev pub room_left : (List ℕ → List ℕ → C → Turned A) → List ℕ → List ℕ → List C → List ℕ
  room_left turn rec room [] = room
  room_left turn rec room (c ∷ cs) = room_left turn (turn rec room c).rec (turn rec room c).room cs

  -- what was said to those that pass a test, of what was said to all
  abbrev pub said_those : (C → Bool) → List C → List A → List A
  said_those mine [] rs = []
  said_those mine (c ∷ cs) [] = []
  said_those mine (c ∷ cs) (r ∷ rs) = cond (mine c) (r ∷ said_those mine cs rs) (said_those mine cs rs)

-- the turns that pass a test: a neighbour's own, and the sweeps
abbrev pub those : {C : Type 0} → (C → Bool) → List C → List C
those mine [] = []
those mine (c ∷ cs) = cond (mine c) (c ∷ those mine cs) (those mine cs)
