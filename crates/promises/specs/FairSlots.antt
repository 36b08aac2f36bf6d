-- Fair slots (request P12): after any calls the summary is a count over the slots, 52 says that this neighbour has 4 open, and no neighbour meets another's pieces.
use Rattle.std.specs.Prelude.{◌≡◌, List, ℕ, ◌≤◌, ◌<◌, length}
use Rattle.reassembly.specs.Sizes.{most_remembered}
use Rattle.reassembly.specs.Store.{Piece}
use Rattle.reassembly.specs.Runs.{said_to, reached}
use Rattle.reassembly.specs.Neighbours.{Neighbours, new_neighbours, store_of, summary_of, open_of, step_from}
use Rattle.reassembly.specs.Acts.{Act, acts_said, acts_left, only, heard}

-- The summary always equals a count over the slots.
abbrev pub SummaryIsCount : Type 0
SummaryIsCount = (acts : List Act) (n : ℕ) → summary_of (acts_left new_neighbours acts) n ≡ open_of (store_of (acts_left new_neighbours acts) n).slots

-- None has more than 4 open.
abbrev pub AtMostFour : Type 0
AtMostFour = (acts : List Act) (n : ℕ) → summary_of (acts_left new_neighbours acts) n ≤ 4

-- 52 is said only where this neighbour has 4 open.
abbrev pub FourOpen : Type 0
FourOpen =
    (acts : List Act) (cap n : ℕ) (p : Piece) (second : ℕ) → (step_from cap (acts_left new_neighbours acts) n p second).number ≡ 52
    → summary_of (acts_left new_neighbours acts) n ≡ 4

-- What neighbour n hears, and what its store becomes, are what a store of its own says and becomes that meets its pieces and the sweeps alone.
pub record Alone (acts : List Act) (n : ℕ) (s : Neighbours) : Type 0 where
  pub said : heard n acts (acts_said s acts) ≡ said_to most_remembered (store_of s n) (only n acts)
  pub left : store_of (acts_left s acts) n ≡ reached most_remembered (store_of s n) (only n acts)

-- So it is for every neighbour, from any four stores on and whatever all of them send.
abbrev pub Independent : Type 0
Independent = (s : Neighbours) → length s.stores ≡ 4 → (acts : List Act) (n : ℕ) → n < 4 → Alone acts n s

-- Where the others send other pieces, or none, a neighbour hears the same, 52 with it, and its store becomes the same.
abbrev pub TwoRuns : Type 0
TwoRuns =
    (acts acts' : List Act) (n : ℕ) → n < 4 → only n acts ≡ only n acts'
    → (heard n acts (acts_said new_neighbours acts) ≡ heard n acts' (acts_said new_neighbours acts'))
    × (store_of (acts_left new_neighbours acts) n ≡ store_of (acts_left new_neighbours acts') n)
