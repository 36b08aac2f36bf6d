-- The inputs that show how request P5 is read (5.1 to 5.10, 5.13 to 5.15), on a neighbour's new store, with the 4 slots and 16 remembered messages of request P12.
use Rattle.std.specs.Prelude.{◌≡◌, true, false, List, [], ◌∷◌, ◌++◌, ℕ, zero, suc, drop}
use Rattle.reassembly.specs.Sizes.{message_size, most_remembered}
use Rattle.wire.specs.Series.{series}
use Rattle.reassembly.specs.Store.{first, follow, empty, new_store}
use Rattle.reassembly.specs.Runs.{Call, piece, sweep_at, numbers, reached}

-- Piece 0 of the message `id`, at a second.
abbrev pub first_piece : ℕ → ℕ → Call
first_piece id second = piece message_size (first id 1 9 (id ∷ [])) second

-- Its piece 1, the last.
abbrev pub last_piece : ℕ → ℕ → Call
last_piece id second = piece message_size (follow id 1 true (id ∷ [])) second

-- The message comes, and finishes.
abbrev pub finish : ℕ → ℕ → List Call
finish id second = first_piece id second ∷ last_piece id second ∷ []

-- So do n messages, with ids from `id` on.
abbrev pub finishes : ℕ → ℕ → ℕ → List Call
finishes zero id second = []
finishes (suc n) id second = finish id second ++ finishes n (suc id) second

-- The numbers that calls on a new store are answered by, those of the first n left out.
abbrev pub answers : ℕ → List Call → List ℕ
answers n cs = drop n (numbers most_remembered new_store cs)

-- Late repeats among the pieces of another message.
abbrev pub mixed : List Call
mixed = finish 7 0 ++ (first_piece 7 0 ∷ first_piece 8 0 ∷ last_piece 7 0 ∷ last_piece 8 0 ∷ [])

-- The largest second that a call can be given.
abbrev pub largest_second : ℕ
largest_second = 18446744073709551615

-- What they are answered by.
pub record Readings : Type 0 where
  -- 5.1: 51 and 50 come before 57, and 57 whatever the piece; with 4 open too, where another message is 52
  pub at_5_1 :
      answers 2 (finish 7 0 ++ (piece message_size (follow 7 0 false (1 ∷ [])) 0 ∷ piece message_size (follow 7 1 true []) 0 ∷ last_piece 7 0 ∷ piece message_size (follow 7 9 false (1 ∷ [])) 0 ∷ []))
      ≡ 51 ∷ 50 ∷ 57 ∷ 57 ∷ []
  pub at_5_1_full : answers 6 (finish 7 0 ++ series (λ id. first_piece id 0) 100 4 ++ (last_piece 7 0 ∷ first_piece 8 0 ∷ [])) ≡ 57 ∷ 52 ∷ []
  -- 5.2: due is not forgotten
  pub at_5_2 : answers 0 (finish 7 0 ++ (last_piece 7 99 ∷ [])) ≡ 0 ∷ 60 ∷ 57 ∷ []
  -- 5.3: the finishing second counts
  pub at_5_3 : answers 0 (first_piece 7 0 ∷ last_piece 7 20 ∷ sweep_at 30 ∷ first_piece 7 30 ∷ sweep_at 50 ∷ first_piece 7 50 ∷ []) ≡ 0 ∷ 60 ∷ 0 ∷ 57 ∷ 0 ∷ 0 ∷ []
  -- 5.4: the first finished goes by the order of the calls
  pub at_5_4 : answers 34 (finish 0 10 ++ finish 1 5 ++ finishes 14 2 10 ++ finish 16 10 ++ (first_piece 1 10 ∷ first_piece 0 10 ∷ [])) ≡ 57 ∷ 0 ∷ []
  -- 5.5: an id that a sweep forgot leaves no gap that counts
  pub at_5_5 : answers 33 (finish 0 100 ++ finishes 15 1 0 ++ (sweep_at 30 ∷ []) ++ finish 16 30 ++ (first_piece 0 30 ∷ [])) ≡ 0 ∷ 60 ∷ 57 ∷ []
  -- 5.6: a swept open message is not remembered
  pub at_5_6 : answers 0 (first_piece 7 0 ∷ sweep_at 30 ∷ first_piece 7 30 ∷ []) ≡ 0 ∷ 0 ∷ 0 ∷ []
  -- 5.7: 56 finishes nothing
  pub at_5_7 : answers 0 (first_piece 3 0 ∷ piece 1 (follow 3 1 true (3 ∷ [])) 0 ∷ first_piece 3 0 ∷ []) ≡ 0 ∷ 56 ∷ 54 ∷ []
  -- 5.8: an empty memory remembers nothing
  pub at_5_8 : answers 0 (finish 0 0) ≡ 0 ∷ 60 ∷ []
  -- 5.9: 57 refreshes nothing
  pub at_5_9 : answers 0 (finish 7 0 ++ (first_piece 7 29 ∷ sweep_at 30 ∷ first_piece 7 30 ∷ [])) ≡ 0 ∷ 60 ∷ 57 ∷ 0 ∷ 0 ∷ []
  -- 5.10: due ids count among the 16 until a sweep finds them; the 17th pushes out the first, and no other
  pub at_5_10 : answers 32 (finishes 16 0 0 ++ finish 16 99 ++ (first_piece 0 99 ∷ first_piece 1 99 ∷ [])) ≡ 0 ∷ 60 ∷ 0 ∷ 57 ∷ []
  -- 5.13: nothing wraps
  pub at_5_13 : answers 0 (finish 7 largest_second ++ (sweep_at largest_second ∷ first_piece 7 largest_second ∷ [])) ≡ 0 ∷ 60 ∷ 0 ∷ 57 ∷ []
  -- 5.14: late repeats are 57
  pub at_5_14 : answers 0 mixed ≡ 0 ∷ 60 ∷ 57 ∷ 0 ∷ 57 ∷ 60 ∷ []
  -- 5.15: then none is open, and both are remembered
  pub at_5_15 : reached most_remembered new_store mixed ≡ record { slots = empty; remembered = record { id = 7; second = 0 } ∷ record { id = 8; second = 0 } ∷ [] }
