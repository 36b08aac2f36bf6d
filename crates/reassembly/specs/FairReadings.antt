-- The inputs that show how request P12 is read (12.1 to 12.6 and 12.10), on a new store of four neighbours. 59, which 12.1 and 12.9 name, is the calls'.
use Rattle.std.specs.Prelude.{◌≡◌, true, List, [], ◌∷◌, ◌++◌, map, ℕ, zero, suc, drop}
use Rattle.wire.specs.Series.{series}
use Rattle.reassembly.specs.Sizes.{message_size}
use Rattle.reassembly.specs.Store.{Store, first, follow, empty, new_store}
use Rattle.reassembly.specs.Neighbours.{new_neighbours}
use Rattle.reassembly.specs.Acts.{Act, sends, sweeps, acts_said, acts_left}

-- Piece 0 of neighbour n's message `id`, at a second.
abbrev pub first_of : ℕ → ℕ → ℕ → Act
first_of n id second = sends n message_size (first id 1 9 (id ∷ [])) second

-- Its piece 1, the last, at second 0.
abbrev pub last_of : ℕ → ℕ → Act
last_of n id = sends n message_size (follow id 1 true (id ∷ [])) 0

-- The message comes, and finishes, at second 0.
abbrev pub finish_of : ℕ → ℕ → List Act
finish_of n id = first_of n id 0 ∷ last_of n id ∷ []

-- So do k messages, with ids from `id` on.
abbrev pub finishes_of : ℕ → ℕ → ℕ → List Act
finishes_of n zero id = []
finishes_of n (suc k) id = finish_of n id ++ finishes_of n k (suc id)

-- The numbers that acts on a new store are answered by, those of the first k left out.
abbrev pub answers_to : ℕ → List Act → List ℕ
answers_to k acts = drop k (map (λ r. r.number) (acts_said new_neighbours acts))

-- Two neighbours use one id.
abbrev pub one_id : List Act
one_id = first_of 0 7 0 ∷ first_of 1 7 0 ∷ last_of 0 7 ∷ last_of 1 7 ∷ []

-- no message is open, and 7 is remembered
abbrev pub seven_remembered : Store
seven_remembered = record { slots = empty; remembered = record { id = 7; second = 0 } ∷ [] }

-- What they are answered by.
pub record FairReadings : Type 0 where
  -- 12.1 and 12.5: 58 before 50, and in any width
  pub at_12_1 : answers_to 0 (sends 4 message_size (first 7 1 9 []) 0 ∷ sends 3 message_size (first 7 1 9 []) 0 ∷ first_of 256 7 0 ∷ []) ≡ 58 ∷ 50 ∷ 58 ∷ []
  -- 12.2: ids hold within a neighbour, remembered ones too
  pub at_12_2 : answers_to 0 (finish_of 0 7 ++ finish_of 1 7) ≡ 0 ∷ 60 ∷ 0 ∷ 60 ∷ []
  -- 12.3: a 17th pushes out that neighbour's first, and no other's
  pub at_12_3 : answers_to 36 (finish_of 1 0 ++ finishes_of 0 17 0 ++ (first_of 0 1 0 ∷ first_of 0 0 0 ∷ first_of 1 0 0 ∷ [])) ≡ 57 ∷ 0 ∷ 57 ∷ []
  -- 12.4: one sweep for all
  pub at_12_4 : (acts_left new_neighbours (first_of 0 1 0 ∷ first_of 3 1 10 ∷ sweeps 30 ∷ [])).summary ≡ 0 ∷ 0 ∷ 0 ∷ 1 ∷ []
  -- 12.6: 57 before 52, which another neighbour does not meet, nor this one once it has 3 open
  pub at_12_6 :
      answers_to 6 (finish_of 0 9 ++ series (λ id. first_of 0 id 0) 0 4 ++ (first_of 0 9 0 ∷ first_of 0 8 0 ∷ first_of 1 8 0 ∷ last_of 0 0 ∷ first_of 0 8 0 ∷ []))
      ≡ 57 ∷ 52 ∷ 0 ∷ 60 ∷ 0 ∷ []
  -- 12.10: equal ids of two neighbours are two messages; then none is open, and 7 is remembered for both
  pub at_12_10 : answers_to 0 one_id ≡ 0 ∷ 0 ∷ 60 ∷ 60 ∷ []
  pub at_12_10_left : acts_left new_neighbours one_id ≡ record { stores = seven_remembered ∷ seven_remembered ∷ new_store ∷ new_store ∷ []; summary = 0 ∷ 0 ∷ 0 ∷ 0 ∷ [] }
