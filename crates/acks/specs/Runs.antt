-- Run lengths of a list of booleans, and back. Nothing here speaks of a tracker.
use Rattle.std.specs.Prelude.{Bool, true, false, not, List, [], ◌∷◌, ◌++◌, ℕ, suc, ◌+◌, ◌-◌, ◌%◌, replicate, take, length}

-- one more in the first run
unfoldable pub inc : List ℕ → List ℕ
inc [] = 1 ∷ []
inc (n ∷ ns) = suc n ∷ ns

-- the lengths of the runs, the first of b's (0 where the list starts with the other); there is a 0 at the end where the last flag is false:
-- from true on, [true, false] has the runs 1, 1, 0, and [true] the run 1
unfoldable pub runs : Bool → List Bool → List ℕ
runs true [] = 0 ∷ []
runs false [] = 0 ∷ 0 ∷ []
runs true (true ∷ l) = inc (runs true l)
runs true (false ∷ l) = 0 ∷ inc (runs false l)
runs false (false ∷ l) = inc (runs false l)
runs false (true ∷ l) = 0 ∷ inc (runs true l)

-- the length of the leading run of b's
unfoldable pub leading : Bool → List Bool → ℕ
leading true [] = 0
leading false [] = 0
leading true (true ∷ l) = suc (leading true l)
leading true (false ∷ l) = 0
leading false (false ∷ l) = suc (leading false l)
leading false (true ∷ l) = 0

-- the runs that follow a run of b's
unfoldable pub later_runs : Bool → List Bool → List ℕ
later_runs true [] = []
later_runs false [] = 0 ∷ []
later_runs true (x ∷ l) = runs false (x ∷ l)
later_runs false (x ∷ l) = runs true (x ∷ l)

-- what run lengths stand for: so many b's, then so many of the other, and so on
unfoldable pub flags : Bool → List ℕ → List Bool
flags b [] = []
flags b (k ∷ ks) = replicate k b ++ flags (not b) ks

-- the numbers from n downward whose flag is set
unfoldable pub named : ℕ → List Bool → List ℕ
named n [] = []
named n (true ∷ l) = n ∷ named (n - 1) l
named n (false ∷ l) = named (n - 1) l

-- whole pairs: an odd last number is dropped
unfoldable pub whole_pairs : List ℕ → List ℕ
whole_pairs l = take (length l - length l % 2) l

-- the sum of some numbers
unfoldable pub run_sum : List ℕ → ℕ
run_sum [] = 0
run_sum (n ∷ l) = n + run_sum l
