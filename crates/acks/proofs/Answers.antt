-- What expanding answers, case by case. Assumes nothing.
use mathlib.Core.Path.{◌≡◌, refl}
use mathlib.Core.Bool.{true, false}
use mathlib.Core.List.{List, [], ◌∷◌}
use Prim.Native.Nat.{ℕ, ◌+◌, ◌≤◌, ◌<◌}
use borrow.Author.Tests.{lt-ltb, le-ltb, ltb-true, ltb-false}
use lib.ListN.{length}
use Rattle.wire.specs.Parts.{splice}
use Rattle.acks.specs.Runs.{flags, named, whole_pairs, run_sum}
use Rattle.acks.specs.Expanding.{ack_numbers, expand_answer, goes_below, expand_of, list_after}

-- a last odd byte is no run: 2 below 6, then a pair of 1 and 3, and the 7 is passed over
pub odd_byte : expand_answer 6 2 (1 ∷ 3 ∷ 7 ∷ []) 7 ≡ 0
unfolding expand_answer goes_below ack_numbers named flags whole_pairs run_sum
odd_byte = refl

-- where both hold, 44 is given: one number below 0, and no room for any
pub reach_first : expand_answer 0 1 [] 0 ≡ 44
unfolding expand_answer goes_below ack_numbers named flags whole_pairs run_sum
reach_first = refl

module _ (through count : ℕ) (ps : List ℕ) where
  -- whether there is a 44
  pub below_44 : through < count + run_sum (whole_pairs ps) → goes_below through count ps ≡ true
  unfolding goes_below
  below_44 h = lt-ltb through (count + run_sum (whole_pairs ps)) h

  pub above_44 : count + run_sum (whole_pairs ps) ≤ through → goes_below through count ps ≡ false
  unfolding goes_below
  above_44 h = le-ltb through (count + run_sum (whole_pairs ps)) h

  pub is_below : goes_below through count ps ≡ true → through < count + run_sum (whole_pairs ps)
  unfolding goes_below
  is_below e = ltb-true through (count + run_sum (whole_pairs ps)) e

  pub is_above : goes_below through count ps ≡ false → count + run_sum (whole_pairs ps) ≤ through
  unfolding goes_below
  is_above e = ltb-false through (count + run_sum (whole_pairs ps)) e

  pub says_44 : (room : ℕ) → through < count + run_sum (whole_pairs ps) → expand_answer through count ps room ≡ 44
  unfolding expand_answer
  says_44 room h = rw (below_44 h)

  pub says_46 : (room : ℕ) → count + run_sum (whole_pairs ps) ≤ through → room < length (ack_numbers through count ps) → expand_answer through count ps room ≡ 46
  unfolding expand_answer
  says_46 room h g = rw (above_44 h, lt-ltb room (length (ack_numbers through count ps)) g)

  pub says_0 : (room : ℕ) → count + run_sum (whole_pairs ps) ≤ through → length (ack_numbers through count ps) ≤ room → expand_answer through count ps room ≡ 0
  unfolding expand_answer
  says_0 room h g = rw (above_44 h, le-ltb room (length (ack_numbers through count ps)) g)

  module _ (list : List ℕ) where
    pub is_44 : through < count + run_sum (whole_pairs ps) →
        (record { number = 44; count = 0 } ≡ expand_of through count ps (length list)) × (list ≡ list_after through count ps list)
    unfolding expand_of list_after
    is_44 h = (rw (says_44 (length list) h), rw (says_44 (length list) h))

    pub is_46 : count + run_sum (whole_pairs ps) ≤ through → length list < length (ack_numbers through count ps) →
        (record { number = 46; count = 0 } ≡ expand_of through count ps (length list)) × (list ≡ list_after through count ps list)
    unfolding expand_of list_after
    is_46 h g = (rw (says_46 (length list) h g), rw (says_46 (length list) h g))

    pub is_0 : count + run_sum (whole_pairs ps) ≤ through → length (ack_numbers through count ps) ≤ length list →
        (record { number = 0; count = length (ack_numbers through count ps) } ≡ expand_of through count ps (length list))
        × (splice list 0 (ack_numbers through count ps) ≡ list_after through count ps list)
    unfolding expand_of list_after
    is_0 h g = (rw (says_0 (length list) h g), rw (says_0 (length list) h g))
