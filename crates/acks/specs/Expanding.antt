-- What an acknowledgement names, and what expanding it into a lent list does.
use Rattle.std.specs.Prelude.{Bool, true, cond, List, ◌∷◌, ℕ, ◌+◌, ltb, eqb, length}
use Rattle.wire.specs.Parts.{splice}
use Rattle.acks.specs.Runs.{flags, named, whole_pairs, run_sum}
use Rattle.acks.specs.declared.Expanded.{Expanded}

-- the through number (the flag in front), count numbers below it, then each pair skips and names
unfoldable pub ack_numbers : ℕ → ℕ → List ℕ → List ℕ
ack_numbers through count pairs = named through (true ∷ flags true (count ∷ whole_pairs pairs))

-- whether count and pairs, nacks included, go below 0
unfoldable pub goes_below : ℕ → ℕ → List ℕ → Bool
goes_below through count pairs = ltb through (count + run_sum (whole_pairs pairs))

-- 44 where they do; 46 where the list has less room than there are numbers
unfoldable pub expand_answer : ℕ → ℕ → List ℕ → ℕ → ℕ
expand_answer through count pairs room =
    cond (goes_below through count pairs) 44 (cond (ltb room (length (ack_numbers through count pairs))) 46 0)

-- what expanding answers, into a list of so much room
unfoldable pub expand_of : ℕ → ℕ → List ℕ → ℕ → Expanded
expand_of through count pairs room =
    record {
      number = expand_answer through count pairs room;
      count = cond (eqb (expand_answer through count pairs room) 0) (length (ack_numbers through count pairs)) 0;
    }

-- what it leaves in the list: the numbers in front and the rest as it was; refused, all of it as it was
unfoldable pub list_after : ℕ → ℕ → List ℕ → List ℕ → List ℕ
list_after through count pairs list =
    cond (eqb (expand_answer through count pairs (length list)) 0) (splice list 0 (ack_numbers through count pairs)) list
