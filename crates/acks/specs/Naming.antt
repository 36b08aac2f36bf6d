-- Where a walk over the pairs of an acknowledgement stands.
use Rattle.std.specs.Prelude.{◌≡◌, Bool, List, ℕ, ◌+◌, ◌%◌, ◌≤◌, length, take}
use Rattle.acks.specs.Runs.{run_sum}
use Rattle.acks.specs.History.{among}
use Rattle.acks.specs.Expanding.{ack_numbers}

-- through, count and the pairs before a place speak of the numbers from low on; so the pairs from there on speak of those below low
abbrev pub StandsAt : ℕ → ℕ → List ℕ → ℕ → ℕ → Type 0
StandsAt through count pairs place low = (place ≤ length pairs) × (place % 2 ≡ 0) × (low + (count + run_sum (take place pairs)) ≡ through)

-- all numbers from first to last are named, or none is
abbrev pub RunOf : ℕ → ℕ → List ℕ → ℕ → ℕ → Bool → Type 0
RunOf through count pairs first last named = (y : ℕ) → first ≤ y → y ≤ last → among (ack_numbers through count pairs) y ≡ named
