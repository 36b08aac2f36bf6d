-- Measuring an acknowledgement: what the pairs before a place came to. Assumes nothing.
use mathlib.Core.Path.{◌≡◌, refl, ap, ◌∙◌}
use mathlib.Core.Bool.{true, false}
use mathlib.Core.List.{List, ◌∷◌}
use Prim.Native.Nat.{ℕ, ◌+◌, ◌-◌, ◌≤◌, ◌<◌}
use native.Mathlib.Omega.{arith}
use lib.ListN.{length, drop, get_or, length-append}
use Rattle.acks.specs.Window.{falling}
use Rattle.acks.specs.Runs.{flags, whole_pairs, run_sum}
use Rattle.acks.specs.Expanding.{ack_numbers, goes_below}
use Rattle.acks.proofs.Answers.{below_44, above_44}
use Rattle.acks.proofs.Falling.{length_falling}
use Rattle.acks.proofs.Named.{left, left_step, left_end, total_step, total_end, length_named, numbers_start}

pub record Summed (through count : ℕ) (ps : List ℕ) (sum names i : ℕ) : Type 0 where
  pub sums : count + run_sum (whole_pairs ps) ≡ sum + run_sum (whole_pairs (drop i ps))
  pub names_are : length (ack_numbers through count ps) ≡ names + length (left ps i 0)
  pub at : i ≤ length ps
  pub few : names ≤ sum + 1
  pub bounded : sum ≤ through + 510

pub summed_start : (through count : ℕ) (ps : List ℕ) → count < 256 → Summed through count ps count (1 + count) 0
summed_start through count ps h =
    record {
      sums = refl;
      names_are =
          ap length (numbers_start through count ps)
          ∙ length-append (through ∷ falling (through - 1) count) (left ps 0 (through - count - 1))
          ∙ omega (arith, length_falling (through - 1) count, length_named (through - count - 1) 0 (flags false (whole_pairs ps)));
      at = omega arith;
      few = omega arith;
      bounded = omega arith;
    }

pub summed_step : (through count : ℕ) (ps : List ℕ) (sum names i nack ack : ℕ) → Summed through count ps sum names i → i + 1 < length ps →
    sum ≤ through → nack ≡ get_or ps i 0 → nack < 256 → ack ≡ get_or ps (i + 1) 0 → ack < 256 →
    Summed through count ps (sum + nack + ack) (names + ack) (i + 2)
summed_step through count ps sum names i nack ack s h l a p b q =
    record {
      sums = omega (arith, s.sums, total_step ps i h);
      names_are = omega (arith, s.names_are, lengths);
      at = omega arith;
      few = omega (arith, s.few);
      bounded = omega arith;
    }
  where
    lengths : length (left ps i 0) ≡ get_or ps (i + 1) 0 + length (left ps (i + 2) 0)
    lengths =
        ap length (left_step ps i 0 h)
        ∙ length-append (falling (0 - get_or ps i 0) (get_or ps (i + 1) 0)) (left ps (i + 2) (0 - get_or ps i 0 - get_or ps (i + 1) 0))
        ∙ rw (
          length_falling (0 - get_or ps i 0) (get_or ps (i + 1) 0),
          length_named (0 - get_or ps i 0 - get_or ps (i + 1) 0) 0 (flags false (whole_pairs (drop (i + 2) ps))),
        )

summed_end : (through count : ℕ) (ps : List ℕ) (sum names i : ℕ) → Summed through count ps sum names i → length ps ≤ i + 1 →
    (sum ≡ count + run_sum (whole_pairs ps)) × (names ≡ length (ack_numbers through count ps))
summed_end through count ps sum names i s h =
    (omega (arith, s.sums, total_end ps i h), omega (arith, s.names_are, ap length (left_end ps i 0 h)))

-- what measuring answers: the numbers stay at 0 or above, or they go below
module _ (through count : ℕ) (ps : List ℕ) (sum names i : ℕ) (s : Summed through count ps sum names i) where
  pub within : length ps ≤ i + 1 → sum ≤ through → goes_below through count ps ≡ false
  within h g =
      let e = summed_end through count ps sum names i s h in
      above_44 through count ps (omega arith)

  pub measured : length ps ≤ i + 1 → sum ≤ through →
      (goes_below through count ps ≡ false) × (names ≡ length (ack_numbers through count ps)) × (through - sum + (count + run_sum (whole_pairs ps)) ≡ through)
  measured h g =
      let e = summed_end through count ps sum names i s h in
      (within h g, e.1, omega arith)

  pub beyond : through < sum → goes_below through count ps ≡ true
  beyond g = below_44 through count ps (omega (arith, s.sums))
