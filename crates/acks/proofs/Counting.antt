-- How many run lengths there are, and what they add up to. Assumes nothing.
use mathlib.Core.Path.{◌≡◌, refl, ap, ◌∙◌}
use mathlib.Core.Bool.{Bool, true, false, not}
use mathlib.Core.List.{List, [], ◌∷◌}
use Prim.Native.Nat.{ℕ, suc, ◌+◌, ◌-◌, ◌%◌, ◌≤◌, ◌<◌}
use native.Mathlib.Omega.{arith}
use lib.ListN.{length, replicate, length-append, length-replicate}
use lib.Seq.{take-length}
use Rattle.acks.specs.Runs.{inc, runs, flags, whole_pairs, run_sum}

length_inc : (r : List ℕ) → 0 < length r → length (inc r) ≡ length r
unfolding inc
length_inc [] h = absurd (omega arith)
length_inc (n ∷ r) h = refl

-- 1 where the first run is of received numbers
abbrev pub odd : Bool → ℕ
odd true = 1
odd false = 0

pub runs_count : (b : Bool) (l : List Bool) → (0 < length (runs b l)) × (length (runs b l) % 2 ≡ odd b)
unfolding runs
runs_count true [] = (omega arith, refl)
runs_count false [] = (omega arith, refl)
runs_count true (true ∷ l) =
    let s = runs_count true l in
    let e = length_inc (runs true l) s.0 in
    (omega (arith, s.0, e), ap (λ n. n % 2) e ∙ s.1)
runs_count false (false ∷ l) =
    let s = runs_count false l in
    let e = length_inc (runs false l) s.0 in
    (omega (arith, s.0, e), ap (λ n. n % 2) e ∙ s.1)
runs_count true (false ∷ l) =
    let s = runs_count false l in
    let e = length_inc (runs false l) s.0 in
    (omega arith, ap (λ n. suc n % 2) e ∙ flip (length (runs false l)) s.1)
  where
    flip : (n : ℕ) → n % 2 ≡ 0 → suc n % 2 ≡ 1
    flip n e = omega arith
runs_count false (true ∷ l) =
    let s = runs_count true l in
    let e = length_inc (runs true l) s.0 in
    (omega arith, ap (λ n. suc n % 2) e ∙ flip (length (runs true l)) s.1)
  where
    flip : (n : ℕ) → n % 2 ≡ 1 → suc n % 2 ≡ 0
    flip n e = omega arith

pub length_flags : (b : Bool) (ks : List ℕ) → length (flags b ks) ≡ run_sum ks
unfolding flags run_sum
length_flags b [] = refl
length_flags b (k ∷ ks) =
    length-append (replicate k b) (flags (not b) ks)
    ∙ rw (length-replicate k b, length_flags (not b) ks)

-- whole pairs stay
pub whole_even : (l : List ℕ) → length l % 2 ≡ 0 → whole_pairs l ≡ l
unfolding whole_pairs
whole_even l e = rw (e, none (length l)) (take-length l)
  where
    none : (n : ℕ) → n - 0 ≡ n
    none n = omega arith

-- at most two more runs than flags
pub runs_short : (b : Bool) (l : List Bool) → length (runs b l) ≤ length l + 2
unfolding runs
runs_short true [] = omega arith
runs_short false [] = omega arith
runs_short true (true ∷ l) = omega (arith, length_inc (runs true l) (runs_count true l).0, runs_short true l)
runs_short false (false ∷ l) = omega (arith, length_inc (runs false l) (runs_count false l).0, runs_short false l)
runs_short true (false ∷ l) = omega (arith, length_inc (runs false l) (runs_count false l).0, runs_short false l)
runs_short false (true ∷ l) = omega (arith, length_inc (runs true l) (runs_count true l).0, runs_short true l)
