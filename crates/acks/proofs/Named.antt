-- Laws of the numbers that an acknowledgement names. Assumes nothing.
use mathlib.Core.Path.{◌≡◌, refl, ap, ◌∙◌}
use mathlib.Core.Bool.{Bool, true, false}
use mathlib.Core.List.{List, [], ◌∷◌, ◌++◌}
use Prim.Native.Nat.{ℕ, zero, suc, ◌+◌, ◌-◌, ◌≤◌, ◌<◌, ◌%◌}
use native.Mathlib.Omega.{arith}
use native.Mathlib.Numerals.{add-one, add-two}
use lib.ListN.{length, drop, get_or, replicate, length-append, length-drop}
use lib.Seq.{drop-cons}
use Rattle.acks.specs.Window.{falling}
use Rattle.acks.specs.Runs.{flags, named, whole_pairs, run_sum}
use Rattle.acks.specs.Expanding.{ack_numbers}
use Rattle.acks.proofs.Falling.{length_falling}

-- ---- whole pairs
pub whole_two : (a b : ℕ) (r : List ℕ) → whole_pairs (a ∷ (b ∷ r)) ≡ a ∷ (b ∷ whole_pairs r)
unfolding whole_pairs
whole_two a b r =
    let e : suc (suc (length r)) - suc (suc (length r)) % 2 ≡ suc (suc (length r - length r % 2)) = omega arith in
    rw e

whole_short : (l : List ℕ) → length l < 2 → whole_pairs l ≡ []
unfolding whole_pairs
whole_short [] h = refl
whole_short (a ∷ []) h = refl
whole_short (a ∷ (b ∷ l)) h = absurd (omega arith)

pub at_pair : (ps : List ℕ) (i : ℕ) → i + 1 < length ps → drop i ps ≡ get_or ps i 0 ∷ (get_or ps (i + 1) 0 ∷ drop (i + 2) ps)
at_pair ps i h =
    let p : i < length ps = omega arith in
    let q : suc i < length ps = omega arith in
    rw (add-one i, add-two i)
    (drop-cons ps i 0 p ∙ ap (λ l. get_or ps i 0 ∷ l) (drop-cons ps (suc i) 0 q))

-- ---- named numbers
sub_suc : (n a : ℕ) → n - 1 - a ≡ n - suc a
sub_suc n a = omega arith

sub_none : (n : ℕ) → n - 0 ≡ n
sub_none n = omega arith

named_skip : (n a : ℕ) (l : List Bool) → named n (replicate a false ++ l) ≡ named (n - a) l
unfolding named
named_skip n zero l = rw (sub_none n)
named_skip n (suc a) l = named_skip (n - 1) a l ∙ rw (sub_suc n a)

named_take : (n b : ℕ) (l : List Bool) → named n (replicate b true ++ l) ≡ falling n b ++ named (n - b) l
unfolding named falling
named_take n zero l = rw (sub_none n)
named_take n (suc b) l = ap (λ x. n ∷ x) (named_take (n - 1) b l ∙ rw (sub_suc n b))

pair_named : (n a b : ℕ) (w : List ℕ) → named n (flags false (a ∷ (b ∷ w))) ≡ falling (n - a) b ++ named (n - a - b) (flags false w)
unfolding flags
pair_named n a b w =
    named_skip n a (replicate b true ++ flags false w) ∙ named_take (n - a) b (flags false w)

pub length_named : (n m : ℕ) (l : List Bool) → length (named n l) ≡ length (named m l)
unfolding named
length_named n m [] = refl
length_named n m (true ∷ l) = ap suc (length_named (n - 1) (m - 1) l)
length_named n m (false ∷ l) = length_named (n - 1) (m - 1) l

pub falling_snoc : (n j : ℕ) → falling n (j + 1) ≡ falling n j ++ ((n - j) ∷ [])
unfolding falling
falling_snoc n zero = rw (sub_none n)
falling_snoc n (suc j) =
    let e : suc j + 1 ≡ suc (j + 1) = omega arith in
    rw e (ap (λ x. n ∷ x) (falling_snoc (n - 1) j ∙ rw (sub_suc n j)))

-- ---- the pairs from place i on
abbrev pub left : List ℕ → ℕ → ℕ → List ℕ
left ps i n = named n (flags false (whole_pairs (drop i ps)))

pub left_step : (ps : List ℕ) (i n : ℕ) → i + 1 < length ps →
    left ps i n ≡ falling (n - get_or ps i 0) (get_or ps (i + 1) 0) ++ left ps (i + 2) (n - get_or ps i 0 - get_or ps (i + 1) 0)
left_step ps i n h =
    ap (λ l. named n (flags false (whole_pairs l))) (at_pair ps i h)
    ∙ ap (λ l. named n (flags false l)) (whole_two (get_or ps i 0) (get_or ps (i + 1) 0) (drop (i + 2) ps))
    ∙ pair_named n (get_or ps i 0) (get_or ps (i + 1) 0) (whole_pairs (drop (i + 2) ps))

pub total_step : (ps : List ℕ) (i : ℕ) → i + 1 < length ps →
    run_sum (whole_pairs (drop i ps)) ≡ get_or ps i 0 + (get_or ps (i + 1) 0 + run_sum (whole_pairs (drop (i + 2) ps)))
unfolding run_sum
total_step ps i h =
    ap (λ l. run_sum (whole_pairs l)) (at_pair ps i h)
    ∙ ap run_sum (whole_two (get_or ps i 0) (get_or ps (i + 1) 0) (drop (i + 2) ps))

at_end : (ps : List ℕ) (i : ℕ) → length ps ≤ i + 1 → whole_pairs (drop i ps) ≡ []
at_end ps i h =
    let e : length (drop i ps) ≡ length ps - i = length-drop i ps in
    whole_short (drop i ps) (omega arith)

pub left_end : (ps : List ℕ) (i n : ℕ) → length ps ≤ i + 1 → left ps i n ≡ []
unfolding flags named
left_end ps i n h = ap (λ l. named n (flags false l)) (at_end ps i h)

pub total_end : (ps : List ℕ) (i : ℕ) → length ps ≤ i + 1 → run_sum (whole_pairs (drop i ps)) ≡ 0
unfolding run_sum
total_end ps i h = ap run_sum (at_end ps i h)

pub numbers_start : (through count : ℕ) (ps : List ℕ) →
    ack_numbers through count ps ≡ (through ∷ falling (through - 1) count) ++ left ps 0 (through - count - 1)
unfolding ack_numbers named flags
numbers_start through count ps =
    let e : through - 1 - count ≡ through - count - 1 = omega arith in
    ap (λ x. through ∷ x) (named_take (through - 1) count (flags false (whole_pairs ps)) ∙ rw e)

pub length_numbers : (through count : ℕ) (ps : List ℕ) →
    length (ack_numbers through count ps) ≡ 1 + count + length (left ps 0 (through - count - 1))
length_numbers through count ps =
    ap length (numbers_start through count ps)
    ∙ length-append (through ∷ falling (through - 1) count) (left ps 0 (through - count - 1))
    ∙ omega (arith, length_falling (through - 1) count)
