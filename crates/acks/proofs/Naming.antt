-- Whether an acknowledgement names a number, for a walk up its pairs. Assumes nothing.
use mathlib.Core.Path.{◌≡◌, refl, sym, ap, ◌∙◌}
use mathlib.Core.Bool.{Bool, true, false}
use mathlib.Core.List.{List, [], ◌∷◌, ◌++◌, append_assoc}
use mathlib.Core.Logic.{⊎_elim}
use Prim.Native.Nat.{ℕ, zero, suc, ◌+◌, ◌-◌, ◌%◌, ◌≤◌, ◌<◌}
use native.Mathlib.Omega.{arith}
use lib.Dec.{leb, ltb}
use lib.ListN.{length, take, drop, get_or, replicate, length-append, length-replicate, get_or-replicate, get_or-append, get_or-eq_default}
use lib.Seq.{length-take-le, take-add, get_or-append-add}
use borrow.Author.Tests.{eq-eqb, ne_eqb, lt-leb, le-leb, lt-ltb, le-ltb}
use Rattle.acks.specs.History.{among}
use Rattle.acks.specs.Runs.{flags, named, whole_pairs, run_sum}
use Rattle.acks.specs.Expanding.{ack_numbers}
use Rattle.acks.specs.Naming.{StandsAt, RunOf}
use Rattle.acks.proofs.Counting.{length_flags}
use Rattle.acks.proofs.Named.{whole_two, at_pair}
use Rattle.acks.proofs.Ring.{split}

-- ---- numbers that fall, each with a flag: one is named exactly if its flag is set
named_over : (n : ℕ) (l : List Bool) (x : ℕ) → n < x → among (named n l) x ≡ false
unfolding named among
named_over n [] x h = refl
named_over n (true ∷ l) x h = rw (ne_eqb x n (λ e. omega arith)) (named_over (n - 1) l x (omega arith))
named_over n (false ∷ l) x h = named_over (n - 1) l x (omega arith)

named_flag : (n : ℕ) (l : List Bool) (x : ℕ) → length l ≤ suc n → x ≤ n → among (named n l) x ≡ get_or l (n - x) false
unfolding named among
named_flag n [] x g h = refl
named_flag n (b ∷ l) x g h =
    ⊎_elim
    (λ (q : x < n).
    let e : n - x ≡ suc (n - 1 - x) = omega arith in
    rw e (later b q (named_flag (n - 1) l x (omega arith) (omega arith))))
    (λ (q : n ≤ x).
    let e : n - x ≡ 0 = omega arith in
    rw e (first b l g (omega arith)))
    (split x n)
  where
    later : (b : Bool) → x < n → among (named (n - 1) l) x ≡ get_or l (n - 1 - x) false → among (named n (b ∷ l)) x ≡ get_or l (n - 1 - x) false
    later true q more = rw (ne_eqb x n (λ e. omega arith)) more
    later false q more = more

    first : (b : Bool) (l : List Bool) → suc (length l) ≤ suc n → x ≡ n → among (named n (b ∷ l)) x ≡ b
    first true l g e = rw (eq-eqb x n e)
    first false [] g e = refl
    first false (c ∷ l) g e = named_over (n - 1) (c ∷ l) x (omega arith)

-- ---- pairs before a place and from there on
whole_after : (q : ℕ) (ps : List ℕ) → q % 2 ≡ 0 → q ≤ length ps → whole_pairs ps ≡ take q ps ++ whole_pairs (drop q ps)
whole_after zero ps e h = refl
whole_after (suc zero) ps e h = absurd (omega arith)
whole_after (suc (suc q)) [] e h = absurd (omega arith)
whole_after (suc (suc q)) (a ∷ []) e h = absurd (omega arith)
whole_after (suc (suc q)) (a ∷ (b ∷ ps)) e h =
    whole_two a b ps ∙ ap (λ l. a ∷ (b ∷ l)) (whole_after q ps (omega arith) (omega arith))

sum_append : (a b : List ℕ) → run_sum (a ++ b) ≡ run_sum a + run_sum b
unfolding run_sum
sum_append [] b = omega arith
sum_append (n ∷ a) b = omega (arith, sum_append a b)

flags_after : (a b : List ℕ) → length a % 2 ≡ 0 → flags false (a ++ b) ≡ flags false a ++ flags false b
unfolding flags
flags_after [] b e = refl
flags_after (x ∷ []) b e = absurd (omega arith)
flags_after (x ∷ (y ∷ a)) b e =
    ap (λ l. replicate x false ++ (replicate y true ++ l)) (flags_after a b (omega arith))
    ∙ ap (λ l. replicate x false ++ l) (sym (append_assoc (replicate y true) (flags false a) (flags false b)))
    ∙ sym (append_assoc (replicate x false) (replicate y true ++ flags false a) (flags false b))

module _ (ps : List ℕ) (q : ℕ) (even : q % 2 ≡ 0) (more : q + 1 < length ps) where
  whole_at_lem : whole_pairs ps ≡ take q ps ++ (get_or ps q 0 ∷ (get_or ps (q + 1) 0 ∷ whole_pairs (drop (q + 2) ps)))
  whole_at_lem =
      whole_after q ps even (omega arith)
      ∙ ap (λ l. take q ps ++ l) (ap whole_pairs (at_pair ps q more) ∙ whole_two (get_or ps q 0) (get_or ps (q + 1) 0) (drop (q + 2) ps))

  long : length (take q ps) ≡ q
  long = length-take-le q ps (omega arith)

  flags_at : flags false (whole_pairs ps)
      ≡ flags false (take q ps) ++ (replicate (get_or ps q 0) false ++ (replicate (get_or ps (q + 1) 0) true ++ flags false (whole_pairs (drop (q + 2) ps))))
  unfolding flags
  flags_at =
      ap (flags false) whole_at_lem
      ∙ flags_after (take q ps) (get_or ps q 0 ∷ (get_or ps (q + 1) 0 ∷ whole_pairs (drop (q + 2) ps))) (rw long even)

  sum_at : run_sum (take (q + 2) ps) ≡ run_sum (take q ps) + (get_or ps q 0 + get_or ps (q + 1) 0)
  unfolding run_sum
  sum_at =
      ap run_sum (take-add q 2 ps ∙ ap (λ l. take q ps ++ take 2 l) (at_pair ps q more))
      ∙ sum_append (take q ps) (get_or ps q 0 ∷ (get_or ps (q + 1) 0 ∷ []))
      ∙ omega arith

-- ---- flags of three runs
module _ (p : List Bool) (a b : ℕ) (r : List Bool) (k : ℕ) where
  in_first : length p ≤ k → k < length p + a → get_or (p ++ (replicate a false ++ (replicate b true ++ r))) k false ≡ false
  in_first h g =
      let e : k ≡ length p + (k - length p) = omega arith in
      ap (λ i. get_or (p ++ (replicate a false ++ (replicate b true ++ r))) i false) e
      ∙ get_or-append-add p (replicate a false ++ (replicate b true ++ r)) (k - length p) false
      ∙ get_or-append (replicate a false) (replicate b true ++ r) false (k - length p) (rw (length-replicate a false) (omega arith))
      ∙ get_or-replicate a (k - length p) false false (omega arith)

  in_second : length p + a ≤ k → k < length p + a + b → get_or (p ++ (replicate a false ++ (replicate b true ++ r))) k false ≡ true
  in_second h g =
      let e : k ≡ length p + (a + (k - length p - a)) = omega arith in
      ap (λ i. get_or (p ++ (replicate a false ++ (replicate b true ++ r))) i false) e
      ∙ get_or-append-add p (replicate a false ++ (replicate b true ++ r)) (a + (k - length p - a)) false
      ∙ ap (λ i. get_or (replicate a false ++ (replicate b true ++ r)) (i + (k - length p - a)) false) (sym (length-replicate a false))
      ∙ get_or-append-add (replicate a false) (replicate b true ++ r) (k - length p - a) false
      ∙ get_or-append (replicate b true) r false (k - length p - a) (rw (length-replicate b true) (omega arith))
      ∙ get_or-replicate b (k - length p - a) true false (omega arith)

-- ---- a walk over an acknowledgement whose numbers stay at 0 or above
-- it begins behind the last pair
pub stands_last : (through count : ℕ) (ps : List ℕ) (lowest : ℕ) → lowest + (count + run_sum (whole_pairs ps)) ≡ through
    → StandsAt through count ps (length ps - length ps % 2) lowest
unfolding whole_pairs
stands_last through count ps lowest e = (omega arith, omega arith, e)

-- and goes up over a pair
pub stands_up : (through count : ℕ) (ps : List ℕ) (p q low ack nack : ℕ) → StandsAt through count ps p low → p ≡ q + 2
    → nack ≡ get_or ps q 0 → ack ≡ get_or ps (q + 1) 0 → StandsAt through count ps q (low + ack + nack)
stands_up through count ps p q low ack nack s e n a =
    let even : q % 2 ≡ 0 = omega (arith, s.1) in
    let more : q + 1 < length ps = omega (arith, s.0) in
    let sum : run_sum (take p ps) ≡ run_sum (take q ps) + (get_or ps q 0 + get_or ps (q + 1) 0) = ap (λ i. run_sum (take i ps)) e ∙ sum_at ps q even more in
    (omega arith, even, omega (arith, s.2))

module _ (through count : ℕ) (ps : List ℕ) (within : count + run_sum (whole_pairs ps) ≤ through) (x : ℕ) where
  all_flags : x ≤ through → among (ack_numbers through count ps) x ≡ get_or (true ∷ (replicate count true ++ flags false (whole_pairs ps))) (through - x) false
  unfolding ack_numbers flags
  all_flags h =
      named_flag through (true ∷ (replicate count true ++ flags false (whole_pairs ps))) x
      (omega (arith, length-append (replicate count true) (flags false (whole_pairs ps)), length-replicate count true, length_flags false (whole_pairs ps))) h

  -- a number below the lowest is not named
  below_lowest : (lowest : ℕ) → lowest + (count + run_sum (whole_pairs ps)) ≡ through → x < lowest → false ≡ among (ack_numbers through count ps) x
  below_lowest lowest e h =
      sym
      (all_flags (omega arith)
      ∙ get_or-eq_default (true ∷ (replicate count true ++ flags false (whole_pairs ps))) false {n = through - x}
      (omega (arith, length-append (replicate count true) (flags false (whole_pairs ps)), length-replicate count true, length_flags false (whole_pairs ps))))

  -- above the pairs all numbers up to through are
  above_pairs : (p low : ℕ) → StandsAt through count ps p low → p ≤ 1 → low ≤ x → leb x through ≡ among (ack_numbers through count ps) x
  unfolding run_sum ack_numbers
  above_pairs p low s h g =
      ⊎_elim
      (λ (q : through < x).
      rw (lt-leb x through q) (sym (named_over through (true ∷ flags true (count ∷ whole_pairs ps)) x q)))
      (λ (q : x ≤ through).
      let z : p ≡ 0 = omega (arith, s.1) in
      let low-is : low + (count + 0) ≡ through = rw z at s.2 in
      rw (le-leb x through q)
      (sym
      (all_flags q
      ∙ get_or-append (replicate (suc count) true) (flags false (whole_pairs ps)) false (through - x) (rw (length-replicate (suc count) true) (omega arith))
      ∙ get_or-replicate (suc count) (through - x) true false (omega arith))))
      (split through x)

  -- of the numbers that a pair speaks of the ack lowest are named
  module _ (p q low ack nack : ℕ) (s : StandsAt through count ps p low) (e : p ≡ q + 2) (n : nack ≡ get_or ps q 0) (a : ack ≡ get_or ps (q + 1) 0) where
    front : List Bool
    front = true ∷ (replicate count true ++ flags false (take q ps))

    rest : List Bool
    rest = flags false (whole_pairs (drop (q + 2) ps))

    even : q % 2 ≡ 0
    even = omega (arith, s.1)

    more : q + 1 < length ps
    more = omega (arith, s.0)

    runs : true ∷ (replicate count true ++ flags false (whole_pairs ps)) ≡ front ++ (replicate nack false ++ (replicate ack true ++ rest))
    unfolding front rest
    runs =
        rw (n, a)
        (ap (λ l. true ∷ (replicate count true ++ l)) (flags_at ps q even more)
        ∙ ap (λ l. true ∷ l)
        (sym (append_assoc (replicate count true) (flags false (take q ps)) (replicate (get_or ps q 0) false ++ (replicate (get_or ps (q + 1) 0) true ++ rest)))))

    -- what stands before the pair
    ahead : low + (length front + (nack + ack)) ≡ suc through
    unfolding front
    ahead =
        let sum : run_sum (take p ps) ≡ run_sum (take q ps) + (get_or ps q 0 + get_or ps (q + 1) 0) = ap (λ i. run_sum (take i ps)) e ∙ sum_at ps q even more in
        let size : length (replicate count true ++ flags false (take q ps)) ≡ length (replicate count true) + length (flags false (take q ps)) = length-append (replicate count true) (flags false (take q ps)) in
        omega (arith, s.2, length-replicate count true, length_flags false (take q ps))

    flag_is : x ≤ through → among (ack_numbers through count ps) x ≡ get_or (front ++ (replicate nack false ++ (replicate ack true ++ rest))) (through - x) false
    flag_is h = all_flags h ∙ ap (λ l. get_or l (through - x) false) runs

    in_pair : low ≤ x → x - low < ack + nack → ltb (x - low) ack ≡ among (ack_numbers through count ps) x
    in_pair h g =
        let z : low + (length front + (nack + ack)) ≡ suc through = ahead in
        ⊎_elim
        (λ (y : x - low < ack).
        rw (lt-ltb (x - low) ack y) (sym (flag_is (omega arith) ∙ in_second front nack ack rest (through - x) (omega arith) (omega arith))))
        (λ (y : ack ≤ x - low).
        rw (le-ltb (x - low) ack y) (sym (flag_is (omega arith) ∙ in_first front nack ack rest (through - x) (omega arith) (omega arith))))
        (split (x - low) ack)

-- ---- the runs that such a walk finds
-- an empty one
pub run_none : (through count : ℕ) (ps : List ℕ) (named : Bool) → RunOf through count ps 1 0 named
run_none through count ps named y g h = absurd (omega arith)

module _ (through count : ℕ) (ps : List ℕ) (within : count + run_sum (whole_pairs ps) ≤ through) where
  -- the numbers below the lowest
  pub run_below : (lowest : ℕ) → lowest + (count + run_sum (whole_pairs ps)) ≡ through → 0 < lowest → RunOf through count ps 0 (lowest - 1) false
  run_below lowest e some y g h = sym (below_lowest through count ps within y lowest e (omega arith))

  -- those above the pairs, up to through
  pub run_above : (p low : ℕ) → StandsAt through count ps p low → p ≤ 1 → RunOf through count ps low through true
  run_above p low s few y g h = sym (above_pairs through count ps within y p low s few g) ∙ le-leb y through h

  -- and those above through
  pub run_past : (last : ℕ) → RunOf through count ps (through + 1) last false
  unfolding ack_numbers
  run_past last y g h = named_over through (true ∷ flags true (count ∷ whole_pairs ps)) y (omega arith)

  -- the two of a pair
  module _ (p q low ack nack : ℕ) (s : StandsAt through count ps p low) (e : p ≡ q + 2) (n : nack ≡ get_or ps q 0) (a : ack ≡ get_or ps (q + 1) 0) where
    pub run_named : 0 < ack → RunOf through count ps low (low + ack - 1) true
    run_named some y g h =
        sym (in_pair through count ps within y p q low ack nack s e n a g (omega arith)) ∙ lt-ltb (y - low) ack (omega arith)

    pub run_skipped : 0 < nack → RunOf through count ps (low + ack) (low + ack + nack - 1) false
    run_skipped some y g h =
        sym (in_pair through count ps within y p q low ack nack s e n a (omega arith) (omega arith)) ∙ le-ltb (y - low) ack (omega arith)

    -- their numbers stay below through
    pub pair_below : low + ack + nack ≤ through
    pair_below = omega (arith, (stands_up through count ps p q low ack nack s e n a).2)
