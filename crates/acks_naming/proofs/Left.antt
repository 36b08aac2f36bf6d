-- The pairs that a walk has left, and the last of them. Assumes nothing.
use Rattle.std.proofs.Common.{◌≡◌, true, false, ℕ, ◌+◌, ◌-◌, ◌<◌, ◌≤◌, List, length, get_or, take, drop, sym, ap, ◌∙◌, arith}
use Rattle.std.proofs.lemmas.List.{get_or-take, get_or-drop, length-take-le, take-take}
use Rattle.acks.specs.Runs.{whole_pairs, run_sum}
use Rattle.acks.specs.Naming.{StandsAt, RunOf}
use Rattle.acks.proofs.Naming.{stands_up, pair_below, run_named, run_skipped}

-- it begins with all whole pairs
pub all_left : (n : ℕ) (ps : List ℕ) → n ≤ length ps → take n ps ≡ take (length (take n ps)) ps
all_left n ps h = ap (λ (i : ℕ). take i ps) (sym (length-take-le n ps h))

-- over the last pair: where the walk stands then, and the two runs of that pair
pub record LastPair (through count : ℕ) (ps before : List ℕ) (low ack nack : ℕ) : Type 0 where
  pub front : before ≡ take (length before) ps
  pub stands : StandsAt through count ps (length before) (low + ack + nack)
  pub below : low + ack + nack ≤ through
  pub named : 0 < ack → RunOf through count ps low (low + ack - 1) true
  pub skipped : 0 < nack → RunOf through count ps (low + ack) (low + ack + nack - 1) false

module _ (through count lowest : ℕ) (ps : List ℕ) (ends : lowest + (count + run_sum (whole_pairs ps)) ≡ through) (left : List ℕ) (low : ℕ)
    (front : left ≡ take (length left) ps) (stands : StandsAt through count ps (length left) low) (before pair : List ℕ)
    (b : before ≡ take (length left - 2) left) (p : pair ≡ drop (length left - 2) left) (n : length before + 2 ≡ length left) where
  at : length left - 2 ≡ length before
  at = omega arith

  of_pair : (i : ℕ) → i < 2 → get_or pair i 0 ≡ get_or ps (length before + i) 0
  of_pair i h =
      ap (λ (l : List ℕ). get_or l i 0) p
      ∙ ap (λ (k : ℕ). get_or (drop k left) i 0) at
      ∙ get_or-drop (length before) left i 0
      ∙ ap (λ (l : List ℕ). get_or l (length before + i) 0) front
      ∙ get_or-take (length left) ps (length before + i) 0 (omega arith)

  pub last_pair : (nack ack : ℕ) → nack ≡ get_or pair 0 0 → ack ≡ get_or pair 1 0 → LastPair through count ps before low ack nack
  last_pair nack ack e f =
      let z : length before + 0 ≡ length before = omega arith in
      let m : length left ≡ length before + 2 = omega arith in
      let x : nack ≡ get_or ps (length before) 0 = e ∙ of_pair 0 (omega arith) ∙ ap (λ (k : ℕ). get_or ps k 0) z in
      let y : ack ≡ get_or ps (length before + 1) 0 = f ∙ of_pair 1 (omega arith) in
      let within : count + run_sum (whole_pairs ps) ≤ through = omega arith in
      record {
        front = b ∙ ap (λ (i : ℕ). take i left) at ∙ ap (take (length before)) front ∙ take-take (length before) (length left) ps (omega arith);
        stands = stands_up through count ps (length left) (length before) low ack nack stands m x y;
        below = pair_below through count ps within (length left) (length before) low ack nack stands m x y;
        named = run_named through count ps within (length left) (length before) low ack nack stands m x y;
        skipped = run_skipped through count ps within (length left) (length before) low ack nack stands m x y;
      }
