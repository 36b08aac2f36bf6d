-- What a search that goes up finds, as std's `find` tells it. Assumes nothing.
use Rattle.std.specs.Prelude.{MatchOption, unwrap_or, Option, None, Some}
use mathlib.Core.Path.{◌≡◌, sym, ap, ◌∙◌}
use mathlib.Core.Bool.{Bool, true, false}
use Prim.Native.Nat.{ℕ, zero, suc, ◌+◌, ◌≤◌, ◌<◌}
use native.Mathlib.Decide.{ℕ_discrete}
use native.Mathlib.Omega.{arith}
use Rattle.reassembly.specs.Slots.{first_from}

first_missed : (p : ℕ → Bool) (i n e : ℕ) → i + n ≡ e → ((k : ℕ) → i ≤ k → k < e → p k ≡ false) → e ≡ first_from p i n
unfolding first_from
first_missed p i zero e q f = omega arith
first_missed p i (suc n) e q f = rw (f i (omega arith) (omega arith)) (first_missed p (i + 1) n e (omega arith) (λ k a b. f k (omega arith) b))

first_hit : (p : ℕ → Bool) (i n j : ℕ) → i ≤ j → j < i + n → p j ≡ true → ((k : ℕ) → i ≤ k → k < j → p k ≡ false) → j ≡ first_from p i n
unfolding first_from
first_hit p i zero j a b t f = absurd (omega arith)
first_hit p i (suc n) j a b t f = go (ℕ_discrete i j) (λ h. first_hit p (i + 1) n j h (omega arith) t (λ k x y. f k (omega arith) y))
  where
    go : Dec (i ≡ j) → (i + 1 ≤ j → j ≡ first_from p (i + 1) n) → j ≡ first_from p i (suc n)
    go (yes e) ih = rw (ap p e ∙ t) (sym e)
    go (no e) ih = rw (f i (omega arith) (omega arith)) (ih (omega arith))

pub first_is : (p : ℕ → Bool) (n : ℕ) (r : Option ℕ)
    → MatchOption r ((k : ℕ) → 0 ≤ k → k < n → p k ≡ false) (λ i. (0 ≤ i) × (i < n) × (p i ≡ true) × ((k : ℕ) → 0 ≤ k → k < i → p k ≡ false))
    → unwrap_or r n ≡ first_from p 0 n
first_is p n None f = first_missed p 0 n n (omega arith) f
first_is p n (Some i) h = first_hit p 0 n i h.0 (omega arith) h.2 h.3
