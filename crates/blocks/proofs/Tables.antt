-- A rule that holds of every number below a limit, by one computation. Assumes nothing.
use mathlib.Core.Path.{◌≡◌, refl, subst}
use mathlib.Core.Bool.{Bool, true, false, ◌&&◌}
use Prim.Native.Nat.{ℕ, zero, suc, ◌<◌}
use native.Mathlib.Omega.{arith}
use lib.Dec.{eqb}
use borrow.Author.Tests.{eqb-true, eqb-false}
use Rattle.wire.proofs.Tests.{and_both}

abbrev pub below : (ℕ → Bool) → ℕ → Bool
below rule zero = true
below rule (suc n) = rule n && below rule n

pub at : (rule : ℕ → Bool) (n : ℕ) → below rule n ≡ true → (k : ℕ) → k < n → rule k ≡ true
at rule zero e k h = absurd (omega arith)
at rule (suc n) e k h = go (λ g. at rule n (and_both (rule n) (below rule n) e).1 k g) (eqb n k) refl
  where
    go : (k < n → rule k ≡ true) → (b : Bool) → eqb n k ≡ b → rule k ≡ true
    go less true q = subst (λ (j : ℕ). rule j ≡ true) (eqb-true n k q) (and_both (rule n) (below rule n) e).0
    go less false q = let d = eqb-false n k q in less (omega (arith, d))
