-- Types whose body is tested by a rule of its own, and the others, which are plain. Assumes nothing.
use mathlib.Core.Path.{◌≡◌, refl, sym, ap, ◌∙◌, subst}
use mathlib.Core.Bool.{Bool, true, false, false≢true}
use mathlib.Core.List.{List, [], ◌∷◌}
use Prim.Native.Nat.{ℕ, ◌-◌}
use lib.Dec.{eqb}
use lib.ListN.{length}
use borrow.Author.Tests.{eqb-true}
use Rattle.wire.proofs.Tests.{one_of}
use Rattle.blocks.specs.Extent.{takes_bytes, plain_length, taken_at}

abbrev pub is_tested : ℕ → Bool
is_tested k = one_of (2 ∷ 3 ∷ 4 ∷ 5 ∷ 12 ∷ 13 ∷ []) k

-- what holds of each tested type, and of the others, holds of every type
pub by_test : (P : ℕ → Type 0) → P 2 → P 3 → P 4 → P 5 → P 12 → P 13 → ((k : ℕ) → is_tested k ≡ false → P k) → (k : ℕ) → P k
by_test P p2 p3 p4 p5 p12 p13 others k =
    is 2 p2 (eqb k 2) refl (λ a. is 3 p3 (eqb k 3) refl (λ b. is 4 p4 (eqb k 4) refl (λ c. is 5 p5 (eqb k 5) refl (λ d. is 12 p12 (eqb k 12) refl (λ e. is 13 p13 (eqb k 13) refl (λ f. others k (rw (a, b, c, d, e, f))))))))
  where
    is : (j : ℕ) → P j → (b : Bool) → eqb k j ≡ b → (eqb k j ≡ false → P k) → P k
    is j p true e q = subst P (sym (eqb-true k j e)) p
    is j p false e q = q e

-- the others are none of them
pub apart : (k j : ℕ) → is_tested k ≡ false → is_tested j ≡ true → eqb k j ≡ false
apart k j p q = go (eqb k j) refl
  where
    go : (b : Bool) → eqb k j ≡ b → b ≡ false
    go true e = absurd (false≢true (sym p ∙ ap is_tested (eqb-true k j e) ∙ q))
    go false e = refl

-- what the others take
pub plain_taken : (s : List ℕ) (o k z : ℕ) → is_tested k ≡ false → taken_at s o k z ≡ takes_bytes (plain_length k z) (length s - o)
unfolding taken_at
plain_taken s o k z p = rw (apart k 2 p refl, apart k 3 p refl, apart k 4 p refl, apart k 5 p refl, apart k 12 p refl, apart k 13 p refl)
