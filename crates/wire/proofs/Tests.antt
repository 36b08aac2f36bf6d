-- Laws of tests: what two of them say together, and of a number that is one of some. Assumes nothing.
use mathlib.Core.Path.{◌≡◌, refl, sym}
use mathlib.Core.Bool.{Bool, true, false, ◌&&◌, ◌||◌, false≢true}
use mathlib.Core.List.{List, [], ◌∷◌}
use mathlib.Core.Logic.{◌⊎◌, inl, inr}
use Prim.Native.Nat.{ℕ}
use lib.Dec.{eqb}
use borrow.Author.Tests.{eq-eqb}
use types.Run.{OneOf}

-- both hold where their conjunction does
pub and_both : (x y : Bool) → (x && y) ≡ true → (x ≡ true) × (y ≡ true)
and_both true y e = (refl, e)
and_both false y e = absurd (false≢true e)

-- one of them holds where their disjunction does
pub or_either : (x y : Bool) → (x || y) ≡ true → (x ≡ true) ⊎ (y ≡ true)
or_either true y e = inl refl
or_either false y e = inr e

-- neither holds where their disjunction does not
pub or_neither : (x y : Bool) → (x || y) ≡ false → (x ≡ false) × (y ≡ false)
or_neither true y e = absurd (false≢true (sym e))
or_neither false y e = (refl, e)

-- whether a number is one of some, as a test that computes
abbrev pub one_of : List ℕ → ℕ → Bool
one_of [] x = false
one_of (k ∷ ks) x = eqb x k || one_of ks x

pub one_of_lem : (k : ℕ) (ks : List ℕ) (x : ℕ) → OneOf (k ∷ ks) x → one_of (k ∷ ks) x ≡ true
one_of_lem k [] x e = rw (eq-eqb x k e) refl
one_of_lem k (j ∷ ks) x (inl e) = rw (eq-eqb x k e) refl
one_of_lem k (j ∷ ks) x (inr e) = or_last (eqb x k) (one_of_lem j ks x e)
  where
    or_last : (a : Bool) → one_of (j ∷ ks) x ≡ true → (a || one_of (j ∷ ks) x) ≡ true
    or_last true e = refl
    or_last false e = e
