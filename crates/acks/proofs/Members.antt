-- Laws of the numbers that are among some: those of two lists, the highest of them, and how many a test leaves. Assumes nothing.
use mathlib.Core.Path.{◌≡◌, refl, sym, ap, ◌∙◌}
use mathlib.Core.Bool.{Bool, true, false, cond, ◌||◌, or_assoc, false≢true}
use mathlib.Core.List.{List, [], ◌∷◌, ◌++◌}
use Prim.Native.Nat.{ℕ, suc, ◌≤◌, ◌<◌, max}
use native.Mathlib.Omega.{arith}
use lib.Dec.{eqb}
use lib.ListN.{length}
use borrow.Author.Tests.{eqb-true}
use Rattle.acks.specs.Window.{keep}
use Rattle.acks.specs.History.{highest_of, among}
use Rattle.acks.proofs.Falling.{length_keep}

pub among_append : (l m : List ℕ) (n : ℕ) → among (l ++ m) n ≡ (among l n || among m n)
unfolding among
among_append [] m n = refl
among_append (k ∷ l) m n = ap (λ b. eqb n k || b) (among_append l m n) ∙ sym (or_assoc (eqb n k) (among l n) (among m n))

pub highest_append : (l : List ℕ) (m : ℕ) → highest_of (l ++ (m ∷ [])) ≡ max (highest_of l) m
unfolding highest_of
highest_append [] m = omega arith
highest_append (k ∷ l) m = let e = highest_append l m in omega arith

pub below_highest : (l : List ℕ) (n : ℕ) → among l n ≡ true → n ≤ highest_of l
unfolding among highest_of
below_highest [] n h = absurd (false≢true h)
below_highest (k ∷ l) n h = go (eqb n k) refl (below_highest l n) h
  where
    go : (b : Bool) → eqb n k ≡ b → (among l n ≡ true → n ≤ highest_of l) → (b || among l n) ≡ true → n ≤ max k (highest_of l)
    go true e more h = let q = eqb-true n k e in omega arith
    go false e more h = let q = more h in omega arith

-- fewer are left where a test does not take one of them
pub fewer_kept : (p : ℕ → Bool) (l : List ℕ) (n : ℕ) → among l n ≡ true → p n ≡ false → length (keep p l) < length l
unfolding among keep
fewer_kept p [] n h e = absurd (false≢true h)
fewer_kept p (k ∷ l) n h e = go (eqb n k) refl (p k) refl (fewer_kept p l n) h
  where
    go :
        (a : Bool) → eqb n k ≡ a → (b : Bool) → p k ≡ b → (among l n ≡ true → p n ≡ false → length (keep p l) < length l)
        → (a || among l n) ≡ true → length (cond b (k ∷ keep p l) (keep p l)) < suc (length l)
    go a f false g more h = let q = length_keep p l in omega arith
    go true f true g more h = absurd (false≢true (sym e ∙ ap p (eqb-true n k f) ∙ g))
    go false f true g more h = let q = more h e in omega arith
