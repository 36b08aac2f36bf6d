-- Laws of lists that are the same. Assumes nothing.
use mathlib.Core.Path.{◌≡◌, refl, sym, ap, ◌∙◌}
use mathlib.Core.Bool.{Bool, true, false, ◌&&◌, false≢true, and-true, and-false, and_assoc}
use mathlib.Core.List.{List, [], ◌∷◌}
use Prim.Native.Nat.{ℕ, zero, suc, ◌+◌, ◌≤◌, ◌<◌}
use native.Mathlib.Omega.{arith}
use native.Mathlib.Numerals.{add-one}
use lib.Dec.{eqb}
use lib.ListN.{length, take, get_or}
use lib.Seq.{take_all}
use borrow.Author.Tests.{eqb-true, eq-eqb}
use Rattle.wire.specs.Parts.{same}
use Rattle.wire.proofs.Tests.{and_both}

-- one element more
pub same_more : (a b : List ℕ) (i : ℕ) → i < length a → i < length b → (same (take i a) (take i b) && eqb (get_or a i 0) (get_or b i 0)) ≡ same (take (i + 1) a) (take (i + 1) b)
unfolding same
same_more a b i ha hb = rw add-one (sym (more a b i ha hb))
  where
    more : (a b : List ℕ) (i : ℕ) → i < length a → i < length b → same (take (suc i) a) (take (suc i) b) ≡ (same (take i a) (take i b) && eqb (get_or a i 0) (get_or b i 0))
    more [] b i ha hb = absurd (omega arith)
    more (x ∷ xs) [] i ha hb = absurd (omega arith)
    more (x ∷ xs) (y ∷ ys) zero ha hb = and-true (eqb x y)
    more (x ∷ xs) (y ∷ ys) (suc i) ha hb =
        ap (λ (z : Bool). eqb x y && z) (more xs ys i (omega arith) (omega arith))
        ∙ sym (and_assoc (eqb x y) (same (take i xs) (take i ys)) (eqb (get_or xs i 0) (get_or ys i 0)))

-- the same in a loop that takes a pair of elements a turn
pub same_next : (a b : List ℕ) (i n x y : ℕ) (ok : Bool) → ok ≡ same (take i a) (take i b) → (i < length a) × (i < length b) × ((d : ℕ) → x ≡ get_or a i d) × ((d : ℕ) → y ≡ get_or b i d) → n ≡ i + 1 → (ok && eqb x y) ≡ same (take n a) (take n b)
same_next a b i n x y ok h t e =
    let p : x ≡ get_or a i 0 = t.2 0 in
    let q : y ≡ get_or b i 0 = t.3 0 in
    rw (h, p, q, e) (same_more a b i t.0 t.1)

pub same_taken : (a b : List ℕ) (n : ℕ) → length a ≤ n → length b ≤ n → same (take n a) (take n b) ≡ same a b
same_taken a b n ha hb = rw (take_all n a ha, take_all n b hb)

-- lists of other lengths are not the same
pub same_apart : (a b : List ℕ) → (length a ≡ length b → ⊥) → same a b ≡ false
unfolding same
same_apart [] [] h = absurd (h refl)
same_apart [] (y ∷ ys) h = refl
same_apart (x ∷ xs) [] h = refl
same_apart (x ∷ xs) (y ∷ ys) h = ap (λ (z : Bool). eqb x y && z) (same_apart xs ys (λ e. h (ap suc e))) ∙ and-false (eqb x y)

-- the same: equal
pub same_eq : (a b : List ℕ) → same a b ≡ true → a ≡ b
unfolding same
same_eq [] [] h = refl
same_eq [] (y ∷ ys) h = absurd (false≢true h)
same_eq (x ∷ xs) [] h = absurd (false≢true h)
same_eq (x ∷ xs) (y ∷ ys) h =
    let p = and_both (eqb x y) (same xs ys) h in
    let e : x ≡ y = eqb-true x y p.0 in
    let r : xs ≡ ys = same_eq xs ys p.1 in
    cc

-- equal: the same
pub eq_same : (a : List ℕ) → same a a ≡ true
unfolding same
eq_same [] = refl
eq_same (x ∷ xs) = rw (eq-eqb x x refl) (eq_same xs)
