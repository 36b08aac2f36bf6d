-- Laws of numbers that fall, and of those of them that a test takes. Assumes nothing.
use mathlib.Core.Path.{◌≡◌, refl, ap, ◌∙◌}
use mathlib.Core.Bool.{Bool, true, false, cond}
use mathlib.Core.List.{List, [], ◌∷◌, ◌++◌, map}
use Prim.Native.Nat.{ℕ, zero, suc, ◌+◌, ◌-◌, ◌≤◌, ◌<◌, min}
use native.Mathlib.Omega.{arith}
use lib.ListN.{length, drop}
use Rattle.acks.specs.Window.{falling, window, keep}
use Rattle.acks.specs.Runs.{named}

pub length_falling : (n k : ℕ) → length (falling n k) ≡ k
unfolding falling
length_falling n zero = refl
length_falling n (suc k) = ap suc (length_falling (n - 1) k)

pub drop_falling : (j n k : ℕ) → drop j (falling n k) ≡ falling (n - j) (k - j)
unfolding falling
drop_falling zero n k =
    let e : n - 0 ≡ n = omega arith in
    let f : k - 0 ≡ k = omega arith in
    rw (e, f)
drop_falling (suc j) n zero =
    let f : 0 - suc j ≡ 0 = omega arith in
    rw f
drop_falling (suc j) n (suc k) =
    let e : n - 1 - j ≡ n - suc j = omega arith in
    let f : k - j ≡ suc k - suc j = omega arith in
    drop_falling j (n - 1) k ∙ rw (e, f)

-- the numbers named by what a test says of falling numbers are those that the test takes
pub named_keep : (p : ℕ → Bool) (n k : ℕ) → named n (map p (falling n k)) ≡ keep p (falling n k)
unfolding named falling keep
named_keep p n zero = refl
named_keep p n (suc k) = go (p n) (named_keep p (n - 1) k)
  where
    go :
        (b : Bool) → named (n - 1) (map p (falling (n - 1) k)) ≡ keep p (falling (n - 1) k)
        → named n (b ∷ map p (falling (n - 1) k)) ≡ cond b (n ∷ keep p (falling (n - 1) k)) (keep p (falling (n - 1) k))
    go true e = ap (λ l. n ∷ l) e
    go false e = e

pub falling_append : (n a b : ℕ) → falling n (a + b) ≡ falling n a ++ falling (n - a) b
unfolding falling
falling_append n zero b =
    let e : 0 + b ≡ b = omega arith in
    let f : n - 0 ≡ n = omega arith in
    rw (e, f)
falling_append n (suc a) b =
    let e : suc a + b ≡ suc (a + b) = omega arith in
    let f : n - suc a ≡ n - 1 - a = omega arith in
    rw (e, f) (ap (λ l. n ∷ l) (falling_append (n - 1) a b))

-- two tests that agree on falling numbers
pub map_falling : (f g : ℕ → Bool) (n k : ℕ) → ((x : ℕ) → x ≤ n → n < x + k → f x ≡ g x) → map f (falling n k) ≡ map g (falling n k)
unfolding falling
map_falling f g n zero e = refl
map_falling f g n (suc k) e =
    rw (e n (omega arith) (omega arith))
    (ap (λ l. g n ∷ l) (map_falling f g (n - 1) k (λ x le lt. e x (omega arith) (omega arith))))

pub window_size : (top : ℕ) → length (window top) ≡ suc (min top 254)
unfolding window
window_size top = length_falling top (suc (min top 254))

pub length_keep : (f : ℕ → Bool) (l : List ℕ) → length (keep f l) ≤ length l
unfolding keep
length_keep f [] = omega arith
length_keep f (n ∷ l) = go (f n) (length_keep f l)
  where
    go : (b : Bool) → length (keep f l) ≤ length l → length (cond b (n ∷ keep f l) (keep f l)) ≤ suc (length l)
    go true e = omega arith
    go false e = omega arith
