-- Laws of the ring of marks: a mark that was set or unset, and the others. Assumes nothing.
use mathlib.Core.Path.{◌≡◌, refl, sym, ap, ◌∙◌}
use mathlib.Core.Bool.{Bool, true, false, not}
use mathlib.Core.List.{List}
use mathlib.Core.Logic.{⊎_elim, ◌⊎◌, inl, inr}
use Prim.Native.Nat.{ℕ, zero, suc, ◌+◌, ◌%◌, ◌≤◌, ◌<◌}
use native.Mathlib.Omega.{arith}
use native.Mathlib.Numerals.{add-one}
use lib.Dec.{ltb, eqb}
use lib.ListN.{set, length, length-set}
use lib.Seq.{get_or-set_same, get_or-set_other}
use borrow.Author.Tests.{ltb-true, ltb-false}
use Rattle.acks.specs.Tracking.{mark, clear_up}

pub split : (a b : ℕ) → (a < b) ⊎ (b ≤ a)
split a b = go (ltb a b) refl
  where
    go : (t : Bool) → ltb a b ≡ t → (a < b) ⊎ (b ≤ a)
    go true e = inl (ltb-true a b e)
    go false e = inr (ltb-false a b e)

pub length_clear : (m : List ℕ) (a d : ℕ) → length (clear_up m a d) ≡ length m
unfolding clear_up
length_clear m a zero = refl
length_clear m a (suc d) = length-set (clear_up m a d) ((a + d) % 255) 0 ∙ length_clear m a d

-- one more number unset
pub clear_more : (m : List ℕ) (a d : ℕ) → clear_up m a (d + 1) ≡ set (clear_up m a d) ((a + d) % 255) 0
unfolding clear_up
clear_more m a d = rw (add-one d)

pub mod_in : (x n : ℕ) → n ≡ 255 → x % 255 < n
mod_in x n e = omega arith

-- a mark that was just set
pub mark_same : (m : List ℕ) (x v : ℕ) → length m ≡ 255 → mark (set m (x % 255) v) x ≡ not (eqb v 0)
unfolding mark
mark_same m x v e = ap (λ y. not (eqb y 0)) (get_or-set_same m (x % 255) v 0 (mod_in x (length m) e))

-- and one that was not touched: numbers less than 255 apart have marks of their own
apart : (x y : ℕ) → x < y → y < x + 255 → (x % 255 ≡ y % 255) → ⊥
apart x y h g e = omega arith

pub mark_above : (m : List ℕ) (x y v : ℕ) → x < y → y < x + 255 → mark (set m (x % 255) v) y ≡ mark m y
unfolding mark
mark_above m x y v h g = ap (λ z. not (eqb z 0)) (get_or-set_other m (x % 255) (y % 255) v 0 (λ e. apart x y h g (sym e)))

pub mark_below : (m : List ℕ) (x y v : ℕ) → y < x → x < y + 255 → mark (set m (x % 255) v) y ≡ mark m y
unfolding mark
mark_below m x y v h g = ap (λ z. not (eqb z 0)) (get_or-set_other m (x % 255) (y % 255) v 0 (λ e. apart y x h g e))

-- clearing d numbers from a upward leaves the marks of the numbers below a that are less than 255 below the last
pub clear_below : (m : List ℕ) (a d k : ℕ) → k < a → a + d ≤ k + 255 → mark (clear_up m a d) k ≡ mark m k
unfolding clear_up
clear_below m a zero k h g = refl
clear_below m a (suc d) k h g =
    mark_below (clear_up m a d) (a + d) k 0 (omega arith) (omega arith) ∙ clear_below m a d k h (omega arith)

-- and unsets theirs
pub clear_in : (m : List ℕ) (a d k : ℕ) → length m ≡ 255 → d ≤ 255 → a ≤ k → k < a + d → mark (clear_up m a d) k ≡ false
unfolding clear_up
clear_in m a zero k e g h l = absurd (omega arith)
clear_in m a (suc d) k e g h l =
    ⊎_elim
    (λ lt. mark_below (clear_up m a d) (a + d) k 0 lt (omega arith) ∙ clear_in m a d k e (omega arith) h lt)
    (λ le. go (omega arith))
    (split k (a + d))
  where
    go : k ≡ a + d → mark (set (clear_up m a d) ((a + d) % 255) 0) k ≡ false
    go q = rw q (mark_same (clear_up m a d) (a + d) 0 (length_clear m a d ∙ e))
