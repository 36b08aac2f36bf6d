-- Laws of fields of decimal digits: a turn of the loop that reads them, and its end. Assumes nothing.
use mathlib.Core.Path.{◌≡◌}
use mathlib.Core.Bool.{◌&&◌, and-false}
use mathlib.Core.List.{List, [], ◌∷◌}
use Prim.Native.Nat.{ℕ, suc, ◌+◌, ◌*◌, ◌^◌, ◌≤◌, ◌<◌}
use native.Mathlib.Omega.{arith}
use native.Mathlib.Numerals.{add-one}
use lib.Dec.{ltb}
use lib.ListN.{length, get_or, drop, drop_of_length-le}
use lib.Seq.{drop-cons}
use borrow.Author.Tests.{lt-ltb, le-ltb, eq-eqb, ne_eqb}
use Rattle.std.specs.Prelude.{Some, None}
use Rattle.lines.specs.Digits.{digit_of, decimals, value_from, number_from, decimal_of}

-- more digits make no smaller number
value_grows : (l : List ℕ) (x : ℕ) → x ≤ value_from x l
unfolding value_from
value_grows [] x = omega arith
value_grows (b ∷ bs) x = omega (arith, value_grows bs (x * 10 + digit_of b))

module _ (l : List ℕ) (i x : ℕ) where
  -- what is no decimal digit
  pub number_refused : i < length l → 9 < digit_of (get_or l i 0) → None ≡ number_from x (drop i l)
  unfolding number_from decimals
  number_refused h g = rw (drop-cons l i 0 h, le-ltb (digit_of (get_or l i 0)) 10 g)

  -- a number that is too large
  pub number_large : i < length l → 2 ^ 64 ≤ x * 10 + digit_of (get_or l i 0) → None ≡ number_from x (drop i l)
  unfolding number_from decimals value_from
  number_large h g =
      let d : ℕ = digit_of (get_or l i 0) in
      let r : List ℕ = drop (suc i) l in
      rw (drop-cons l i 0 h, le-ltb (value_from (x * 10 + d) r) (2 ^ 64) (omega (arith, value_grows r (x * 10 + d))), and-false (ltb d 10 && decimals r))

  -- one digit more
  pub number_goes : i < length l → digit_of (get_or l i 0) ≤ 9 → number_from x (drop i l) ≡ number_from (x * 10 + digit_of (get_or l i 0)) (drop (i + 1) l)
  unfolding number_from decimals value_from
  number_goes h g = rw (add-one i, drop-cons l i 0 h, lt-ltb (digit_of (get_or l i 0)) 10 (omega arith))

  -- no digit is left
  pub number_end : length l ≤ i → x < 2 ^ 64 → Some x ≡ number_from x (drop i l)
  unfolding number_from decimals value_from
  number_end h g = rw (drop_of_length-le l {i = i} h, lt-ltb x (2 ^ 64) g)

module _ (l : List ℕ) where
  pub number_none : length l ≡ 0 → None ≡ decimal_of l
  unfolding decimal_of
  number_none h = rw (eq-eqb (length l) 0 h)

  pub number_some : (length l ≡ 0 → ⊥) → decimal_of l ≡ number_from 0 l
  unfolding decimal_of
  number_some h = rw (ne_eqb (length l) 0 h)
