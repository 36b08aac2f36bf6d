-- Laws of a series of values. Assumes nothing.
use mathlib.Core.Path.{◌≡◌, refl, sym, ap, ◌∙◌}
use mathlib.Core.Logic.{◌≢◌}
use mathlib.Core.List.{List, [], ◌∷◌, ◌++◌}
use Prim.Native.Nat.{ℕ, zero, suc, ◌+◌, ◌<◌}
use native.Mathlib.Nat.{not-suc-le-zero, le_of_suc-le-suc}
use native.Mathlib.Omega.{arith}
use native.Mathlib.Decide.{ℕ_discrete}
use lib.ListN.{drop, length, get_or, set, length-set}
use lib.Seq.{get_or-set_same, get_or-set_other, ext_get_or}
use Rattle.wire.specs.Series.{series}

module _ {A : Type 0} where
  pub length_series : (f : ℕ → A) (i n : ℕ) → length (series f i n) ≡ n
  length_series f i zero = refl
  length_series f i (suc n) = ap suc (length_series f (i + 1) n)

  at_series : (f : ℕ → A) (i n k : ℕ) (d : A) → k < n → get_or (series f i n) k d ≡ f (i + k)
  at_series f i zero k d h = absurd (not-suc-le-zero h)
  at_series f i (suc n) zero d h = let e : i ≡ i + 0 = omega arith in ap f e
  at_series f i (suc n) (suc k) d h = let e : i + 1 + k ≡ i + suc k = omega arith in at_series f (i + 1) n k d (le_of_suc-le-suc h) ∙ ap f e

  pub get_d_series : (f : ℕ → A) (n k : ℕ) (d : A) → k < n → get_or (series f 0 n) k d ≡ f k
  get_d_series f n k d h = let e : 0 + k ≡ k = omega arith in at_series f 0 n k d h ∙ ap f e

  -- series that agree are equal
  pub series_same : (f g : ℕ → A) (n : ℕ) (d : A) → ((k : ℕ) → k < n → f k ≡ g k) → series f 0 n ≡ series g 0 n
  series_same f g n d h =
      ext_get_or d (series f 0 n) (series g 0 n) (length_series f 0 n ∙ sym (length_series g 0 n))
      (λ k kl. let b : k < n = rw (length_series f 0 n) at kl in get_d_series f n k d b ∙ h k b ∙ sym (get_d_series g n k d b))

  -- series that agree but at k
  pub series_set : (f g : ℕ → A) (n k : ℕ) (x d : A) → k < n → g k ≡ x → ((j : ℕ) → j < n → j ≢ k → g j ≡ f j) → series g 0 n ≡ set (series f 0 n) k x
  series_set f g n k x d h e o =
      ext_get_or d (series g 0 n) (set (series f 0 n) k x)
      (length_series g 0 n ∙ sym (length-set (series f 0 n) k x ∙ length_series f 0 n))
      (λ i il. go i (rw (length_series g 0 n) at il) (ℕ_discrete i k))
    where
      go : (i : ℕ) → i < n → Dec (i ≡ k) → get_or (series g 0 n) i d ≡ get_or (set (series f 0 n) k x) i d
      go i il (yes q) = rw q (get_d_series g n k d h ∙ (e ∙ sym (get_or-set_same (series f 0 n) k x d (rw (length_series f 0 n) h))))
      go i il (no q) = get_d_series g n i d il ∙ (o i il q ∙ sym (get_or-set_other (series f 0 n) k i x d q ∙ get_d_series f n i d il))

  -- a series in two; one more at the end, one less at the start
  pub series_add : (f : ℕ → A) (i m n : ℕ) → series f i (m + n) ≡ series f i m ++ series f (i + m) n
  series_add f i zero n =
      let e : 0 + n ≡ n = omega arith in
      let z : i ≡ i + 0 = omega arith in
      ap (series f i) e ∙ ap (λ (k : ℕ). series f k n) z
  series_add f i (suc m) n =
      let e : suc m + n ≡ suc (m + n) = omega arith in
      let z : i + 1 + m ≡ i + suc m = omega arith in
      ap (series f i) e ∙ ap (λ (l : List A). f i ∷ l) (series_add f (i + 1) m n ∙ ap (λ (k : ℕ). series f (i + 1) m ++ series f k n) z)

  pub series_more : (f : ℕ → A) (n : ℕ) → series f 0 (n + 1) ≡ series f 0 n ++ (f n ∷ [])
  series_more f n = let z : 0 + n ≡ n = omega arith in series_add f 0 n 1 ∙ ap (λ (k : ℕ). series f 0 n ++ (f k ∷ [])) z

  series_up : (f : ℕ → A) (i n : ℕ) → series (λ (k : ℕ). f (k + 1)) i n ≡ series f (i + 1) n
  series_up f i zero = refl
  series_up f i (suc n) = ap (λ (z : List A). f (i + 1) ∷ z) (series_up f (i + 1) n)

  pub series_less : (f : ℕ → A) (n : ℕ) → drop 1 (series f 0 (n + 1)) ≡ series (λ (k : ℕ). f (k + 1)) 0 n
  series_less f n =
      let e : n + 1 ≡ suc n = omega arith in
      ap (λ (k : ℕ). drop 1 (series f 0 k)) e ∙ sym (series_up f 0 n)
