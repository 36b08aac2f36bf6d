-- Laws of marks and of counting. Assumes nothing.
use mathlib.Core.Path.{◌≡◌, refl, sym, ap}
use mathlib.Core.Bool.{Bool, true, false, cond, true≢false, false≢true}
use mathlib.Core.List.{List, [], ◌∷◌}
use Prim.Native.Nat.{ℕ, zero, suc, ◌+◌, ◌≤◌, ◌<◌}
use native.Mathlib.Nat.{not-suc-le-zero, le_of_suc-le-suc}
use native.Mathlib.Omega.{arith}
use lib.ListN.{length, get_or, take, set, replicate}
use Rattle.reassembly.specs.Store.{is_held, all_held}
use Rattle.promises.specs.Demand3.{any_mark, all_marks, count}

-- marks
pub all_at : (bs : List Bool) (i : ℕ) → all_marks bs ≡ true → i < length bs → get_or bs i false ≡ true
all_at [] i e h = absurd (not-suc-le-zero h)
all_at (true ∷ bs) zero e h = refl
all_at (true ∷ bs) (suc i) e h = all_at bs i e (le_of_suc-le-suc h)
all_at (false ∷ bs) i e h = absurd (false≢true e)

pub not_all_at : (bs : List Bool) (i : ℕ) → get_or bs i false ≡ false → i < length bs → all_marks bs ≡ false
not_all_at [] i e h = absurd (not-suc-le-zero h)
not_all_at (true ∷ bs) zero e h = absurd (true≢false e)
not_all_at (true ∷ bs) (suc i) e h = not_all_at bs i e (le_of_suc-le-suc h)
not_all_at (false ∷ bs) i e h = refl

pub none_at : (bs : List Bool) (i : ℕ) → any_mark bs ≡ false → get_or bs i false ≡ false
none_at [] i e = refl
none_at (true ∷ bs) i e = absurd (true≢false e)
none_at (false ∷ bs) zero e = refl
none_at (false ∷ bs) (suc i) e = none_at bs i e

pub any_set : (bs : List Bool) (i : ℕ) → i < length bs → any_mark (set bs i true) ≡ true
any_set [] i h = absurd (not-suc-le-zero h)
any_set (b ∷ bs) zero h = refl
any_set (true ∷ bs) (suc i) h = refl
any_set (false ∷ bs) (suc i) h = any_set bs i (le_of_suc-le-suc h)

-- setting a mark that is set changes nothing
pub set_mark : (bs : List Bool) (i : ℕ) → get_or bs i false ≡ true → set bs i true ≡ bs
set_mark [] i e = refl
set_mark (b ∷ bs) zero e = ap (λ (x : Bool). x ∷ bs) (sym e)
set_mark (b ∷ bs) (suc i) e = ap (λ (x : List Bool). b ∷ x) (set_mark bs i e)

pub any_at : (bs : List Bool) (i : ℕ) → get_or bs i false ≡ true → any_mark bs ≡ true
any_at [] i e = absurd (false≢true e)
any_at (true ∷ bs) i e = refl
any_at (false ∷ bs) zero e = absurd (false≢true e)
any_at (false ∷ bs) (suc i) e = any_at bs i e

pub any_replicate : (n : ℕ) → any_mark (replicate n false) ≡ false
any_replicate zero = refl
any_replicate (suc n) = any_replicate n

-- A table whose numbers are held as the marks say
pub all_held_lem : (t : List (List ℕ)) (bs : List Bool) → length bs ≤ length t → ((i : ℕ) → i < length bs → is_held (get_or t i []) ≡ get_or bs i false) → all_held (take (length bs) t) ≡ all_marks bs
all_held_lem t [] h e = refl
all_held_lem [] (b ∷ bs) h e = absurd (not-suc-le-zero h)
all_held_lem (x ∷ t) (b ∷ bs) h e =
    rw (e 0 (omega arith), all_held_lem t bs (le_of_suc-le-suc h) (λ i k. e (suc i) (omega arith))) refl

-- counting
module _ {A : Type 0} (f : A → Bool) where
  pub count_set : (l : List A) (i : ℕ) (x d : A) → i < length l → count f (set l i x) + cond (f (get_or l i d)) 1 0 ≡ count f l + cond (f x) 1 0
  count_set [] i x d h = absurd (not-suc-le-zero h)
  count_set (y ∷ l) zero x d h = omega arith
  count_set (y ∷ l) (suc i) x d h =
      let ih : count f (set l i x) + cond (f (get_or l i d)) 1 0 ≡ count f l + cond (f x) 1 0 = count_set l i x d (le_of_suc-le-suc h) in
      omega arith

  -- where fewer are counted than there are, one is not
  pub count_less : (l : List A) (d : A) → count f l < length l → (k : ℕ) × (k < length l) × (f (get_or l k d) ≡ false)
  count_less [] d h = absurd (not-suc-le-zero h)
  count_less (x ∷ l) d h = go (f x) refl h (count_less l d)
    where
      go : (b : Bool) → f x ≡ b → cond b 1 0 + count f l < suc (length l) → (count f l < length l → (k : ℕ) × (k < length l) × (f (get_or l k d) ≡ false))
          → (k : ℕ) × (k < suc (length l)) × (f (get_or (x ∷ l) k d) ≡ false)
      go true e h ih = let r = ih (omega arith) in (suc r.0, omega (arith, r.1), r.2)
      go false e h ih = (0, omega arith, e)
