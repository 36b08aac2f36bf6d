-- Laws of a search in a row of slots. Assumes nothing.
use mathlib.Core.Path.{◌≡◌, refl, ◌∙◌}
use mathlib.Core.Bool.{Bool, true, false, cond}
use mathlib.Core.List.{[], ◌∷◌}
use mathlib.Core.Option.{Option, none, some}
use Prim.Native.Nat.{ℕ, zero, suc, ◌+◌, ◌<◌}
use native.Mathlib.Omega.{arith}
use lib.Dec.{eqb}
use lib.ListN.{get_or}
use Rattle.wire.specs.Series.{series}
use Rattle.reassembly.specs.Store.{Message, Slots, find_id, find_free}
use Rattle.reassembly.specs.Slots.{first_from}

-- whether a slot is free, and whether its message has this id
abbrev pub is_none : Option Message → Bool
is_none none = true
is_none (some m) = false

abbrev pub has_id : ℕ → Option Message → Bool
has_id id none = false
has_id id (some m) = eqb m.id id

-- the store's searches are the record's
find_series : (id : ℕ) (f : ℕ → Option Message) (p : ℕ → Bool) → ((k : ℕ) → p k ≡ has_id id (f k)) → (i n : ℕ) → i + find_id id (series f i n) ≡ first_from p i n
unfolding find_id first_from
find_series id f p h i zero = omega arith
find_series id f p h i (suc n) = go (f i) (h i) (find_series id f p h (i + 1) n)
  where
    go : (o : Option Message) → p i ≡ has_id id o → i + 1 + find_id id (series f (i + 1) n) ≡ first_from p (i + 1) n → i + find_id id (o ∷ series f (i + 1) n) ≡ cond (p i) i (first_from p (i + 1) n)
    go none e ih = rw e (omega arith)
    go (some m) e ih = rw e (hit (eqb m.id id))
      where
        hit : (b : Bool) → i + cond b 0 (suc (find_id id (series f (i + 1) n))) ≡ cond b i (first_from p (i + 1) n)
        hit true = omega arith
        hit false = omega arith

free_series : (f : ℕ → Option Message) (p : ℕ → Bool) → ((k : ℕ) → p k ≡ is_none (f k)) → (i n : ℕ) → i + find_free (series f i n) ≡ first_from p i n
unfolding find_free first_from
free_series f p h i zero = omega arith
free_series f p h i (suc n) = go (f i) (h i) (free_series f p h (i + 1) n)
  where
    go : (o : Option Message) → p i ≡ is_none o → i + 1 + find_free (series f (i + 1) n) ≡ first_from p (i + 1) n → i + find_free (o ∷ series f (i + 1) n) ≡ cond (p i) i (first_from p (i + 1) n)
    go none e ih = rw e (omega arith)
    go (some m) e ih = rw e (omega arith)

pub found_is : (id : ℕ) (f : ℕ → Option Message) (p : ℕ → Bool) → ((k : ℕ) → p k ≡ has_id id (f k)) → (n : ℕ) → find_id id (series f 0 n) ≡ first_from p 0 n
found_is id f p h n = let e : find_id id (series f 0 n) ≡ 0 + find_id id (series f 0 n) = omega arith in e ∙ find_series id f p h 0 n

pub vacant_is : (f : ℕ → Option Message) (p : ℕ → Bool) → ((k : ℕ) → p k ≡ is_none (f k)) → (n : ℕ) → find_free (series f 0 n) ≡ first_from p 0 n
vacant_is f p h n = let e : find_free (series f 0 n) ≡ 0 + find_free (series f 0 n) = omega arith in e ∙ free_series f p h 0 n

-- what a search stops at passes the test
pub first_passes : (p : ℕ → Bool) (i n : ℕ) → first_from p i n < i + n → p (first_from p i n) ≡ true
unfolding first_from
first_passes p i zero h = absurd (let z : ◌≡◌ {A = ℕ} 0 1 = omega arith in omega arith)
first_passes p i (suc n) h = go (p i) refl h (first_passes p (i + 1) n)
  where
    go : (b : Bool) → p i ≡ b → cond (p i) i (first_from p (i + 1) n) < i + suc n → (first_from p (i + 1) n < i + 1 + n → p (first_from p (i + 1) n) ≡ true)
        → p (cond (p i) i (first_from p (i + 1) n)) ≡ true
    go true e k ih = rw e e
    go false e k ih = rw e (ih (let z : first_from p (i + 1) n < i + suc n = rw e at k in omega arith))

-- the place after all that the store names as free is free
pub free_none : (s : Slots) → get_or s (find_free s) none ≡ none
unfolding find_free
free_none [] = refl
free_none (none ∷ s) = refl
free_none (some x ∷ s) = free_none s
