-- Laws of how many numbers of a table are held: counting them tells whether all are. Assumes nothing.
use mathlib.Core.Path.{◌≡◌, refl, sym, ap, ◌∙◌}
use mathlib.Core.Bool.{Bool, true, false, cond, not, ◌&&◌, ◌||◌, false≢true, true≢false}
use mathlib.Core.List.{List, [], ◌∷◌, ◌++◌, append_assoc, append-nil}
use Prim.Native.Nat.{ℕ, zero, suc, ◌+◌, ◌-◌, ◌≤◌, ◌<◌}
use native.Mathlib.Nat.{not-suc-le-zero, le_of_suc-le-suc}
use native.Mathlib.Omega.{arith}
use lib.Dec.{eqb, ltb}
use lib.ListN.{length, get_or, take, drop, set, take-append-drop}
use lib.Seq.{take-suc, get_or-drop, length-take-le}
use borrow.Author.Tests.{eq-eqb, ne_eqb, eqb-true, eqb-false, ltb-true, ltb-false}
use Rattle.reassembly.specs.Store.{is_held, all_held, some_held, joined}
use Rattle.reassembly.specs.Joining.{joined_below}
use Rattle.wire.specs.Series.{series}
use Rattle.reassembly.specs.Stands.{held_of}
use Rattle.wire.proofs.Series.{length_series, get_d_series}

-- a number is held exactly if it has bytes
pub held_length : (x : List ℕ) → is_held x ≡ not (eqb (length x) 0)
held_length [] = refl
held_length (b ∷ x) = rw (ne_eqb (suc (length x)) 0 (λ e. omega arith)) refl

pub not_held : (x : List ℕ) → is_held x ≡ false → x ≡ []
not_held [] e = refl
not_held (b ∷ x) e = absurd (true≢false e)

pub held_le : (t : List (List ℕ)) → held_of t ≤ length t
held_le [] = omega arith
held_le (x ∷ t) = go (is_held x) (held_le t)
  where
    go : (b : Bool) → held_of t ≤ length t → cond b 1 0 + held_of t ≤ suc (length t)
    go true h = omega arith
    go false h = omega arith

pub held_append : (a b : List (List ℕ)) → held_of (a ++ b) ≡ held_of a + held_of b
held_append [] b = omega arith
held_append (x ∷ a) b = let ih : held_of (a ++ b) ≡ held_of a + held_of b = held_append a b in omega arith

pub none_counted : (t : List (List ℕ)) → ((i : ℕ) → is_held (get_or t i []) ≡ false) → held_of t ≡ 0
none_counted [] h = refl
none_counted (x ∷ t) h = rw (h 0, none_counted t (λ i. h (suc i))) refl

-- as many are held as there are exactly if all are
pub all_counted : (t : List (List ℕ)) → all_held t ≡ eqb (held_of t) (length t)
all_counted [] = refl
all_counted (x ∷ t) = go (is_held x) (eqb (held_of t) (length t)) refl (all_counted t) (held_le t)
  where
    go : (b c : Bool) → eqb (held_of t) (length t) ≡ c → all_held t ≡ eqb (held_of t) (length t) → held_of t ≤ length t → (b && all_held t) ≡ eqb (cond b 1 0 + held_of t) (suc (length t))
    go true true e ih l =
        let q : held_of t ≡ length t = eqb-true (held_of t) (length t) e in
        ih ∙ e ∙ sym (eq-eqb (1 + held_of t) (suc (length t)) (omega arith))
    go true false e ih l =
        let q : held_of t ≡ length t → ⊥ = eqb-false (held_of t) (length t) e in
        ih ∙ e ∙ sym (ne_eqb (1 + held_of t) (suc (length t)) (λ z. q (omega arith)))
    go false c e ih l = sym (ne_eqb (0 + held_of t) (suc (length t)) (λ z. omega arith))

-- one number more
pub held_set : (t : List (List ℕ)) (i : ℕ) (v : List ℕ) → i < length t → is_held (get_or t i []) ≡ false → is_held v ≡ true → held_of (set t i v) ≡ held_of t + 1
held_set [] i v h e w = absurd (not-suc-le-zero h)
held_set (x ∷ t) zero v h e w = rw (e, w) (omega arith)
held_set (x ∷ t) (suc i) v h e w = let ih : held_of (set t i v) ≡ held_of t + 1 = held_set t i v (le_of_suc-le-suc h) e w in omega arith

-- where none is held above the number n, all up to n are held exactly if n + 1 are
pub all_upto : (t : List (List ℕ)) (n : ℕ) → n < length t → ((k : ℕ) → is_held (get_or t k []) ≡ true → k ≤ n) → all_held (take (suc n) t) ≡ eqb (held_of t) (n + 1)
all_upto t n h f =
    let lt : length (take (suc n) t) ≡ suc n = length-take-le (suc n) t (omega arith) in
    let e : held_of (take (suc n) t) ≡ held_of t = sums in
    let s : suc n ≡ n + 1 = omega arith in
    all_counted (take (suc n) t) ∙ ap (λ (z : ℕ). eqb z (length (take (suc n) t))) e ∙ ap (eqb (held_of t)) (lt ∙ s)
  where
    above : (k : ℕ) (b : Bool) → is_held (get_or (drop (suc n) t) k []) ≡ b → is_held (get_or (drop (suc n) t) k []) ≡ false
    above k false e = e
    above k true e =
        let z : suc n + k ≤ n = f (suc n + k) (ap is_held (sym (get_or-drop (suc n) t k [])) ∙ e) in
        absurd (let y : ◌≡◌ {A = ℕ} 0 1 = omega arith in omega arith)

    sums : held_of (take (suc n) t) ≡ held_of t
    sums =
        let z : held_of (drop (suc n) t) ≡ 0 = none_counted (drop (suc n) t) (λ k. above k (is_held (get_or (drop (suc n) t) k [])) refl) in
        let a : held_of (take (suc n) t ++ drop (suc n) t) ≡ held_of (take (suc n) t) + held_of (drop (suc n) t) = held_append (take (suc n) t) (drop (suc n) t) in
        let b : held_of (take (suc n) t ++ drop (suc n) t) ≡ held_of t = ap held_of (take-append-drop (suc n) t) in
        omega arith

-- some number above n is held exactly if the highest is above n
some_at : (t : List (List ℕ)) (i : ℕ) → is_held (get_or t i []) ≡ true → some_held t ≡ true
some_at [] i e = absurd (false≢true e)
some_at (x ∷ t) zero e = rw e refl
some_at (x ∷ t) (suc i) e = go (is_held x) (some_at t i e)
  where
    go : (b : Bool) → some_held t ≡ true → (b || some_held t) ≡ true
    go true e = refl
    go false e = e

none_some : (t : List (List ℕ)) → ((i : ℕ) → is_held (get_or t i []) ≡ false) → some_held t ≡ false
none_some [] h = refl
none_some (x ∷ t) h = rw (h 0, none_some t (λ i. h (suc i))) refl

pub some_above : (t : List (List ℕ)) (n top : ℕ) → (0 < top → is_held (get_or t top []) ≡ true) → ((k : ℕ) → is_held (get_or t k []) ≡ true → k ≤ top) → some_held (drop (suc n) t) ≡ ltb n top
some_above t n top th tm = go (ltb n top) refl
  where
    above : top ≤ n → (k : ℕ) (b : Bool) → is_held (get_or (drop (suc n) t) k []) ≡ b → is_held (get_or (drop (suc n) t) k []) ≡ false
    above l k false e = e
    above l k true e =
        let z : suc n + k ≤ top = tm (suc n + k) (ap is_held (sym (get_or-drop (suc n) t k [])) ∙ e) in
        absurd (let y : ◌≡◌ {A = ℕ} 0 1 = omega arith in omega arith)

    go : (b : Bool) → ltb n top ≡ b → some_held (drop (suc n) t) ≡ ltb n top
    go true e =
        let l : n < top = ltb-true n top e in
        let s : suc n + (top - suc n) ≡ top = omega arith in
        some_at (drop (suc n) t) (top - suc n) (ap is_held (get_or-drop (suc n) t (top - suc n) [] ∙ ap (λ (k : ℕ). get_or t k []) s) ∙ th (omega arith)) ∙ sym e
    go false e = none_some (drop (suc n) t) (λ k. above (ltb-false n top e) k (is_held (get_or (drop (suc n) t) k [])) refl) ∙ sym e

-- the first k of a series, joined
joined_append : (a b : List (List ℕ)) → joined (a ++ b) ≡ joined a ++ joined b
joined_append [] b = refl
joined_append (x ∷ a) b = ap (λ (z : List ℕ). x ++ z) (joined_append a b) ∙ sym (append_assoc x (joined a) (joined b))

pub joined_series : (f : ℕ → List ℕ) (n k : ℕ) → k ≤ n → joined (take k (series f 0 n)) ≡ joined_below f k
joined_series f n zero h = refl
joined_series f n (suc k) h =
    ap joined (take-suc (series f 0 n) k [] (omega (arith, length_series f 0 n)))
    ∙ joined_append (take k (series f 0 n)) (get_or (series f 0 n) k [] ∷ [])
    ∙ ap (λ (z : List ℕ). z ++ (get_or (series f 0 n) k [] ++ [])) (joined_series f n k (omega arith))
    ∙ ap (λ (z : List ℕ). joined_below f k ++ z) (append-nil (get_or (series f 0 n) k []) ∙ get_d_series f n k [] (omega arith))
