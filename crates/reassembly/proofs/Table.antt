-- Laws of pieces in a table: held, counted, joined. Assumes nothing.
use mathlib.Core.Path.{◌≡◌, refl, ap, ◌∙◌}
use mathlib.Core.Bool.{true, false}
use mathlib.Core.List.{List, [], ◌∷◌}
use Prim.Native.Nat.{ℕ, zero, suc, ◌+◌, ◌≤◌, ◌<◌}
use native.Mathlib.Nat.{not-suc-le-zero, le_of_suc-le-suc}
use native.Mathlib.Omega.{arith}
use lib.ListN.{length, get_or, take, set, length-append}
use Rattle.reassembly.specs.Store.{is_held, some_held, total, joined}

pub held_of_length : (bs : List ℕ) → 1 ≤ length bs → is_held bs ≡ true
held_of_length [] h = absurd (not-suc-le-zero h)
held_of_length (b ∷ bs) h = refl

pub total_set : (t : List (List ℕ)) (i : ℕ) (x : List ℕ) → i < length t → total (set t i x) + length (get_or t i []) ≡ total t + length x
total_set [] i x h = absurd (not-suc-le-zero h)
total_set (y ∷ t) zero x h = omega arith
total_set (y ∷ t) (suc i) x h =
    let ih : total (set t i x) + length (get_or t i []) ≡ total t + length x = total_set t i x (le_of_suc-le-suc h) in
    omega arith

-- a piece put into a table makes it longer by the piece at most, and a part of a table is no longer than it
pub total_set_le : (t : List (List ℕ)) (i : ℕ) (x : List ℕ) → total (set t i x) ≤ total t + length x
total_set_le [] i x = omega arith
total_set_le (y ∷ t) zero x = omega arith
total_set_le (y ∷ t) (suc i) x = let ih : total (set t i x) ≤ total t + length x = total_set_le t i x in omega arith

pub total_take : (n : ℕ) (t : List (List ℕ)) → total (take n t) ≤ total t
total_take zero t = omega arith
total_take (suc n) [] = omega arith
total_take (suc n) (x ∷ t) = let ih : total (take n t) ≤ total t = total_take n t in omega arith

pub total_le : (t u : List (List ℕ)) → ((i : ℕ) → length (get_or t i []) ≤ length (get_or u i [])) → total t ≤ total u
total_le [] u h = omega arith
total_le (x ∷ t) [] h =
    let a : length x ≤ 0 = h 0 in
    let ih : total t ≤ 0 = total_le t [] (λ i. h (suc i)) in
    omega arith
total_le (x ∷ t) (y ∷ u) h =
    let a : length x ≤ length y = h 0 in
    let ih : total t ≤ total u = total_le t u (λ i. h (suc i)) in
    omega arith

pub length_joined : (t : List (List ℕ)) → length (joined t) ≡ total t
length_joined [] = refl
length_joined (x ∷ t) = length-append x (joined t) ∙ ap (λ (n : ℕ). length x + n) (length_joined t)

pub none_held : (t : List (List ℕ)) → ((i : ℕ) → get_or t i [] ≡ []) → some_held t ≡ false
none_held [] e = refl
none_held (x ∷ t) e = rw (e 0, none_held t (λ i. e (suc i))) refl
