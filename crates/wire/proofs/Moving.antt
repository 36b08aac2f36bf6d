-- What the library's move of some bytes within a list is, said by `splice`; and a loop that moves bytes down, byte by byte: a turn of it, and its end. Assumes nothing.
use mathlib.Core.Path.{◌≡◌, sym, ap, ◌∙◌}
use mathlib.Core.List.{List, ◌++◌}
use Prim.Native.Nat.{ℕ, ◌+◌, ◌-◌, ◌≤◌, ◌<◌}
use native.Mathlib.Omega.{arith}
use lib.ListN.{length, take, drop, get_or, set}
use lib.Seq.{paste, drop-paste, get_or-drop}
use Rattle.std.specs.List.{copy_within}
use Rattle.wire.specs.Parts.{part, splice}
use Rattle.wire.proofs.Parts.{length_part, get_d_part}
use Rattle.wire.proofs.Copying.{copy_turn, copy_end}

pub moved : (d : List ℕ) (to from n : ℕ) → from + n ≤ length d → copy_within d from (from + n) to ≡ splice d to (part d from n)
unfolding splice part
moved d to from n fits =
    let e : from + n - from ≡ n = omega arith in
    ap (λ (k : ℕ). take to d ++ take k (drop from d) ++ drop (to + k) d) e
    ∙ ap (λ (k : ℕ). take to d ++ take n (drop from d) ++ drop (to + k) d) (sym (length_part d from n fits))

-- what is read stands at or above the place that is written: it is as it was
pub move_turn : (d x : List ℕ) (to from n i : ℕ) → x ≡ paste d to (part d from n) i → to ≤ from → from + n ≤ length d → i < n → set x (to + i) (get_or x (from + i) 0) ≡ paste d to (part d from n) (i + 1)
move_turn d x to from n i e down fits h = ap (set x (to + i)) ahead ∙ copy_turn d (part d from n) x to i e (omega arith) (omega (arith, size))
  where
    size : length (part d from n) ≡ n
    size = length_part d from n fits

    place : to + i + (from - to) ≡ from + i
    place = omega arith

    ahead : get_or x (from + i) 0 ≡ get_or (part d from n) i 0
    ahead =
        ap (λ (z : List ℕ). get_or z (from + i) 0) e
        ∙ ap (λ (k : ℕ). get_or (paste d to (part d from n) i) k 0) (sym place)
        ∙ sym (get_or-drop (to + i) (paste d to (part d from n) i) (from - to) 0)
        ∙ ap (λ (z : List ℕ). get_or z (from - to) 0) (drop-paste d to (part d from n) i (omega arith) (omega (arith, size)))
        ∙ get_or-drop (to + i) d (from - to) 0
        ∙ ap (λ (k : ℕ). get_or d k 0) place
        ∙ sym (get_d_part d from n i 0 h)

pub move_end : (d x : List ℕ) (to from n i : ℕ) → x ≡ paste d to (part d from n) i → from + n ≤ length d → i ≡ n → x ≡ splice d to (part d from n)
move_end d x to from n i e fits h = copy_end d (part d from n) x to i e (h ∙ sym (length_part d from n fits))
