-- Laws of zeros: a loop that puts them, byte by byte, a turn of it and its end; and the number that is read of them. Assumes nothing.
use mathlib.Core.Path.{◌≡◌, refl, ap, sym, ◌∙◌}
use mathlib.Core.List.{List, ◌∷◌}
use Prim.Native.Nat.{ℕ, zero, suc, ◌+◌, ◌≤◌, ◌<◌}
use native.Mathlib.Nat.{one-le-pow}
use native.Mathlib.Omega.{arith}
use lib.ListN.{length, set, replicate, length-replicate, get_or-replicate}
use lib.Seq.{paste}
use Rattle.wire.specs.Parts.{part, splice}
use Rattle.wire.specs.Numbers.{little_bytes, little_at}
use Rattle.wire.proofs.Numbers.{little_at_back}
use Rattle.wire.proofs.Copying.{copy_turn, copy_end}
use Rattle.wire.proofs.Slices.{part_alike}

pub zero_turn : (d x : List ℕ) (at n i : ℕ) → x ≡ paste d at (replicate n 0) i → at + i < length d → i < n → set x (at + i) 0 ≡ paste d at (replicate n 0) (i + 1)
zero_turn d x at n i e h k =
    ap (set x (at + i)) (sym (get_or-replicate n i 0 0 k))
    ∙ copy_turn d (replicate n 0) x at i e h (omega (arith, length-replicate {A = ℕ} n 0))

pub zero_end : (d x : List ℕ) (at n i : ℕ) → x ≡ paste d at (replicate n 0) i → i ≡ n → x ≡ splice d at (replicate n 0)
zero_end d x at n i e h = copy_end d (replicate n 0) x at i e (h ∙ sym (length-replicate {A = ℕ} n 0))

-- the bytes of 0, and the number of zeros
little_none : (n : ℕ) → little_bytes n 0 ≡ replicate n 0
unfolding little_bytes
little_none zero = refl
little_none (suc n) = ap (λ (z : List ℕ). 0 ∷ z) (little_none n)

pub little_at_none : (n : ℕ) (l : List ℕ) (o : ℕ) → part l o n ≡ replicate n 0 → little_at n l o ≡ 0
little_at_none n l o e = little_at_back n 0 l o (one-le-pow n 256 (omega arith)) (e ∙ sym (little_none n))

pub little_at_zeros : (m n o : ℕ) → o + n ≤ m → little_at n (replicate m 0) o ≡ 0
little_at_zeros m n o h = little_at_none n (replicate m 0) o (part_alike 0 m o n h)
