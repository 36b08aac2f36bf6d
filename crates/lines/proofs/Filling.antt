-- A buffer filled from its start, byte by byte: a turn of the loop. Assumes nothing.
use mathlib.Core.Path.{◌≡◌, sym, ap, ◌∙◌}
use mathlib.Core.List.{List}
use Prim.Native.Nat.{ℕ, ◌+◌, ◌<◌}
use native.Mathlib.Nat.{zero-add}
use native.Mathlib.Omega.{arith}
use lib.ListN.{length, get_or, set}
use lib.Seq.{paste}
use Rattle.wire.proofs.Copying.{copy_turn}

pub fill_turn : (d s x : List ℕ) (i v : ℕ) → x ≡ paste d 0 s i → i < length d → i < length s → v ≡ get_or s i 0 → set x i v ≡ paste d 0 s (i + 1)
fill_turn d s x i v e hd hs q =
    let z : 0 + i ≡ i = zero-add i in
    ap (λ (k : ℕ). set x k v) (sym z) ∙ ap (set x (0 + i)) q ∙ copy_turn d s x 0 i e (omega arith) hs
