-- A loop that copies, byte by byte: a turn of it, and its end. Assumes nothing.
use mathlib.Core.Path.{◌≡◌, ap, ◌∙◌}
use mathlib.Core.List.{List, ◌++◌}
use Prim.Native.Nat.{ℕ, ◌+◌, ◌<◌}
use native.Mathlib.Numerals.{add-one}
use lib.ListN.{length, take, drop, get_or, set}
use lib.Seq.{paste, paste-suc, take-length}
use Rattle.wire.specs.Parts.{splice}

pub copy_turn : (d s x : List ℕ) (at i : ℕ) → x ≡ paste d at s i → at + i < length d → i < length s → set x (at + i) (get_or s i 0) ≡ paste d at s (i + 1)
copy_turn d s x at i e hd hs = rw (e, add-one) (paste-suc d at s i 0 hd hs)

pub copy_end : (d s x : List ℕ) (at i : ℕ) → x ≡ paste d at s i → i ≡ length s → x ≡ splice d at s
unfolding splice
copy_end d s x at i e h = e ∙ ap (paste d at s) h ∙ ap (λ (z : List ℕ). take at d ++ z ++ drop (at + length s) d) (take-length s)
