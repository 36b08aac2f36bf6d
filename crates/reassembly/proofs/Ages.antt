-- What lies 30 seconds back: the code's test, which makes no sum, is the definition's. Assumes nothing.
use mathlib.Core.Path.{◌≡◌, refl, sym, ap, ◌∙◌}
use mathlib.Core.Bool.{Bool, true, false, not, ◌&&◌}
use Prim.Native.Nat.{ℕ, ◌+◌, ◌-◌, ◌≤◌, ◌<◌}
use native.Mathlib.Omega.{arith}
use lib.Dec.{eqb, leb}
use borrow.Author.Tests.{lt-leb, le-leb, leb-true, leb-false}
use Rattle.reassembly.specs.Ages.{long_ago}
use Rattle.reassembly.specs.declared.Head.{Head}
use Rattle.reassembly.specs.Judge.{is_old}

pub ago_early : (at second : ℕ) → second < 30 → false ≡ long_ago at second
ago_early at second h = sym (lt-leb (at + 30) second (omega arith))

pub ago_late : (at second : ℕ) → 30 ≤ second → leb at (second - 30) ≡ long_ago at second
ago_late at second h = go (leb at (second - 30)) refl
  where
    go : (b : Bool) → leb at (second - 30) ≡ b → leb at (second - 30) ≡ long_ago at second
    go true q = let l : at ≤ second - 30 = leb-true at (second - 30) q in q ∙ sym (le-leb (at + 30) second (omega arith))
    go false q = let l : second - 30 < at = leb-false at (second - 30) q in q ∙ sym (lt-leb (at + 30) second (omega arith))

-- a slot in use whose message was opened long ago
pub old_is : (second : ℕ) (h : Head) (b : Bool) → b ≡ long_ago h.opened second → (not (eqb h.count 0) && b) ≡ is_old second h
unfolding is_old
old_is second h b e = ap (λ (z : Bool). not (eqb h.count 0) && z) e
