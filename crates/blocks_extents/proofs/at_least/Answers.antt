use mathlib.Core.Path.{◌≡◌, refl, ◌∙◌}
use mathlib.Core.Bool.{Bool, true, false, cond}
use Prim.Native.Nat.{ℕ, max}
use native.Mathlib.Omega.{arith}
use lib.Dec.{leb}
use borrow.Author.Tests.{leb-true, leb-false}
use Rattle.blocks_extents.proofs.at_least.Goals as goal

larger : (f s : ℕ) → max f s ≡ cond (leb f s) s f
larger f s = go (leb f s) refl
  where
    go : (b : Bool) → leb f s ≡ b → max f s ≡ cond b s f
    go true e = let h = leb-true f s e in omega (arith, h)
    go false e = let h = leb-false f s e in omega (arith, h)

pub returns : goal.returns
returns c = c.max.ensures ∙ larger c.args.fields c.args.size
