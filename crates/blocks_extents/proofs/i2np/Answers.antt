use Prim.Native.Nat.{◌-◌}
use lib.ListN.{length}
use native.Mathlib.Omega.{arith}
use mathlib.Core.Path.{sym, ap, ◌∙◌}
use borrow.Author.Tests.{lt-ltb, le-ltb}
use Rattle.blocks.specs.Extent.{is_i2np_type, i2np}
use Rattle.blocks_extents.proofs.i2np.Goals as goal

pub returns-then-size-lt9 : goal.returns-then-size-lt9
unfolding i2np
returns-then-size-lt9 c = let a = c.args in simp (lt-ltb a.size 9 (omega arith))

pub returns-then-there-lt9 : goal.returns-then-there-lt9
unfolding i2np
returns-then-there-lt9 c = let a = c.args in simp (le-ltb a.size 9 (omega arith), lt-ltb (length a.payload.now - a.body) 9 (omega arith))

pub returns-then-is_listed : goal.returns-then-is_listed
unfolding i2np
returns-then-is_listed c = let a = c.args in c.takes_bytes.ensures ∙ sym (simp (le-ltb a.size 9 (omega arith), le-ltb (length a.payload.now - a.body) 9 (omega arith), sym (c.is_listed.ensures ∙ ap is_i2np_type c.from.ensures) ∙ c.if-is_listed.true))

pub returns : goal.returns
unfolding i2np
returns c = let a = c.args in simp (le-ltb a.size 9 (omega arith), le-ltb (length a.payload.now - a.body) 9 (omega arith), sym (c.is_listed.ensures ∙ ap is_i2np_type c.from.ensures) ∙ c.if-is_listed.false)
