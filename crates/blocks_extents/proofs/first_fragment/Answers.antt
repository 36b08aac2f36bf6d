use Prim.Native.Nat.{◌-◌}
use lib.ListN.{length}
use native.Mathlib.Omega.{arith}
use mathlib.Core.Path.{sym, ap, ◌∙◌}
use borrow.Author.Tests.{lt-ltb, le-ltb, le-leb, lt-leb}
use Rattle.blocks.specs.Extent.{is_i2np_type, first_fragment}
use Rattle.blocks_extents.proofs.first_fragment.Goals as goal

pub returns-then-there-lt9 : goal.returns-then-there-lt9
unfolding first_fragment
returns-then-there-lt9 c = let a = c.args in simp (lt-ltb (length a.payload.now - a.body) 9 (omega arith))

pub returns-then-not-is_listed : goal.returns-then-not-is_listed
unfolding first_fragment
returns-then-not-is_listed c = let a = c.args in simp (le-ltb (length a.payload.now - a.body) 9 (omega arith), sym (c.is_listed.ensures ∙ ap is_i2np_type c.from.ensures) ∙ c.if-not-is_listed.true)

pub returns-then-size-le9 : goal.returns-then-size-le9
unfolding first_fragment
returns-then-size-le9 c = let a = c.args in simp (le-ltb (length a.payload.now - a.body) 9 (omega arith), sym (c.is_listed.ensures ∙ ap is_i2np_type c.from.ensures) ∙ c.if-not-is_listed.false, le-leb a.size 9 (omega arith))

pub returns-then-there-size : goal.returns-then-there-size
unfolding first_fragment
returns-then-there-size c = let a = c.args in simp (le-ltb (length a.payload.now - a.body) 9 (omega arith), sym (c.is_listed.ensures ∙ ap is_i2np_type c.from.ensures) ∙ c.if-not-is_listed.false, lt-leb a.size 9 (omega arith), lt-ltb (length a.payload.now - a.body) a.size (omega arith))

pub returns : goal.returns
unfolding first_fragment
returns c = let a = c.args in simp (le-ltb (length a.payload.now - a.body) 9 (omega arith), sym (c.is_listed.ensures ∙ ap is_i2np_type c.from.ensures) ∙ c.if-not-is_listed.false, lt-leb a.size 9 (omega arith), le-ltb (length a.payload.now - a.body) a.size (omega arith))
