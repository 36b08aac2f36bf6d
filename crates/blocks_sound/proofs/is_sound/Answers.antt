use mathlib.Core.Path.{◌≡◌, sym, ap, ◌∙◌}
use mathlib.Core.Bool.{true, false, ◌||◌}
use Prim.Native.Nat.{◌+◌}
use native.Mathlib.Omega.{arith}
use lib.Dec.{eqb}
use borrow.Author.Tests.{le-leb, lt-leb}
use Rattle.blocks.specs.Extent.{is_i2np_type}
use Rattle.blocks.specs.Sound.{sound}
use Rattle.blocks.proofs.Lengths.{message_length}
use Rattle.blocks_sound.proofs.is_sound.Goals as goal

pub returns-then-size-from : goal.returns-then-size-from
unfolding sound
returns-then-size-from c = let a = c.args in let t : (eqb a.kind 3 || eqb a.kind 4) ≡ true = c.if-kind.true in rw (t, lt-leb (6 + a.kind) a.size (omega (arith, c.from.ensures, c.if-size-from.true)))

pub bounds-payload-body : goal.bounds-payload-body
bounds-payload-body c = let a = c.args in let t : (eqb a.kind 3 || eqb a.kind 4) ≡ true = c.if-kind.true in omega (arith, c.requires, message_length a.kind a.size t, c.from.ensures, c.if-size-from.false)

pub returns-then-kind : goal.returns-then-kind
unfolding sound
returns-then-kind c = let a = c.args in let t : (eqb a.kind 3 || eqb a.kind 4) ≡ true = c.if-kind.true in c.is_listed.ensures ∙ ap is_i2np_type c.from-then-kind.ensures ∙ sym (rw (t, le-leb (6 + a.kind) a.size (omega (arith, c.from.ensures, c.if-size-from.false))))

pub returns : goal.returns
unfolding sound
returns c = let a = c.args in let t : (eqb a.kind 3 || eqb a.kind 4) ≡ false = c.if-kind.false in c.is_tested.ensures ∙ sym (rw t)
