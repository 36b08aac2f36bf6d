use borrow.Author.Rules.{rules}
use native.Mathlib.Omega.{arith}
use Rattle.blocks.proofs.Loops.{place, there_next, puts_start, puts_turn, puts_end}
use Rattle.blocks_rows.proofs.put_fields.Goals as goal

pub loop-left-init : goal.loop-left-init
loop-left-init c = puts_start (search rules) (search rules) c.requires

pub offset_bounds-fields-i : goal.offset_bounds-fields-i
offset_bounds-fields-i c = omega (arith, place c.loop-left.invariant.rest c.loop-left-test.true)

pub bounds-fields-i : goal.bounds-fields-i
bounds-fields-i c = place c.loop-left.invariant.rest c.loop-left-test.true

pub put_number-requires : goal.put_number-requires
put_number-requires c = omega (arith, there_next c.loop-left.invariant.rest c.loop-left-test.true, c.loop-left.invariant.as_long)

pub width_of-at-requires : goal.width_of-at-requires
width_of-at-requires c = tt

pub overflow_add-at : goal.overflow_add-at
overflow_add-at c = let l = c.loop-left in omega (arith, there_next l.invariant.rest c.loop-left-test.true, c.width_of-at.ensures.0, c.well_formed)

pub overflow_add-i : goal.overflow_add-i
overflow_add-i c = omega (arith, place c.loop-left.invariant.rest c.loop-left-test.true)

pub loop-left-smaller : goal.loop-left-smaller
loop-left-smaller c = omega (arith, c.loop-left-test.true)

pub loop-left-preserved : goal.loop-left-preserved
loop-left-preserved c = puts_turn _ _ c.loop-left.invariant c.loop-left-test.true c.put_number.ensures c.width_of-at.ensures.0

pub shape_of-room : goal.shape_of-room
shape_of-room c = c.loop-left.invariant.as_long

pub returns : goal.returns
returns c = puts_end _ _ _ _ c.loop-left-test.false c.loop-left.invariant
