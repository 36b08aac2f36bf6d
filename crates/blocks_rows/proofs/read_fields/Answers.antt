use borrow.Author.Rules.{rules}
use native.Mathlib.Omega.{arith}
use Rattle.blocks.proofs.Loops.{place, there_next, reads_start, reads_turn, reads_end}
use Rattle.blocks_rows.proofs.read_fields.Goals as goal

pub no_fields-fields-requires : goal.no_fields-fields-requires
no_fields-fields-requires c = tt

pub loop-left-init : goal.loop-left-init
loop-left-init c = reads_start _ c.no_fields-fields.ensures (search rules) c.requires

pub number_at-requires : goal.number_at-requires
number_at-requires c = omega (arith, there_next c.loop-left.invariant.rest c.loop-left-test.true)

pub offset_bounds-fields-i : goal.offset_bounds-fields-i
offset_bounds-fields-i c = omega (arith, place c.loop-left.invariant.rest c.loop-left-test.true)

pub bounds-fields-i : goal.bounds-fields-i
bounds-fields-i c = place c.loop-left.invariant.rest c.loop-left-test.true

pub width_of-at-requires : goal.width_of-at-requires
width_of-at-requires c = tt

pub overflow_add-at : goal.overflow_add-at
overflow_add-at c = omega (arith, there_next c.loop-left.invariant.rest c.loop-left-test.true, c.width_of-at.ensures.0, c.well_formed)

pub overflow_add-i : goal.overflow_add-i
overflow_add-i c = omega (arith, place c.loop-left.invariant.rest c.loop-left-test.true)

pub loop-left-smaller : goal.loop-left-smaller
loop-left-smaller c = omega (arith, c.loop-left-test.true)

pub loop-left-preserved : goal.loop-left-preserved
loop-left-preserved c = reads_turn _ _ c.loop-left.invariant c.loop-left-test.true c.number_at.ensures c.width_of-at.ensures.0

pub returns : goal.returns
returns c = reads_end _ _ _ _ c.loop-left-test.false c.loop-left.invariant
