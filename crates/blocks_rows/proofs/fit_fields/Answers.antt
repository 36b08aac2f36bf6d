use borrow.Author.Rules.{rules}
use native.Mathlib.Omega.{arith}
use Rattle.blocks.proofs.Rows.{fit_up_to}
use Rattle.blocks.proofs.Loops.{place, judges_start, judges_turn, judges_end}
use Rattle.blocks_rows.proofs.fit_fields.Goals as goal

pub loop-left-init : goal.loop-left-init
loop-left-init c = judges_start (search rules) (search rules)

pub offset_bounds-fields-i : goal.offset_bounds-fields-i
offset_bounds-fields-i c = omega (arith, place c.loop-left.invariant.rest c.loop-left-test.true)

pub bounds-fields-i : goal.bounds-fields-i
bounds-fields-i c = place c.loop-left.invariant.rest c.loop-left-test.true

pub limit_of-requires : goal.limit_of-requires
limit_of-requires c = tt

pub overflow_add-i : goal.overflow_add-i
overflow_add-i c = omega (arith, place c.loop-left.invariant.rest c.loop-left-test.true)

pub loop-left-smaller : goal.loop-left-smaller
loop-left-smaller c = omega (arith, c.loop-left-test.true)

pub loop-left-preserved : goal.loop-left-preserved
loop-left-preserved c = judges_turn _ c.loop-left.invariant c.loop-left-test.true (fit_up_to _ _ _ c.limit_of.ensures)

pub returns : goal.returns
returns c = judges_end _ _ _ c.loop-left-test.false c.loop-left.invariant
