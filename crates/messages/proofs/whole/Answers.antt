use native.Mathlib.Omega.{arith}
use Rattle.blocks.specs.Table.{look, widths}
use Rattle.blocks.proofs.Laws.{fits_at}
use Rattle.messages.proofs.whole.Goals as goal

pub overflow_cast-result : goal.overflow_cast-result
unfolding widths look
overflow_cast-result c = omega (arith, fits_at _ _ 0 c.requires (omega arith))

pub overflow_cast-result-2 : goal.overflow_cast-result-2
unfolding widths look
overflow_cast-result-2 c = omega (arith, fits_at _ _ 1 c.requires (omega arith))

pub overflow_cast-result-3 : goal.overflow_cast-result-3
unfolding widths look
overflow_cast-result-3 c = omega (arith, fits_at _ _ 2 c.requires (omega arith))
