use mathlib.Core.Path.{ap}
use native.Mathlib.Omega.{arith}
use Rattle.blocks.specs.Packed.{width_of}
use Rattle.blocks.proofs.Rows.{width_else, number_one}
use Rattle.blocks_rows.proofs.number_at.Goals as goal

pub bounds-b-at : goal.bounds-b-at
unfolding width_of
bounds-b-at c = omega (arith, ap width_of c.in-1.is)

pub be-requires : goal.be-requires
unfolding width_of
be-requires c = omega (arith, ap width_of c.in-2.is)

pub be-requires-in-4 : goal.be-requires-in-4
unfolding width_of
be-requires-in-4 c = omega (arith, ap width_of c.in-4.is)

pub be-requires-in_default : goal.be-requires-in_default
unfolding width_of
be-requires-in_default c = omega (arith, width_else c.in_default.in_default-own.rest)

pub returns-in-1 : goal.returns-in-1
unfolding width_of
returns-in-1 c = let w = ap width_of c.in-1.is in rw (w, c.from.ensures) (number_one _ _ (omega (arith, w)))

pub returns-in-2 : goal.returns-in-2
unfolding width_of
returns-in-2 c = rw (ap width_of c.in-2.is, c.from-in-2.ensures) c.be.ensures

pub returns-in-4 : goal.returns-in-4
unfolding width_of
returns-in-4 c = rw (ap width_of c.in-4.is, c.from-in-4.ensures) c.be-in-4.ensures

pub returns-in_default : goal.returns-in_default
unfolding width_of
returns-in_default c = rw (width_else c.in_default.in_default-own.rest) c.be-in_default.ensures
