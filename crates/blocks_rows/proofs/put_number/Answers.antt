use mathlib.Core.Path.{ap}
use native.Mathlib.Omega.{arith}
use Rattle.blocks.specs.Packed.{width_of}
use Rattle.blocks.proofs.Rows.{width_else, put_one, cut}
use borrow.Author.Rules.{rules}
use Rattle.blocks_rows.proofs.put_number.Goals as goal

pub overflow_cast-room : goal.overflow_cast-room
unfolding width_of
overflow_cast-room c = search rules

pub bounds-room-at : goal.bounds-room-at
unfolding width_of
bounds-room-at c = omega (arith, ap width_of c.in-1.is)

pub overflow_cast-x : goal.overflow_cast-x
unfolding width_of
overflow_cast-x c = search rules

pub put_be-requires : goal.put_be-requires
unfolding width_of
put_be-requires c = omega (arith, ap width_of c.in-2.is)

pub overflow_cast-x-in-4 : goal.overflow_cast-x-in-4
unfolding width_of
overflow_cast-x-in-4 c = search rules

pub put_be-requires-in-4 : goal.put_be-requires-in-4
unfolding width_of
put_be-requires-in-4 c = omega (arith, ap width_of c.in-4.is)

pub put_be-requires-in_default : goal.put_be-requires-in_default
unfolding width_of
put_be-requires-in_default c = omega (arith, width_else c.in_default.in_default-own.rest)

pub shape_of-room-in-1 : goal.shape_of-room-in-1
unfolding width_of
shape_of-room-in-1 c = search rules

pub returns-in-1 : goal.returns-in-1
unfolding width_of
returns-in-1 c = let w = ap width_of c.in-1.is in rw w (put_one _ _ _ (omega (arith, w)))

pub shape_of-room-in-2 : goal.shape_of-room-in-2
unfolding width_of
shape_of-room-in-2 c = search rules

pub returns-in-2 : goal.returns-in-2
unfolding width_of
returns-in-2 c = rw (ap width_of c.in-2.is) (cut _ _ _ 2 c.put_be.ensures)

pub shape_of-room-in-4 : goal.shape_of-room-in-4
unfolding width_of
shape_of-room-in-4 c = search rules

pub returns-in-4 : goal.returns-in-4
unfolding width_of
returns-in-4 c = rw (ap width_of c.in-4.is) (cut _ _ _ 4 c.put_be-in-4.ensures)

pub shape_of-room-in_default : goal.shape_of-room-in_default
unfolding width_of
shape_of-room-in_default c = search rules

pub returns-in_default : goal.returns-in_default
unfolding width_of
returns-in_default c = rw (width_else c.in_default.in_default-own.rest) c.put_be-in_default.ensures
