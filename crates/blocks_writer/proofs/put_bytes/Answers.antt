use mathlib.Core.Path.{sym, ◌∙◌}
use native.Mathlib.Omega.{arith}
use Rattle.wire.proofs.Slices.{splice_none}
use Rattle.blocks.specs.Writing.{carried_bytes}
use Rattle.blocks.proofs.Answers.{carried_size}
use borrow.Author.Rules.{rules}
use Rattle.blocks_writer.proofs.put_bytes.Goals as goal

pub carries_bytes-requires : goal.carries_bytes-requires
unfolding carried_bytes
carries_bytes-requires c = search rules

pub length-requires : goal.length-requires
unfolding carried_bytes
length-requires c = search rules

pub overflow_add-length : goal.overflow_add-length
unfolding carried_bytes
overflow_add-length c = search rules

pub copy_to-requires : goal.copy_to-requires
unfolding carried_bytes
copy_to-requires c = let a = c.args in omega (arith, c.length.ensures.0, carried_size a.row.kind a.body.now (sym c.carries_bytes.ensures ∙ c.if-carries_bytes.true))

pub shape_of-room : goal.shape_of-room
unfolding carried_bytes
shape_of-room c = search rules

pub returns-then-carries_bytes : goal.returns-then-carries_bytes
unfolding carried_bytes
returns-then-carries_bytes c = rw (sym c.carries_bytes.ensures ∙ c.if-carries_bytes.true, sym c.length.ensures.0) c.copy_to.ensures

pub returns-else-carries_bytes : goal.returns-else-carries_bytes
unfolding carried_bytes
returns-else-carries_bytes c = rw (sym c.carries_bytes.ensures ∙ c.if-carries_bytes.false) (sym (splice_none _ _))
