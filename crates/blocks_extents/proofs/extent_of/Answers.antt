use mathlib.Core.Path.{sym, ap, ◌∙◌}
use native.Mathlib.Omega.{arith}
use Prim.Native.Nat.{◌+◌}
use borrow.Author.Rules.{rules}
use Rattle.blocks.specs.Extent.{taken_at}
use Rattle.blocks.proofs.Soundness.{taken_holds}
use Rattle.blocks.proofs.Ends.{head_says, no_head, ended, cut}
use Rattle.blocks_extents.proofs.extent_of.Goals as goal

pub returns-in_default : goal.returns-in_default
returns-in_default c = let a = c.args in cut a.payload.now a.at (no_head a.payload.now a.at c.in_default.ensures)

pub overflow_add-at : goal.overflow_add-at
overflow_add-at c = let a = c.args in omega (arith, (head_says a.payload.now a.at c.in-Some.head c.in-Some.ensures).there)

pub taken_at-requires : goal.taken_at-requires
taken_at-requires c = let a = c.args in ((head_says a.payload.now a.at c.in-Some.head c.in-Some.ensures).there, rw c.from.ensures (search rules))

pub overflow_add-result : goal.overflow_add-result
overflow_add-result c = let a = c.args in omega (arith, (head_says a.payload.now a.at c.in-Some.head c.in-Some.ensures).there)

pub overflow_add-result-in-Ok : goal.overflow_add-result-in-Ok
overflow_add-result-in-Ok c = let a = c.args in omega (arith, (head_says a.payload.now a.at c.in-Some.head c.in-Some.ensures).there, taken_holds a.payload.now (a.at + 3) c.from.result c.in-Some.head.kind c.in-Ok.count (sym c.in-Ok.ensures))

pub returns-in-Ok : goal.returns-in-Ok
returns-in-Ok c = let a = c.args in let h = c.in-Some.head in ended a.payload.now a.at h _ (head_says a.payload.now a.at h c.in-Some.ensures) (ap (taken_at a.payload.now (a.at + 3) h.kind) (sym c.from.ensures) ∙ sym c.in-Ok.ensures)

pub returns-in-Err : goal.returns-in-Err
returns-in-Err c = let a = c.args in let h = c.in-Some.head in ended a.payload.now a.at h _ (head_says a.payload.now a.at h c.in-Some.ensures) (ap (taken_at a.payload.now (a.at + 3) h.kind) (sym c.from.ensures) ∙ sym c.in-Err.ensures)
