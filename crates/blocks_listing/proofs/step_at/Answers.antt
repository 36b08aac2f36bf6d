use mathlib.Core.Path.{◌∙◌}
use native.Mathlib.Omega.{arith}
use Rattle.blocks.proofs.Ends.{head_says, no_head}
use Rattle.blocks_listing.proofs.Walk.{no_step, step_past, step_over_lem}
use Rattle.blocks_listing.proofs.step_at.Goals as goal

pub returns-in_default : goal.returns-in_default
returns-in_default c = let a = c.args in let n = no_head a.payload.now a.at c.in_default.ensures in c.stays_at.ensures ∙ no_step a.payload.now a.at (omega (arith, n))

pub overflow_add-body : goal.overflow_add-body
overflow_add-body c = let a = c.args in omega (arith, (head_says a.payload.now a.at c.in-Some.head c.in-Some.ensures).there)

pub overflow_sub-payload : goal.overflow_sub-payload
overflow_sub-payload c = let a = c.args in (head_says a.payload.now a.at c.in-Some.head c.in-Some.ensures).there

pub returns-then-payload-body : goal.returns-then-payload-body
returns-then-payload-body c =
    let a = c.args in
    let h = head_says a.payload.now a.at c.in-Some.head c.in-Some.ensures in
    c.stays_at-then-payload-body.ensures ∙ step_past a.payload.now a.at c.in-Some.head h c.body_length-need.ensures.0 (omega (arith, h.there, c.if-payload-body.true))

pub overflow_add-result : goal.overflow_add-result
overflow_add-result c = let a = c.args in omega (arith, c.if-payload-body.false, (head_says a.payload.now a.at c.in-Some.head c.in-Some.ensures).there)

pub returns : goal.returns
returns c =
    let a = c.args in
    let h = head_says a.payload.now a.at c.in-Some.head c.in-Some.ensures in
    step_over_lem a.payload.now a.at c.in-Some.head h c.body_length-need.ensures.0 (omega (arith, h.there, c.if-payload-body.false))
