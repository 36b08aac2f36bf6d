use mathlib.Core.Path.{refl, ap, ◌∙◌}
use borrow.Author.Tests.{ne_eqb}
use Rattle.refusals.proofs.Numbers.{not_zero}
use Rattle.numbers_outcomes.specs.Listings.{list_outcome}
use Rattle.strawhub_blocks.proofs.listings.strawhub_block_list.Goals as goal

pub returns-in-Ok : goal.returns-in-Ok
unfolding list_outcome
returns-in-Ok c = (c.done.ensures ∙ ap list_outcome c.in-Ok.ensures.0, c.list_blocks.ensures.1)

pub returns-in-Err : goal.returns-in-Err
unfolding list_outcome
returns-in-Err c = (rw (c.refused.ensures, ← c.in-Err.ensures.0, ne_eqb _ 0 (not_zero c.in-Err.field-0.refusal)) refl, c.list_blocks.ensures.1)
