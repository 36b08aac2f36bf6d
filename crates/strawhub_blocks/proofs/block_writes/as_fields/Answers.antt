use borrow.Author.Tests.{eq-eqb, ne_eqb}
use Rattle.blocks.specs.Layout.{eight}
use Rattle.blocks.specs.Numbers.{as_fields}
use Rattle.strawhub_blocks.proofs.Numbers.{one_if}
use Rattle.strawhub_blocks.proofs.block_writes.as_fields.Goals as goal

pub returns-then-kind-eq-FOLLOW_ON_FRAGMENT : goal.returns-then-kind-eq-FOLLOW_ON_FRAGMENT
unfolding as_fields eight
returns-then-kind-eq-FOLLOW_ON_FRAGMENT c = rw (eq-eqb c.args.kind 5 c.if-kind-eq-FOLLOW_ON_FRAGMENT.true, c.min.ensures, c.from.ensures, one_if _)

pub returns : goal.returns
unfolding as_fields
returns c = rw (ne_eqb c.args.kind 5 c.if-kind-eq-FOLLOW_ON_FRAGMENT.false)
