use borrow.Author.Tests.{lt-ltb, le-ltb}
use Rattle.blocks_sound.proofs.row_of.Goals as goal

pub returns-then-kind-lt16 : goal.returns-then-kind-lt16
returns-then-kind-lt16 c = rw (lt-ltb c.args.kind 16 c.if-kind-lt16.true)

pub returns-else-kind-lt16 : goal.returns-else-kind-lt16
returns-else-kind-lt16 c = rw (le-ltb c.args.kind 16 c.if-kind-lt16.false)
