use Rattle.strawhub_blocks.proofs.Numbers.{one_by_one, read_shown, read_refused_lem}
use mathlib.Core.Path.{refl, ◌∙◌}
use borrow.Author.Rules.{rules}
use Rattle.strawhub_blocks.proofs.block_reads.strawhub_block_read.Goals as goal

pub returns-in-Ok : goal.returns-in-Ok
returns-in-Ok c = rw (c.done.ensures, c.from.ensures, c.from-in-Ok.ensures) (read_shown c.args.out.now c.in-Ok.ensures refl (one_by_one _ (search rules) ∙ c.as_numbers-v.ensures))

pub returns-in-Err : goal.returns-in-Err
returns-in-Err c = rw c.refused.ensures (read_refused_lem c.args.out.now c.in-Err.ensures refl)
