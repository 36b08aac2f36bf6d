use Rattle.blocks.proofs.Loops.{Judges}
use Rattle.blocks_rows.proofs.fit_fields.Given as goal

abbrev pub invariant-loop-left : goal.invariant-loop-left
invariant-loop-left l = Judges l.row l.fields l.ok l.left l.i

abbrev pub decreases-loop-left : goal.decreases-loop-left
decreases-loop-left l = l.left
