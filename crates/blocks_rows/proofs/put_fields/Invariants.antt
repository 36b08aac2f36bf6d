use Rattle.blocks.proofs.Loops.{Puts}
use Rattle.blocks_rows.proofs.put_fields.Given as goal

abbrev pub invariant-loop-left : goal.invariant-loop-left
invariant-loop-left l = Puts l.initial.room l.body l.row l.fields l.room l.left l.at l.i

abbrev pub decreases-loop-left : goal.decreases-loop-left
decreases-loop-left l = l.left
