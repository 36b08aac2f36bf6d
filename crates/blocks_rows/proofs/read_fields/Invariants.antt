use Rattle.blocks.proofs.Loops.{Reads}
use Rattle.blocks_rows.proofs.read_fields.Given as goal

abbrev pub invariant-loop-left : goal.invariant-loop-left
invariant-loop-left l = Reads l.b l.body l.row l.fields l.left l.at l.i

abbrev pub decreases-loop-left : goal.decreases-loop-left
decreases-loop-left l = l.left
