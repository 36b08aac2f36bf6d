use Rattle.std.proofs.Common.{◌-◌, length}
use Rattle.acks.proofs.Filling.{Wrote}
use Rattle.acks_expand.proofs.Front.{Rest}
use Rattle.acks_expand.proofs.fill_pairs.Given as goal

abbrev pub invariant-loop-left : goal.invariant-loop-left
invariant-loop-left l =
    let i = length l.pairs - length l.left in
    Wrote l.pairs l.initial.list l.place l.top l.list l.at l.above i × Rest l.pairs i l.left

abbrev pub decreases-loop-left : goal.decreases-loop-left
decreases-loop-left l = length l.left
