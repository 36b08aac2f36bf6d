use Rattle.std.proofs.Common.{◌-◌, length}
use Rattle.acks.proofs.Measuring.{Summed}
use Rattle.acks_expand.proofs.Front.{Rest}
use Rattle.acks_expand.proofs.Ack.measure.Given as goal

abbrev pub invariant-loop-left : goal.invariant-loop-left
invariant-loop-left l =
    let i = length l.fn.self.pairs.now - length l.left in
    Summed l.fn.self.through l.fn.self.count l.fn.self.pairs.now l.sum l.names i × Rest l.fn.self.pairs.now i l.left

abbrev pub decreases-loop-left : goal.decreases-loop-left
decreases-loop-left l = length l.left
