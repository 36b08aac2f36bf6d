use Prim.Native.Nat.{◌-◌}
use Rattle.acks.proofs.Pairs.{Sofar}
use Rattle.acks_reports.proofs.runs.pairs.Given as goal

abbrev pub invariant-loop-used : goal.invariant-loop-used
invariant-loop-used l = Sofar l.marks l.top l.k l.bytes l.len l.used

abbrev pub decreases-loop-used : goal.decreases-loop-used
decreases-loop-used l = l.k - l.used
