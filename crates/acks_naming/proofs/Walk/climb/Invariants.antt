use Rattle.std.proofs.Common.{◌≡◌, ◌≤◌, length, take}
use Rattle.acks.specs.Naming.{StandsAt}
use Rattle.acks_naming.proofs.Walk.climb.Given as goal

abbrev pub invariant-loop-before : goal.invariant-loop-before
invariant-loop-before l = record {
  front : l.left ≡ take (length l.left) l.said.ack.pairs.now;
  stands : StandsAt l.said.ack.through l.said.ack.count l.said.ack.pairs.now (length l.left) l.low;
  below : l.low ≤ l.x;
}

abbrev pub decreases-loop-before : goal.decreases-loop-before
decreases-loop-before l = length l.left
