use Rattle.std.proofs.Common.{◌≡◌}
use Rattle.acks.specs.History.{among}
use Rattle.acks.specs.Expanding.{ack_numbers}
use Rattle.sender.proofs.Settling.{Settling}
use Rattle.sender_acks.proofs.settle.Given as goal

abbrev pub invariant-loop-k : goal.invariant-loop-k
invariant-loop-k l = record {
  so_far : Settling (among (ack_numbers l.fn.said.ack.through l.fn.said.ack.count l.fn.said.ack.pairs.now)) l.fn.rec l.fn.settled l.k l.rec l.settled l.kept;
  same_ack : l.walk.said ≡ l.fn.said;
}
