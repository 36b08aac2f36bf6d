use Rattle.std.proofs.Common.{◌≡◌}
use Rattle.sender_acks.specs.Unnamed.{Unnamed}
use Rattle.sender_acks.proofs.pass.Given as goal

abbrev pub invariant-loop-k : goal.invariant-loop-k
invariant-loop-k l = record {
  unnamed : Unnamed l.fn.said.ack.through l.fn.said.ack.count l.fn.said.ack.pairs.now l.fn.rec l.k;
  same_ack : l.walk.said ≡ l.fn.said;
}
