use Rattle.sender.specs.Recorded.{packet_at}
use Rattle.sender.proofs.Places.{searched}
use Rattle.sender_list.proofs.place_of.Given as goal

abbrev pub invariant-loop-k : goal.invariant-loop-k
invariant-loop-k l = searched l.n l.count (packet_at l.rec) l.k
