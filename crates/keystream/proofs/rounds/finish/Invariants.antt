use Rattle.keystream.proofs.State.{Filled}
use Rattle.keystream.proofs.rounds.finish.Given as goal

abbrev pub invariant-loop-i : goal.invariant-loop-i
invariant-loop-i l = Filled l.s l.t l.initial.out l.out l.i
