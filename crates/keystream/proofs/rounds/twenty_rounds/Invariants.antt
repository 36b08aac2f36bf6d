use Rattle.std.proofs.Common.{◌≡◌}
use Rattle.keystream.specs.Chacha.{rounds}
use Rattle.keystream.proofs.rounds.twenty_rounds.Given as goal

abbrev pub invariant-loop : goal.invariant-loop
invariant-loop l = l.t ≡ rounds l.counter l.initial.t
