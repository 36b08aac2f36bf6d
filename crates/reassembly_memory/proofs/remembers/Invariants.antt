use mathlib.Core.Path.{◌≡◌}
use Rattle.wire.specs.Series.{series}
use Rattle.reassembly.specs.Memory.{remembers}
use Rattle.reassembly.specs.Remembered.{finished_at}
use Rattle.reassembly_memory.proofs.remembers.Given as goal

abbrev pub invariant-loop-k : goal.invariant-loop-k
invariant-loop-k l = l.found ≡ remembers (series (finished_at l.rec) 0 l.k) l.id
