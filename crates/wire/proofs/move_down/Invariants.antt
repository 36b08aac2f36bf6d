use mathlib.Core.Path.{◌≡◌}
use lib.ListN.{length}
use lib.Seq.{paste}
use Rattle.wire.specs.Parts.{part}
use Rattle.wire.proofs.move_down.Given as goal

abbrev pub invariant-loop-i : goal.invariant-loop-i
invariant-loop-i l = (length l.b ≡ length l.initial.b) × (l.b ≡ paste l.initial.b l.to (part l.initial.b l.from l.n) l.i)
