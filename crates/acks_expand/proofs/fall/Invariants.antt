use mathlib.Core.Path.{◌≡◌}
use Prim.Native.Nat.{◌-◌}
use lib.ListN.{length}
use Rattle.acks.specs.Window.{falling}
use Rattle.wire.specs.Parts.{splice}
use Rattle.acks_expand.proofs.fall.Given as goal

abbrev pub invariant-loop-j : goal.invariant-loop-j
invariant-loop-j l = (l.list ≡ splice l.initial.list l.at (falling (l.above - 1) l.j)) × (length l.list ≡ length l.initial.list)
