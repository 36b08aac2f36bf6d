use Prim.Native.Nat.{◌+◌}
use mathlib.Core.Path.{◌≡◌}
use Rattle.acks.specs.Tracking.{clear_up}
use Rattle.acks_marks.proofs.clear.Given as goal

abbrev pub invariant-loop-k : goal.invariant-loop-k
invariant-loop-k l = l.marks ≡ clear_up l.initial.marks (l.top + 1) l.k
