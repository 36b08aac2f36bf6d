use mathlib.Core.Path.{◌≡◌}
use Rattle.reassembly.specs.Calls.{swept_to}
use Rattle.reassembly_store.proofs.sweep_slots.Given as goal

abbrev pub invariant-loop-i : goal.invariant-loop-i
invariant-loop-i l = l.rec ≡ swept_to l.second l.initial.rec l.i
