use mathlib.Core.Path.{◌≡◌}
use Rattle.reassembly.specs.Shares.{shares_swept}
use Rattle.reassembly_store.proofs.sweep_all.Given as goal

abbrev pub invariant-loop-n : goal.invariant-loop-n
invariant-loop-n l = l.rec ≡ shares_swept l.second l.initial.rec l.n
