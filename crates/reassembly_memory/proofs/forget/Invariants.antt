use mathlib.Core.Path.{◌≡◌}
use Prim.Native.Nat.{◌≤◌}
use lib.ListN.{length}
use Rattle.reassembly.specs.Remembered.{sifted, sifted_to}
use Rattle.reassembly_memory.proofs.forget.Given as goal

abbrev pub invariant-loop-k : goal.invariant-loop-k
invariant-loop-k l = (l.kept ≤ l.k) × (length l.rec ≡ length l.initial.rec) × (sifted l.rec l.kept ≡ sifted_to l.second l.initial.rec l.k)
