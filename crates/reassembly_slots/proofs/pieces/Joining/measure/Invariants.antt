use mathlib.Core.Path.{◌≡◌}
use Prim.Native.Nat.{◌≤◌, ◌*◌}
use lib.ListN.{length}
use Rattle.reassembly.specs.Sizes.{slot_size}
use Rattle.reassembly.specs.Joining.{outside_or, some_of, length_or, sum_of}
use Rattle.reassembly_slots.proofs.pieces.Joining.measure.Given as goal

abbrev pub invariant-loop-k : goal.invariant-loop-k
invariant-loop-k l = (l.size ≤ l.k * slot_size) × (l.outside ≡ some_of (outside_or l.self.rec.now l.self.slot l.self.number) l.k) × (l.size ≡ sum_of (length_or l.self.rec.now l.self.slot l.self.number (length l.self.bytes.now)) l.k)
