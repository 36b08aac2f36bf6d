use lib.ListN.{length}
use mathlib.Core.Path.{◌≡◌}
use Rattle.wire.specs.Parts.{splice}
use Rattle.reassembly.specs.Joining.{piece_or, joined_below}
use Rattle.reassembly_slots.proofs.pieces.Joining.assemble.Given as goal

abbrev pub invariant-loop-k : goal.invariant-loop-k
invariant-loop-k l = (l.at ≡ length (joined_below (piece_or l.self.rec.now l.room l.self.slot l.self.number l.self.bytes.now) l.k)) × (length l.out ≡ length l.initial.out) × (l.out ≡ splice l.initial.out 0 (joined_below (piece_or l.self.rec.now l.room l.self.slot l.self.number l.self.bytes.now) l.k))
