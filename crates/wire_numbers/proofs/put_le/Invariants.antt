use Rattle.std.proofs.Common.{◌≡◌, ◌≤◌, length, ◌/◌, ◌^◌}
use Rattle.wire.specs.Parts.{splice}
use Rattle.wire.specs.Numbers.{little_bytes}
use Rattle.wire_numbers.proofs.put_le.Given as goal

abbrev pub invariant-loop-byte : goal.invariant-loop-byte
invariant-loop-byte g l =
    let value = g.W.Word.value in
    (l.byte-index ≤ length l.byte-items)
    × (length l.byte-items ≡ length l.initial.byte-items)
    × (value l.rest ≡ value l.fn.x / 256 ^ l.byte-index)
    × (l.byte-items ≡ splice l.initial.byte-items 0 (little_bytes l.byte-index (value l.fn.x)))
