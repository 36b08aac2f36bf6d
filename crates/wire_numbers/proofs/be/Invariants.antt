use Rattle.std.proofs.Common.{◌≡◌, ◌≤◌, length, take}
use Rattle.wire.specs.Parts.{part}
use Rattle.wire.specs.Numbers.{big}
use Rattle.wire_numbers.proofs.be.Given as goal

abbrev pub invariant-loop-byte : goal.invariant-loop-byte
invariant-loop-byte g l =
    let word = g.W.Word in
    (l.byte-index ≤ length l.byte-items) × (word.value l.x ≡ big (take l.byte-index (part l.b l.at word.WIDTH)))
