use Rattle.std.proofs.Common.{◌≡◌, length, take, reverse}
use Rattle.wire.specs.Parts.{part}
use Rattle.wire.specs.Numbers.{big}
use Rattle.wire_numbers.proofs.le.Given as goal

abbrev pub invariant-loop-byte : goal.invariant-loop-byte
invariant-loop-byte g l =
    let word = g.W.Word in
    word.value l.x ≡ big (take (length l.yielded) (reverse (part l.b l.at word.WIDTH)))
