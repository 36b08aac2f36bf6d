use Rattle.std.proofs.Common.{◌≡◌, length, take}
use Rattle.wire.specs.Parts.{same}
use Rattle.wire.proofs.same_bytes.Given as goal

abbrev pub invariant-loop-x : goal.invariant-loop-x
invariant-loop-x l =
    let k = length l.yielded in
    (length l.a ≡ length l.b) × (l.ok ≡ same (take k l.a) (take k l.b))
