use Rattle.std.proofs.Common.{◌≡◌, take}
use Rattle.keystream.specs.Mask.{xor_with}
use Rattle.keystream.proofs.xor_with.Given as goal

abbrev pub invariant-loop-i : goal.invariant-loop-i
invariant-loop-i l = l.part ≡ xor_with l.initial.part (take l.i l.stream)
