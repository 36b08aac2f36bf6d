use Rattle.std.proofs.Common.{◌≡◌}
use lib.Seq.{paste}
use Rattle.lines.specs.Digits.{pairs_of}
use Rattle.lines.proofs.fill.Given as goal

abbrev pub invariant-loop-i : goal.invariant-loop-i
invariant-loop-i l = l.out ≡ paste l.initial.out 0 (pairs_of l.field) l.i
