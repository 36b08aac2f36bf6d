use Rattle.std.proofs.Common.{◌≡◌, length}
use Rattle.lines.specs.Digits.{pairs_of, all_bytes}
use Rattle.lines.proofs.is_hex.Given as goal

abbrev pub invariant-loop-rest : goal.invariant-loop-rest
invariant-loop-rest l = all_bytes (pairs_of l.field) ≡ all_bytes (pairs_of l.rest)

abbrev pub decreases-loop-rest : goal.decreases-loop-rest
decreases-loop-rest l = length l.rest
