use Rattle.std.proofs.Common.{◌≡◌, ◌<◌, ◌^◌, drop}
use Rattle.lines.specs.Digits.{number_from, decimal_of}
use Rattle.lines.proofs.number.Given as goal

abbrev pub invariant-loop-b : goal.invariant-loop-b
invariant-loop-b l = record { fits : l.x < 2 ^ 64; value : decimal_of l.field ≡ number_from l.x (drop l.b-index l.field) }
