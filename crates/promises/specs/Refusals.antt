-- A number tells which refusal it is.
use Rattle.std.specs.Prelude.{◌≡◌}
use Rattle.refusals.specs.declared.Refusal.{Refusal}
use Rattle.refusals.specs.Numbers.{number}

-- no two refusals have one number
abbrev pub NumbersDiffer : Type 0
NumbersDiffer = (r s : Refusal) → number r ≡ number s → r ≡ s
