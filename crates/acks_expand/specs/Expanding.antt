-- What an expansion answers, as the C call tells it.
use Rattle.std.specs.Prelude.{Result, Ok, Err, ℕ}
use Rattle.refusals.specs.Numbers.{number}
use Rattle.refusals.specs.declared.Refusal.{Refusal}
use Rattle.acks.specs.declared.Expanded.{Expanded}

-- 0 and how many numbers there are; or the refusal's number
abbrev pub expanded_as : Result ℕ Refusal → Expanded
expanded_as (Ok n) = record { number = 0; count = n }
expanded_as (Err r) = record { number = number r; count = 0 }
