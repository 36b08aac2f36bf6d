-- What a call over blocks answers: 0 and a number, or a refusal.
use Rattle.std.specs.Prelude.{ℕ, Result, Ok, Err}
use Rattle.blocks.specs.Outcomes.{Read}
use Rattle.blocks.specs.Outcomes.{Extent}
use Rattle.blocks.specs.Outcomes as End
use Rattle.numbers_outcomes.specs.declared.Outcome.{Outcome}

-- a number and a value
abbrev pub outcome : ℕ → ℕ → Outcome
outcome n v = record { number = n; value = v }

-- 0 and the length, or the refusal
abbrev pub write_outcome : Result ℕ ℕ → Outcome
write_outcome (Ok n) = outcome 0 n
write_outcome (Err m) = outcome m 0

-- 0 and the place after the block, or the refusal and the block's place
abbrev pub end_outcome : Extent → Outcome
end_outcome (End.Ends kind size next) = outcome 0 next
end_outcome (End.Refused number place) = outcome number place

-- the same of a reading
abbrev pub read_outcome : Read → Outcome
read_outcome r = end_outcome r.extent
