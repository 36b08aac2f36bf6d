-- A listing's answer by numbers.
use Rattle.std.specs.Prelude.{cond, eqb}
use Rattle.blocks_listing.specs.Answers.{Answer}
use Rattle.numbers_outcomes.specs.declared.Outcome.{Outcome}

-- 0 and the count, or the refusal and its place
unfoldable pub list_outcome : Answer → Outcome
list_outcome a = record { number = a.number; value = cond (eqb a.number 0) a.count a.place }
