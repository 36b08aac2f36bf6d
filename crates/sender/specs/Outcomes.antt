-- What the calls on a lent record answer, as two numbers.
use Rattle.std.specs.Prelude.{Result, Ok, Err, ℕ}
use Rattle.refusals.specs.Numbers.{number}
use Rattle.refusals.specs.declared.Refusal.{Refusal}

-- 0, and the number that a send or a resend gave out, or how many packets an ack settled, or how many are outstanding; or a refusal, and 0
pub record Told : Type 0 where
  pub answer : ℕ
  pub value : ℕ

abbrev pub told_as : Result ℕ Refusal → Told
told_as (Ok n) = record { answer = 0; value = n }
told_as (Err r) = record { answer = number r; value = 0 }
