-- What a listing is told as.
use Rattle.std.specs.Prelude.{ℕ}

-- 0 and the count of blocks, or the number of the refusal and its place
pub record Answer : Type 0 where
  pub number : ℕ
  pub place : ℕ
  pub count : ℕ
