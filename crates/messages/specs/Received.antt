-- What a call tells of a block: a number, and the message that was received, if one was.
use Rattle.std.specs.Prelude.{ℕ}

-- 01's number, and where a message that was received stands: `from` is 0 for nowhere, 1 for the payload, 2 for the assembly buffer. A refusal's block is at `start`.
pub record Received : Type 0 where
  pub number : ℕ
  pub from : ℕ
  pub kind : ℕ
  pub id : ℕ
  pub expires : ℕ
  pub start : ℕ
  pub length : ℕ
