-- How long a sweep waits.
use Rattle.std.specs.Prelude.{Bool, ℕ, ◌+◌, leb}

-- the present second is at least 30 above another: an open message that was opened then is old, a finished one that finished then is due
abbrev pub long_ago : ℕ → ℕ → Bool
long_ago at second = leb (at + 30) second
