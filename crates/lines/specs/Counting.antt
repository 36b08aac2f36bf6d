-- How many lines were run, and how many of them agree; a count of 64 bits stays at its top.
use Rattle.std.specs.Prelude.{Bool, cond, ℕ, ◌+◌, ◌-◌, ◌^◌, min}
use Rattle.lines.specs.declared.Tally.{Tally}

-- no line
abbrev pub none : Tally
none = record { all = 0; agree = 0 }

-- one more
abbrev pub next : ℕ → ℕ
next n = min (n + 1) (2 ^ 64 - 1)

-- with one line more
abbrev pub counted : Tally → Bool → Tally
counted t agrees = record { all = next t.all; agree = cond agrees (next t.agree) t.agree }
