-- What a report says.
use Rattle.std.specs.Prelude.{Bool, true, cond, Result, Ok, Err, List, [], ◌∷◌, ◌++◌, map, ℕ, ◌-◌, min, replicate, length, take}
use Rattle.refusals.specs.declared.Refusal.{Refusal}
use Rattle.refusals.specs.Numbers as Numbers
use Rattle.acks.specs.Window.{falling}
use Rattle.acks.specs.Tracking.{mark}
use Rattle.acks.specs.Runs.{runs}
use Rattle.acks.specs.declared.Tracker.{Tracker}
use Rattle.acks.specs.declared.AckInfo.{AckInfo}

-- A report by numbers: 0, and what an Ack block says; or 41 before any number.
pub record Report : Type 0 where
  pub number : ℕ
  pub through : ℕ
  pub count : ℕ
  pub len : ℕ
  pub pairs : List ℕ

-- what the marks say of k numbers below n, downward
unfoldable pub view : List ℕ → ℕ → ℕ → List Bool
view m n k = map (mark m) (falling (n - 1) k)

-- some bytes, at most 254, with zeros after them up to 254
unfoldable pub padded : List ℕ → List ℕ
padded l = l ++ replicate (254 - length l) 0

-- a refused report: its number, and nothing else
unfoldable pub refused_report : ℕ → Report
refused_report number = record { number = number; through = 0; count = 0; len = 0; pairs = padded [] }

-- 41, before any number
abbrev pub silent : Report
silent = refused_report 41

-- run lengths as a report: the first is the count of received numbers, the others are the pairs
unfoldable pub report_of_runs : ℕ → List ℕ → Report
report_of_runs top [] = silent
report_of_runs top (c ∷ ps) = record { number = 0; through = top; count = c; len = length ps; pairs = padded ps }

-- the report where top is the highest and got says which were received: the runs of the numbers below top, down to the window's end
unfoldable pub report_of : ℕ → (ℕ → Bool) → Report
report_of top got = cond (got top) (report_of_runs top (runs true (map got (falling (top - 1) (min top 254))))) silent

-- what a tracker reports: it has seen a number where the highest is marked
unfoldable pub ack_info : Tracker → Report
ack_info t = report_of t.highest (mark t.marks)

-- the pair bytes of a report, as an Ack block has them: missing, received, missing, received
unfoldable pub pair_bytes : Report → List ℕ
pair_bytes r = take r.len r.pairs

-- a report that the code made
abbrev pub made : AckInfo → Report
made a = record { number = 0; through = a.through; count = a.count; len = a.pairs.len; pairs = a.pairs.bytes }

-- what the code answers for a report
abbrev pub report_as : Result AckInfo Refusal → Report
report_as (Ok a) = made a
report_as (Err r) = refused_report (Numbers.number r)
