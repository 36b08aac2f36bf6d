use mathlib.Core.Path.{ap₂, ◌∙◌}
use mathlib.Core.List.{List}
use Prim.Native.Nat.{ℕ}
use Rattle.acks.specs.Tracking.{mark}
use Rattle.acks.specs.Reporting.{report_of, ack_info}
use Rattle.acks_reports.proofs.report.Goals as goal

pub returns : goal.returns
unfolding ack_info
returns c = c.report_of.ensures ∙ ap₂ (λ (t : ℕ) (m : List ℕ). report_of t (mark m)) c.of.ensures.0 c.of.ensures.1
