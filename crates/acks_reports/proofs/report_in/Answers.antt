use mathlib.Core.Path.{ap, ap₂, ◌∙◌}
use mathlib.Core.List.{List}
use Prim.Native.Nat.{ℕ}
use Rattle.std.proofs.lemmas.Result.{err_from_is_err_and}
use Rattle.acks.specs.Tracking.{mark}
use Rattle.acks.specs.Reporting.{refused_report, report_of, ack_info}
use Rattle.acks.specs.Recorded.{report_there}
use Rattle.acks_reports.proofs.report_in.Goals as goal

pub returns-in_err-lent : goal.returns-in_err-lent
unfolding report_there
returns-in_err-lent c =
    let p = err_from_is_err_and c.from_residual.result c.from_residual.ensures.1 in
    let e = c.in_err-lent.ensures in
    rw (p.1, p.2, e.0) (ap refused_report e.1)

pub returns : goal.returns
unfolding report_there ack_info
returns c =
    let e = c.in_ok-lent.ensures in
    rw e.0 (c.report_of.ensures ∙ ap₂ (λ (t : ℕ) (m : List ℕ). report_of t (mark m)) e.1 e.2)
