use mathlib.Core.Path.{sym, ap, ◌∙◌}
use Rattle.std.proofs.lemmas.Result.{err_from_is_err_and}
use Rattle.refusals.proofs.Numbers.{not_zero}
use Rattle.acks.specs.Reporting.{Report, refused_report}
use Rattle.numbers_outcomes.specs.Trackers.{report_numbers, report_pairs}
use Rattle.numbers_outcomes.proofs.Refused.{report_stays}
use Rattle.strawhub_trackers.proofs.put_report.Goals as goal

pub returns-in_err-report : goal.returns-in_err-report
unfolding refused_report
returns-in_err-report c =
    let p = err_from_is_err_and c.from_residual.result c.from_residual.ensures.1 in
    let e = c.in_err-report.ensures in
    let s = report_stays _ c.args.out.now c.args.pairs.now (not_zero c.in_err-report.field-0.0) in
    rw (p.1, p.2) (
      ap (λ (r : Report). r.number) e,
      sym s.0 ∙ ap (λ (r : Report). report_numbers r c.args.out.now) e,
      sym s.1 ∙ ap (λ (r : Report). report_pairs r c.args.pairs.now) e,
    )

pub returns : goal.returns
unfolding report_numbers report_pairs
returns c =
    let e = c.in_ok-report.ensures in
    rw (c.from.ensures, c.from-2.ensures) (
      ap (λ (r : Report). r.number) e,
      ap (λ (r : Report). report_numbers r c.args.out.now) e,
      ap (λ (r : Report). report_pairs r c.args.pairs.now) e,
    )
