use mathlib.Core.Path.{ap, ◌∙◌}
use lib.ListN.{length}
use Rattle.acks.specs.Reporting.{Report}
use Rattle.acks.specs.AckBlocks.{ack_writing, ack_room}
use Rattle.acks.proofs.Handed.{written}
use Rattle.numbers_outcomes.specs.Outcomes.{write_outcome}
use Rattle.strawhub_trackers.proofs.strawhub_tracker_ack_block.Goals as goal

pub returns : goal.returns
returns c =
    let room = c.args.room.now in
    let w = written c.report_in-report.result c.write_ack.result room c.write_ack.new.room c.write_ack.ensures in (
      c.outcome_of.ensures ∙ ap write_outcome (w.0 ∙ ap (λ (r : Report). ack_writing r (length room)) c.report_in-report.ensures),
      w.1 ∙ ap (λ (r : Report). ack_room r room) c.report_in-report.ensures,
    )
