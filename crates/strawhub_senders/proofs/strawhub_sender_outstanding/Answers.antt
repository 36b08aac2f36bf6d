use Rattle.std.proofs.Common.{◌∙◌, ap}
use Rattle.sender.specs.Packets.{packet_as}
use Rattle.sender.specs.Outcomes.{Told}
use Rattle.numbers_outcomes.specs.Outcomes.{outcome}
use Rattle.sender.proofs.Shown.{shown, not_shown}
use Rattle.strawhub_senders.proofs.strawhub_sender_outstanding.Goals.{in-Some, in_default}
use Rattle.strawhub_senders.proofs.strawhub_sender_outstanding.Goals as goal

pub returns : goal.returns
returns c = (
  c.told.ensures ∙ ap (λ (t : Told). outcome t.answer t.value) c.outstanding_in-count.ensures,
  elim c.match-packet_in.branch [
    | in-Some w ↦ w.out-is ∙ rw (w.from.ensures, w.from-in-Some.ensures) (shown c.args.sender.now c.args.k c.args.out.now (packet_as w.in-Some.packet) w.in-Some.ensures.0 w.in-Some.ensures.1)
    | in_default w ↦ w.out-is ∙ not_shown c.args.sender.now c.args.k c.args.out.now w.in_default.ensures
  ],
)
