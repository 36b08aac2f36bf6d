use Rattle.std.proofs.Common.{◌≡◌, ◌∙◌, arith}
use Rattle.acks.specs.History.{among}
use Rattle.acks.specs.Expanding.{ack_numbers}
use Rattle.sender_acks.proofs.Branches.{unnamed_more}
use Rattle.sender_acks.proofs.pass.Goals as goal

pub loop-k-init : goal.loop-k-init
loop-k-init c = record { unnamed = λ j h. absurd (omega arith); same_ack = c.new-walk.ensures.0 }

pub returns-then-next : goal.returns-then-next
returns-then-next c = (c.loop-k.auto.k-end, c.loop-k.invariant.unnamed, c.find-next.ensures.0 ∙ c.loop-k.invariant.same_ack)

pub loop-k-preserved : goal.loop-k-preserved
loop-k-preserved c =
    let a = c.args.said.ack in
    let l = c.loop-k in
    let e = l.invariant.same_ack in
    record {
      unnamed = unnamed_more (among (ack_numbers a.through a.count a.pairs.now)) c.args.rec.now l.k c.number_at.result c.find-next.result.named l.invariant.unnamed c.number_at.ensures (rw e at c.find-next.ensures.1) c.if-next.false;
      same_ack = c.find-next.ensures.0 ∙ e;
    }

pub returns : goal.returns
returns c =
    let l = c.loop-k in
    let e : l.k ≡ c.args.outstanding = omega arith in
    (omega arith, rw e at l.invariant.unnamed, l.invariant.same_ack)
