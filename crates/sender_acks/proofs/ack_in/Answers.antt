use Rattle.std.proofs.Common.{arith}
use Rattle.sender_acks.proofs.Branches.{too_short_lem, goes_below_lem, never_given, acked}
use Rattle.sender_acks.proofs.ack_in.Goals as goal

pub returns-then-rec-lt-SENDER_SIZE : goal.returns-then-rec-lt-SENDER_SIZE
returns-then-rec-lt-SENDER_SIZE c =
    let a = c.args.said in
    too_short_lem c.args.rec.now c.args.settled.now a.through a.count a.pairs.now (omega arith)

pub returns-in_default : goal.returns-in_default
returns-in_default c =
    let a = c.args.said in
    goes_below_lem c.args.rec.now c.args.settled.now a.through a.count a.pairs.now (omega arith) c.in_default.ensures

pub returns-then-highest-said : goal.returns-then-highest-said
returns-then-highest-said c =
    let a = c.args.said in
    let h = c.highest_of-highest in
    never_given c.args.rec.now c.args.settled.now a.through a.count a.pairs.now (omega arith) c.in-Some.ensures.0 h.result h.ensures (omega arith)

pub returns : goal.returns
returns c =
    let a = c.args.said in
    let h = c.highest_of-highest in
    let o = c.count_of-outstanding in
    let w = c.settle-kept in
    let e = c.in-Some.ensures.1 in
    acked c.args.rec.now c.args.settled.now a.through a.count a.pairs.now (omega (arith, c.if-rec-lt-SENDER_SIZE)) c.in-Some.ensures.0 h.result h.ensures
    o.result w.result w.new.rec w.new.settled c.put_head.new.rec (omega (arith, c.if-highest-said)) o.ensures.0 o.ensures.1 (rw e at w.ensures) c.put_head.ensures
