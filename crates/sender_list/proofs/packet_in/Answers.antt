use Rattle.std.proofs.Common.{arith}
use Rattle.sender.proofs.Shown.{none_there, so_many}
use Rattle.sender_list.proofs.packet_in.Goals as goal

pub returns-then-rec-lt-SENDER_SIZE : goal.returns-then-rec-lt-SENDER_SIZE
returns-then-rec-lt-SENDER_SIZE c = omega (arith, none_there c.args.rec.now c.if-rec-lt-SENDER_SIZE.true)

pub returns-then-k-count_of : goal.returns-then-k-count_of
returns-then-k-count_of c =
    let n = so_many c.args.rec.now c.count_of.result c.count_of.ensures.0 c.if-rec-lt-SENDER_SIZE.false in
    (omega (arith, n), c.packet_at.ensures)

pub returns : goal.returns
returns c =
    let n = so_many c.args.rec.now c.count_of.result c.count_of.ensures.0 c.if-rec-lt-SENDER_SIZE.false in
    omega (arith, n)
