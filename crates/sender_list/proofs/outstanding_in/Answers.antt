use Rattle.sender.proofs.Shown.{none_told, so_many_told}
use Rattle.sender_list.proofs.outstanding_in.Goals as goal

pub returns-then-rec-lt-SENDER_SIZE : goal.returns-then-rec-lt-SENDER_SIZE
returns-then-rec-lt-SENDER_SIZE c = none_told c.args.rec.now c.if-rec-lt-SENDER_SIZE.true

pub returns : goal.returns
returns c = so_many_told c.args.rec.now c.count_of.result c.count_of.ensures.0 c.if-rec-lt-SENDER_SIZE.false
