use Rattle.std.proofs.Common.{◌∙◌, arith}
use Rattle.sender.proofs.Counts.{count_min}
use Rattle.sender_records.proofs.count_of.Goals as goal

pub returns : goal.returns
returns c = (c.min.ensures ∙ count_min c.args.rec.now c.le-n.result c.le-n.ensures, omega (arith, c.min.ensures))
