use Rattle.std.proofs.Common.{refl, ◌∙◌, arith}
use lib.ListN.{length-set}
use lib.Seq.{paste-zero}
use Rattle.wire.specs.Parts.{part}
use Rattle.wire.proofs.Moving.{move_turn, move_end}
use Rattle.wire.proofs.move_down.Goals as goal

pub loop-i-init : goal.loop-i-init
loop-i-init c = (refl, paste-zero c.args.b.now c.args.to (part c.args.b.now c.args.from c.args.n))

pub loop-i-preserved : goal.loop-i-preserved
loop-i-preserved c =
    let a = c.args in
    let l = c.loop-i in
    (length-set _ _ _ ∙ l.invariant.0, move_turn a.b.now l.b a.to a.from a.n l.i l.invariant.1 (omega arith) (omega arith) (omega arith))

pub returns : goal.returns
returns c =
    let a = c.args in
    let l = c.loop-i in
    move_end a.b.now l.b a.to a.from a.n l.i l.invariant.1 (omega arith) (omega arith)
