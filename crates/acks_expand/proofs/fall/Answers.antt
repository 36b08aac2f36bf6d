use Rattle.std.proofs.Common.{◌+◌, ◌-◌, refl, sym, ◌∙◌, arith}
use lib.ListN.{length-set}
use Rattle.acks.specs.Window.{falling}
use Rattle.wire.proofs.Slices.{splice_none}
use Rattle.acks.proofs.Filling.{falls_more}
use Rattle.acks_expand.proofs.fall.Goals as goal

pub loop-j-init : goal.loop-j-init
unfolding falling
loop-j-init c = (sym (splice_none c.args.list.now c.args.at), refl)

pub loop-j-preserved : goal.loop-j-preserved
loop-j-preserved c =
    let a = c.args in
    let l = c.loop-j in (
      rw l.invariant.0 (falls_more a.list.now a.at (a.above - 1) l.j (omega arith)),
      length-set l.list (a.at + l.j) (a.above - 1 - l.j) ∙ l.invariant.1,
    )
