use mathlib.Core.Path.{◌≡◌, ap, ◌∙◌}
use native.Mathlib.Omega.{arith}
use Rattle.reassembly.specs.Calls.{swept_to}
use Rattle.reassembly.proofs.Branches.{swept_more}
use Rattle.reassembly_store.proofs.sweep_slots.Goals as goal

pub loop-i-preserved : goal.loop-i-preserved
loop-i-preserved c =
    let l = c.loop-i in
    swept_more c.args.second c.args.rec.now l.rec c.sweep_one.new.rec l.i l.invariant c.sweep_one.ensures

pub returns : goal.returns
returns c =
    let e : c.loop-i.i ≡ 4 = omega arith in
    c.loop-i.invariant ∙ ap (swept_to c.args.second c.args.rec.now) e
