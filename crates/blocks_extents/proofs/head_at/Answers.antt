use native.Mathlib.Omega.{arith}
use Rattle.blocks.proofs.Ends.{headed, headless}
use Rattle.blocks_extents.proofs.head_at.Goals as goal
use Rattle.blocks_extents.proofs.head_at.Goals.{then-payload-lt3-via-then-payload-lt3, then-payload-lt3-via-else-payload-lt3+then-payload-at}

pub returns-then-payload-lt3 : goal.returns-then-payload-lt3
returns-then-payload-lt3 c = headless c.args.payload.now c.args.at (elim c.then-payload-lt3.branch [ then-payload-lt3-via-then-payload-lt3 w ↦ omega (arith, w.if-payload-lt3.true) | then-payload-lt3-via-else-payload-lt3+then-payload-at w ↦ omega (arith, w.if-payload-lt3.false, w.if-payload-at.true) ])

pub returns : goal.returns
returns c = headed c.args.payload.now c.args.at c.be.result (omega (arith, c.if-payload-lt3.false, c.if-payload-at.false)) c.be.ensures
