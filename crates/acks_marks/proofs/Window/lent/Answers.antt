use mathlib.Core.Path.{refl, ap, ◌∙◌}
use native.Mathlib.Omega.{arith}
use lib.ListN.{take}
use Rattle.wire.specs.Parts.{part}
use Rattle.acks.specs.Recorded.{tracker_at}
use Rattle.acks.proofs.Recording.{is_short_lem, is_long}
use Rattle.acks_marks.proofs.Window.lent.Goals as goal

pub returns-in_default : goal.returns-in_default
returns-in_default c = (is_short_lem c.args.tracker.now (omega (arith, c.in_default.ensures.cases)), refl)

pub returns-in_default-first_chunk : goal.returns-in_default-first_chunk
returns-in_default-first_chunk c = (is_short_lem c.args.tracker.now (omega (arith, c.in-Some.ensures.cases, c.in_default-first_chunk.ensures.cases)), refl)

pub returns : goal.returns
unfolding tracker_at part
returns c =
    let m = c.in-Some-first_chunk.ensures.cases in
    let r = c.in-Some.ensures.cases in
    (is_long c.args.tracker.now (omega (arith, r, m.enough)), c.le.ensures, m.same ∙ ap (take 255) r.1)
