use mathlib.Core.Path.{◌∙◌}
use Rattle.wire.proofs.Slices.{slice_is}
use Rattle.header_masks.proofs.array_at.Goals as goal

pub returns : goal.returns
returns g c =
    let whole = rw c.unwrap.ensures at c.try_into.ensures.1 in
    whole.same ∙ slice_is c.args.pkt.now c.args.at g.row.N
