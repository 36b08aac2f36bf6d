use Rattle.std.proofs.Common.{◌+◌, ◌∙◌, ap, arith, length}
use Rattle.wire.specs.Parts.{splice}
use Rattle.wire.proofs.Lent.{lent_part}
use Rattle.wire.proofs.copy_to.Goals as goal

pub returns : goal.returns
returns c =
    let a = c.args in
    let copied = c.copy_from_slice.ensures.after in
    lent_part a.dst.now a.at (a.at + length a.src.now) c.copy_from_slice.new.self (omega arith) (omega (arith, ap length copied))
    ∙ ap (splice a.dst.now a.at) copied
