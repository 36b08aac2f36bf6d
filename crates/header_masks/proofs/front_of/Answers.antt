use Rattle.header.proofs.Fronts.{front_by_steps}
use borrow.Author.Rules.{rules}
use Rattle.header_masks.proofs.front_of.Goals as goal

pub returns : goal.returns
returns c =
    let a = c.args in
    front_by_steps a.k1.now a.k2.now a.pkt.now (search rules)
    c.array_at-first.ensures c.array_at-second.ensures c.array_at-head.ensures c.mask.ensures c.mask-2.ensures
