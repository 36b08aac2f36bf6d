use Rattle.std.proofs.Common.{ap, ◌∙◌, length}
use Rattle.acks.specs.Expanding.{expand_of, list_after}
use Rattle.wire.proofs.Slices.{part_cut_to}
use Rattle.acks_expand.proofs.expand_ack.Goals as goal

pub returns : goal.returns
returns c =
    let a = c.args in
    let f = c.min-from in
    let k = c.min in
    let e = part_cut_to a.payload.now a.pairs.start a.pairs.len f.result k.result f.ensures k.ensures in (
      c.expand.ensures.0 ∙ ap (λ ps. expand_of a.through a.count ps (length a.list.now)) e,
      c.expand.ensures.1 ∙ ap (λ ps. list_after a.through a.count ps a.list.now) e,
    )
