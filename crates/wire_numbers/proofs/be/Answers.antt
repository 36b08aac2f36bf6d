use Rattle.std.proofs.Common.{rules, arith, ◌∙◌}
use Rattle.wire.specs.Numbers.{big, little}
use Rattle.wire_numbers.proofs.Words.{read_more, read_all}
use Rattle.wire_numbers.proofs.be.Goals as goal

pub loop-byte-init : goal.loop-byte-init
unfolding big little
loop-byte-init g c = (search rules, c.zero-x.ensures)

pub push-x-requires : goal.push-x-requires
push-x-requires g c =
    let a = c.args in
    let l = c.loop-byte in
    (read_more a.b.now a.at c.WIDTH.result g.W.Word.WIDTH l.byte-index _ (λ i. (c.type_inv.b i).fits) c.WIDTH.ensures c.requires c.loop-byte-test.true l.invariant.1).1

pub loop-byte-preserved : goal.loop-byte-preserved
loop-byte-preserved g c =
    let a = c.args in
    let l = c.loop-byte in
    (search rules, c.push-x.ensures ∙ (read_more a.b.now a.at c.WIDTH.result g.W.Word.WIDTH l.byte-index _ (λ i. (c.type_inv.b i).fits) c.WIDTH.ensures c.requires c.loop-byte-test.true l.invariant.1).0)

pub returns : goal.returns
returns g c =
    let a = c.args in
    let l = c.loop-byte in
    read_all a.b.now a.at c.WIDTH.result g.W.Word.WIDTH l.byte-index _ c.WIDTH.ensures (omega arith) l.invariant.1
