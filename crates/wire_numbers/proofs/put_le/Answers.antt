use Rattle.std.proofs.Common.{rules, arith, ◌∙◌, refl, sym, ap, ◌%◌, slice_set, length-set}
use Rattle.wire.specs.Numbers.{little_bytes}
use Rattle.wire.proofs.Slices.{splice_none}
use Rattle.wire_numbers.proofs.Words.{put_more, above_more, put_all}
use Rattle.wire_numbers.proofs.put_le.Goals as goal

pub loop-byte-init : goal.loop-byte-init
unfolding little_bytes
loop-byte-init g c = (search rules, refl, omega arith, sym (splice_none _ 0))

pub loop-byte-preserved : goal.loop-byte-preserved
loop-byte-preserved g c =
    let l = c.loop-byte in
    let x = g.W.Word.value c.args.x in (
      simp length-set (search rules),
      simp length-set l.invariant.1,
      c.above-rest.ensures ∙ above_more l.byte-index x _ l.invariant.2,
      ap (λ items. slice_set items l.byte-index c.low.result) l.invariant.3
          ∙ put_more _ l.byte-index x c.low.result c.loop-byte-test.true (c.low.ensures ∙ ap (λ z. z % 256) l.invariant.2),
    )

pub returns : goal.returns
returns g c =
    let a = c.args in
    let l = c.loop-byte in
    put_all a.b.now l.byte-items a.at c.WIDTH.result g.W.Word.WIDTH l.byte-index (g.W.Word.value a.x) c.WIDTH.ensures c.requires l.invariant.3 (omega arith)
