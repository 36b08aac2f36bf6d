use Rattle.std.proofs.Common.{arith, sym, ◌∙◌}
use lib.Seq.{paste-zero}
use Rattle.wire.proofs.Copying.{copy_end}
use Rattle.lines.specs.Digits.{pairs_of}
use Rattle.lines.proofs.Filling.{fill_turn}
use Rattle.lines.proofs.Hex.{good_length, good_byte, pair_at, byte_read}
use Rattle.lines.proofs.fill.Goals as goal

pub bounds-out-i : goal.bounds-out-i
bounds-out-i c = omega (arith, good_length c.args.field.now c.requires.0)

pub loop-i-init : goal.loop-i-init
loop-i-init c = paste-zero c.args.out.now 0 (pairs_of c.args.field.now)

pub loop-i-preserved : goal.loop-i-preserved
loop-i-preserved c =
    let field = c.args.field.now in
    let i = c.loop-i.i in
    let s = pairs_of field in
    let g = good_length field c.requires.0 in
    let e = pair_at field i (omega (arith, g)) in
    let b = byte_read c.pair.result _ (c.pair.ensures ∙ sym e) (good_byte s i c.requires.0 (omega (arith, g))) in
    fill_turn c.args.out.now s c.loop-i.out i c.unwrap_or.result c.loop-i.invariant (omega (arith, g)) (omega (arith, g)) (c.unwrap_or.ensures ∙ b)

pub returns : goal.returns
returns c =
    copy_end c.args.out.now (pairs_of c.args.field.now) c.loop-i.out 0 c.loop-i.i c.loop-i.invariant (omega (arith, good_length c.args.field.now c.requires.0))
