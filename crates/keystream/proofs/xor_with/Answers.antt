use Rattle.std.proofs.Common.{◌≡◌, ℕ, length, take, sym, ap, ◌∙◌, add-one, arith}
use Rattle.keystream.specs.Mask.{xor_with}
use Rattle.keystream.proofs.Masks.{xor_none, xor_more, xor_enough}
use Rattle.keystream.proofs.xor_with.Goals as goal

pub loop-i-init : goal.loop-i-init
loop-i-init c = sym (xor_none _)

pub loop-i-preserved : goal.loop-i-preserved
loop-i-preserved c =
    let l = c.loop-i in
    rw (add-one, l.invariant) (xor_more _ _ l.i (omega arith) (omega arith))

pub returns : goal.returns
returns c =
    let l = c.loop-i in
    let e : l.i ≡ length c.args.part.now = omega arith in
    l.invariant ∙ ap (λ (n : ℕ). xor_with c.args.part.now (take n c.args.stream.now)) e ∙ xor_enough _ _
