use Rattle.std.proofs.Common.{◌≡◌, length, refl, arith, rules}
use Rattle.keystream.specs.Chacha.{add32}
use Rattle.keystream.proofs.State.{finish_none, finish_more, finish_all}
use Rattle.keystream.proofs.rounds.finish.Goals as goal

pub loop-i-init : goal.loop-i-init
loop-i-init c = finish_none c.args.s c.args.t _

pub loop-i-preserved : goal.loop-i-preserved
unfolding add32
loop-i-preserved c =
    let n : (length c.args.s ≡ 16) × (length c.args.t ≡ 16) = search rules in
    finish_more _ _ _ n.0 n.1 refl _ _ _ _ c.loop-i-test.true c.loop-i.invariant refl c.put_le.ensures

pub returns : goal.returns
returns c =
    let n : (length c.args.s ≡ 16) × (length c.args.t ≡ 16) = search rules in
    let e : c.loop-i.i ≡ 16 = omega arith in
    finish_all _ _ _ n.0 n.1 refl _ _ e c.loop-i.invariant
