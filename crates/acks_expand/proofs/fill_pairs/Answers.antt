use Rattle.std.proofs.Common.{◌≡◌, ◌-◌, length, refl, arith}
use Rattle.acks.proofs.Filling.{wrote_start, wrote_end}
use Rattle.acks_expand.proofs.Written.{pair_spends, pair_fits, pair_written}
use Rattle.acks_expand.proofs.fill_pairs.Goals as goal

pub loop-left-init : goal.loop-left-init
loop-left-init c =
    let a = c.args in
    let e : length a.pairs.now - length a.pairs.now ≡ 0 = omega arith in
    rw e (wrote_start a.pairs.now a.list.now a.place a.top c.requires.1 c.requires.0, record { rest_is = refl; from_end = omega arith })

pub overflow_sub-above : goal.overflow_sub-above
overflow_sub-above c =
    let e = pair_spends _ _ _ _ c.requires.1 _ _ _ _ _ c.loop-left.invariant c.in-len2-up.len_at_least _ _ c.from-nack.ensures c.from-ack.ensures in
    omega (arith, e)

pub fall-requires : goal.fall-requires
fall-requires c =
    let e = pair_spends _ _ _ _ c.requires.1 _ _ _ _ _ c.loop-left.invariant c.in-len2-up.len_at_least _ _ c.from-nack.ensures c.from-ack.ensures in
    (pair_fits _ _ _ _ c.requires.1 _ _ _ _ _ c.loop-left.invariant c.in-len2-up.len_at_least _ _ c.from-nack.ensures c.from-ack.ensures, omega (arith, e))

pub overflow_sub-above-in-len2-up : goal.overflow_sub-above-in-len2-up
overflow_sub-above-in-len2-up c =
    let e = pair_spends _ _ _ _ c.requires.1 _ _ _ _ _ c.loop-left.invariant c.in-len2-up.len_at_least _ _ c.from-nack.ensures c.from-ack.ensures in
    omega (arith, e)

pub overflow_sub-above-in-len2-up-2 : goal.overflow_sub-above-in-len2-up-2
overflow_sub-above-in-len2-up-2 c =
    let e = pair_spends _ _ _ _ c.requires.1 _ _ _ _ _ c.loop-left.invariant c.in-len2-up.len_at_least _ _ c.from-nack.ensures c.from-ack.ensures in
    omega (arith, e)

pub overflow_add-at : goal.overflow_add-at
overflow_add-at c =
    let e = pair_fits _ _ _ _ c.requires.1 _ _ _ _ _ c.loop-left.invariant c.in-len2-up.len_at_least _ _ c.from-nack.ensures c.from-ack.ensures in
    omega (arith, e)

pub loop-left-preserved : goal.loop-left-preserved
loop-left-preserved c =
    pair_written _ _ _ _ c.requires.1 _ _ _ _ _ c.loop-left.invariant c.in-len2-up.len_at_least _ _ c.from-nack.ensures c.from-ack.ensures _ c.fall.ensures

pub returns : goal.returns
returns c =
    let s = c.loop-left.invariant in
    wrote_end _ _ _ _ c.requires.1 _ _ _ _ s.0 (omega (arith, s.1.from_end))
