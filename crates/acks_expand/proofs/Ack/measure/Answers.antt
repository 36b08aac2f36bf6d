use Rattle.std.proofs.Common.{◌≡◌, ◌-◌, length, refl, ◌∙◌, arith}
use Rattle.acks.proofs.Measuring.{summed_start, summed_step, measured, within, beyond}
use Rattle.acks_expand.proofs.Front.{first_is, second_is, pair_there, two_off, two_on, rest_on}
use Rattle.acks_expand.proofs.Ack.measure.Goals as goal

pub loop-left-init : goal.loop-left-init
loop-left-init c =
    let a = c.args.self in
    let e : length a.pairs.now - length a.pairs.now ≡ 0 = omega arith in
    rw (e, c.from-sum.ensures, c.from-names.ensures)
    (summed_start a.through a.count a.pairs.now (omega arith), record { rest_is = refl; from_end = omega arith })

pub returns-then-limit-sum : goal.returns-then-limit-sum
returns-then-limit-sum c = beyond _ _ _ _ _ _ c.loop-left.invariant.0 (omega arith)

pub overflow_add-names-in-len2-up : goal.overflow_add-names-in-len2-up
overflow_add-names-in-len2-up c = omega (arith, c.loop-left.invariant.0.few, c.loop-left.invariant.0.bounded)

pub loop-left-preserved : goal.loop-left-preserved
loop-left-preserved c =
    let a = c.args.self in
    let l = c.loop-left in
    let r = l.invariant.1 in
    let h = c.in-len2-up.len_at_least in
    let same : c.from-names-in-len2-up.result ≡ c.from-in-len2-up.result = omega arith in
    rw (two_off _ _ _ r, two_on _ _ _ r h, same) (
      summed_step a.through a.count a.pairs.now l.sum l.names _ c.from.result c.from-in-len2-up.result l.invariant.0
          (pair_there _ _ _ r h) (omega arith) (c.from.ensures ∙ first_is _ _ _ r) (omega arith) (c.from-in-len2-up.ensures ∙ second_is _ _ _ r) (omega arith),
      rest_on _ _ _ r h,
    )

pub invariant_of-result : goal.invariant_of-result
invariant_of-result c =
    let m = measured _ _ _ _ _ _ c.loop-left.invariant.0 (omega (arith, c.loop-left.invariant.1.from_end)) (omega arith) in
    record { named = m.1; ends = m.2 }

pub returns-then-sum-limit : goal.returns-then-sum-limit
returns-then-sum-limit c = (within _ _ _ _ _ _ c.loop-left.invariant.0 (omega (arith, c.loop-left.invariant.1.from_end)) (omega arith), refl)

pub returns : goal.returns
returns c = beyond _ _ _ _ _ _ c.loop-left.invariant.0 (omega arith)
