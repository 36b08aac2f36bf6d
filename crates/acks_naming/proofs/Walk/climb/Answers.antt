use Rattle.std.proofs.Common.{arith}
use Rattle.acks.proofs.Naming.{run_above, run_past}
use Rattle.acks_naming.proofs.Left.{last_pair}
use Rattle.acks_naming.proofs.Walk.climb.Goals as goal

pub overflow_add-result : goal.overflow_add-result
overflow_add-result c =
    let i = c.in-Some in
    let v = c.loop-before.invariant in
    let e = i.ensures.cases in
    omega (arith, (last_pair _ _ _ _ c.args.self.said.ends _ _ v.front v.stands _ _ e.0 e.1 e.2 _ _ c.from-nack.ensures c.from-ack.ensures).below)

pub invariant_of-result : goal.invariant_of-result
invariant_of-result c =
    let i = c.in-Some in
    let v = c.loop-before.invariant in
    let e = i.ensures.cases in
    let p = last_pair _ _ _ _ c.args.self.said.ends _ _ v.front v.stands _ _ e.0 e.1 e.2 _ _ c.from-nack.ensures c.from-ack.ensures in
    record { front = v.front; stands = v.stands; run = p.named (omega arith) }

pub overflow_add-over-in-Some : goal.overflow_add-over-in-Some
overflow_add-over-in-Some c =
    let i = c.in-Some in
    let v = c.loop-before.invariant in
    let e = i.ensures.cases in
    omega (arith, (last_pair _ _ _ _ c.args.self.said.ends _ _ v.front v.stands _ _ e.0 e.1 e.2 _ _ c.from-nack.ensures c.from-ack.ensures).below)

pub invariant_of-result-then-x-over : goal.invariant_of-result-then-x-over
invariant_of-result-then-x-over c =
    let i = c.in-Some in
    let v = c.loop-before.invariant in
    let e = i.ensures.cases in
    let p = last_pair _ _ _ _ c.args.self.said.ends _ _ v.front v.stands _ _ e.0 e.1 e.2 _ _ c.from-nack.ensures c.from-ack.ensures in
    record { front = p.front; stands = p.stands; run = p.skipped (omega arith) }

pub loop-before-preserved : goal.loop-before-preserved
loop-before-preserved c =
    let i = c.in-Some in
    let v = c.loop-before.invariant in
    let e = i.ensures.cases in
    let p = last_pair _ _ _ _ c.args.self.said.ends _ _ v.front v.stands _ _ e.0 e.1 e.2 _ _ c.from-nack.ensures c.from-ack.ensures in
    record { front = p.front; stands = p.stands; below = omega arith }

pub invariant_of-result-then-x-through : goal.invariant_of-result-then-x-through
invariant_of-result-then-x-through c =
    let s = c.args.self.said in
    let v = c.loop-before.invariant in
    record {
      front = v.front;
      stands = v.stands;
      run = run_above s.ack.through s.ack.count s.ack.pairs.now (omega (arith, s.ends)) _ _ v.stands (omega (arith, c.in_default.ensures.cases));
    }

pub invariant_of-result-2 : goal.invariant_of-result-2
invariant_of-result-2 c =
    let s = c.args.self.said in
    let v = c.loop-before.invariant in
    record {
      front = v.front;
      stands = v.stands;
      run = run_past s.ack.through s.ack.count s.ack.pairs.now (omega (arith, s.ends)) 4294967295;
    }
