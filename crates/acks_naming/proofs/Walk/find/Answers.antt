use Rattle.std.proofs.Common.{arith}
use Rattle.acks.proofs.Naming.{run_below}
use Rattle.acks_naming.proofs.Walk.find.Goals as goal

pub invariant_of-result : goal.invariant_of-result
invariant_of-result c =
    let w = c.args.self in
    let s = w.said in
    record {
      front = w.front;
      stands = w.stands;
      run = run_below s.ack.through s.ack.count s.ack.pairs.now (omega (arith, s.ends)) s.lowest s.ends (omega arith);
    }
