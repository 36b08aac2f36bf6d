use Rattle.std.proofs.Common.{◌≡◌, ◌-◌, ◌%◌, length, take, arith}
use Rattle.std.proofs.lemmas.List.{length-take-le}
use Rattle.acks.proofs.Naming.{stands_last, run_none}
use Rattle.acks_naming.proofs.Left.{all_left}
use Rattle.acks_naming.proofs.Walk.new.Goals as goal

pub invariant_of-result : goal.invariant_of-result
invariant_of-result c =
    let s = c.args.said in
    let ps = s.ack.pairs.now in
    let n = length ps - length ps % 2 in
    let e : length (take n ps) ≡ n = length-take-le n ps (omega arith) in
    record {
      front = all_left n ps (omega arith);
      stands = rw e (stands_last s.ack.through s.ack.count ps s.lowest s.ends);
      run = run_none s.ack.through s.ack.count ps _;
    }
