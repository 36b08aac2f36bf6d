use Rattle.std.proofs.Common.{◌≡◌, Bool, true, false, not, cond, ℕ, ◌+◌, ◌≤◌, refl, ◌∙◌, add-zero, arith}
use Rattle.std.specs.Int.{from_bool}
use Rattle.acks.specs.History.{among}
use Rattle.acks.specs.Expanding.{ack_numbers}
use Rattle.sender.proofs.Settling.{kept_below, settling_turn, settling_end}
use Rattle.sender_acks.proofs.Branches.{settling_prefix}
use Rattle.sender_acks.proofs.settle.Goals as goal

-- one more is kept where the packet is not named
counted : (named : Bool) (kept : ℕ) → kept + from_bool (not named) ≡ cond named kept (kept + 1)
counted true kept = add-zero kept
counted false kept = refl

at_most_one : (b : Bool) → from_bool b ≤ 1
at_most_one true = omega arith
at_most_one false = omega arith

pub loop-k-init : goal.loop-k-init
loop-k-init c =
    let a = c.args.said.ack in
    let p = c.pass-passed in
    record {
      so_far =
          settling_prefix (among (ack_numbers a.through a.count a.pairs.now)) c.args.rec.now c.args.settled.now (omega arith) (omega arith)
          (λ i. (c.slice_known-1.given i).fits) p.result.0 (omega arith) p.ensures.1;
      same_ack = p.ensures.2;
    }

pub settle_one-next-requires : goal.settle_one-next-requires
settle_one-next-requires c =
    let l = c.loop-k in
    (omega arith, omega arith, kept_below l.invariant.so_far (omega arith) (omega arith), omega arith)

pub overflow_add-kept : goal.overflow_add-kept
overflow_add-kept c =
    let l = c.loop-k in
    let b : l.kept ≤ l.k = kept_below l.invariant.so_far (omega arith) (omega arith) in
    omega (arith, at_most_one (not c.settle_one-next.result.named), c.from-kept.ensures)

pub loop-k-preserved : goal.loop-k-preserved
loop-k-preserved c =
    let a = c.args.said.ack in
    let l = c.loop-k in
    let e = l.invariant.same_ack in
    let one = c.settle_one-next in
    let n = c.from-kept.ensures in
    let p = rw e at one.ensures.0 in
    record {
      so_far = rw (n, counted one.result.named l.kept) (settling_turn l.invariant.so_far (omega arith) (omega arith) (omega arith) (λ i. (c.slice_known-1.given i).fits) p);
      same_ack = one.ensures.1 ∙ e;
    }

pub returns : goal.returns
returns c =
    let l = c.loop-k in
    settling_end _ _ _ _ _ l.invariant.so_far (omega arith)
