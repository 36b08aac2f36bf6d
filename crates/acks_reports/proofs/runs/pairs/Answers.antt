use Prim.Native.Nat.{ℕ, ◌≤◌, ◌<◌, ◌+◌, ◌-◌}
use mathlib.Core.Path.{◌≡◌, refl, sym, ap, ◌∙◌}
use mathlib.Core.Bool.{true, false}
use mathlib.Core.List.{List, [], append-nil}
use lib.ListN.{length}
use native.Mathlib.Omega.{arith}
use Rattle.acks.specs.Runs.{leading, later_runs}
use Rattle.acks.specs.Reporting.{view, padded}
use Rattle.acks.proofs.View.{view_none}
use Rattle.acks.proofs.Pairs.{Turn, Sofar, from, turn, sofar, room, leading_view_le}
use Rattle.acks_reports.proofs.runs.pairs.Goals as goal

-- the missing run ends within the k numbers
nack_in : (m : List ℕ) (top k used nack : ℕ) → nack ≡ leading false (from m top k used) → used < k → used + nack ≤ k
nack_in m top k used nack n h =
    let l : nack ≤ k - used = rw n (leading_view_le false m (top - used) (k - used)) in
    omega arith

-- what a turn found
next_turn : {m bytes : List ℕ} {top k len used nack ack : ℕ} → used < k → Sofar m top k bytes len used
    → nack ≡ leading false (from m top k used)
    → ack ≡ leading true (from m top k (used + nack))
    → Turn m top k used nack ack
next_turn h s n a = turn _ _ _ _ _ _ h s.missing n a

-- and two bytes more have room
next_room : {m bytes : List ℕ} {top k len used nack ack : ℕ} → used < k → k ≤ 254 → Sofar m top k bytes len used
    → nack ≡ leading false (from m top k used)
    → ack ≡ leading true (from m top k (used + nack))
    → len + 1 < 254
next_room h small s n a = room _ _ _ _ _ _ _ _ s h small (next_turn h s n a)

pub loop-used-init : goal.loop-used-init
loop-used-init c =
    let a = c.args in
    let e : a.top - 0 ≡ a.top = omega arith in
    let f : a.k - 0 ≡ a.k = omega arith in
    record {
      w = [];
      below = omega arith;
      written = c.none.ensures.0;
      counted = refl;
      whole = rw (e, f);
      missing = rw (e, f) c.requires.2;
      even = omega arith;
      short = λ l. omega arith;
      fits = omega arith;
    }

pub overflow_add-mid : goal.overflow_add-mid
overflow_add-mid c = omega (arith, nack_in c.args.marks.now c.args.top c.args.k c.loop-used.used c.run-nack.result c.run-nack.ensures (omega arith))

pub overflow_sub-top-in-loop-used : goal.overflow_sub-top-in-loop-used
overflow_sub-top-in-loop-used c = omega (arith, nack_in c.args.marks.now c.args.top c.args.k c.loop-used.used c.run-nack.result c.run-nack.ensures (omega arith))

pub overflow_sub-k-in-loop-used : goal.overflow_sub-k-in-loop-used
overflow_sub-k-in-loop-used c = omega (arith, nack_in c.args.marks.now c.args.top c.args.k c.loop-used.used c.run-nack.result c.run-nack.ensures (omega arith))

pub run-ack-requires : goal.run-ack-requires
run-ack-requires c = omega (arith, nack_in c.args.marks.now c.args.top c.args.k c.loop-used.used c.run-nack.result c.run-nack.ensures (omega arith))

pub overflow_cast-bytes : goal.overflow_cast-bytes
overflow_cast-bytes c = omega (arith, (next_turn (omega arith) c.loop-used.invariant c.run-nack.ensures c.run-ack.ensures).within)

pub bounds-bytes-len : goal.bounds-bytes-len
bounds-bytes-len c = omega (arith, next_room (omega arith) (omega arith) c.loop-used.invariant c.run-nack.ensures c.run-ack.ensures)

pub overflow_cast-bytes-in-loop-used : goal.overflow_cast-bytes-in-loop-used
overflow_cast-bytes-in-loop-used c = omega (arith, (next_turn (omega arith) c.loop-used.invariant c.run-nack.ensures c.run-ack.ensures).within)

pub overflow_add-bytes : goal.overflow_add-bytes
overflow_add-bytes c = omega (arith, next_room (omega arith) (omega arith) c.loop-used.invariant c.run-nack.ensures c.run-ack.ensures)

pub bounds-bytes-len-in-loop-used : goal.bounds-bytes-len-in-loop-used
bounds-bytes-len-in-loop-used c = omega (arith, next_room (omega arith) (omega arith) c.loop-used.invariant c.run-nack.ensures c.run-ack.ensures)

pub overflow_add-len : goal.overflow_add-len
overflow_add-len c = omega (arith, next_room (omega arith) (omega arith) c.loop-used.invariant c.run-nack.ensures c.run-ack.ensures)

pub overflow_add-used : goal.overflow_add-used
overflow_add-used c = omega (arith, (next_turn (omega arith) c.loop-used.invariant c.run-nack.ensures c.run-ack.ensures).within)

pub loop-used-smaller : goal.loop-used-smaller
loop-used-smaller c =
    let t = next_turn (omega arith) c.loop-used.invariant c.run-nack.ensures c.run-ack.ensures in
    omega (arith, t.within, t.some)

pub loop-used-preserved : goal.loop-used-preserved
loop-used-preserved c =
    sofar _ _ _ _ _ _ _ _ c.loop-used.invariant (omega arith) (omega arith)
    (next_turn (omega arith) c.loop-used.invariant c.run-nack.ensures c.run-ack.ensures)

pub returns : goal.returns
unfolding later_runs
returns c =
    let a = c.args in
    let i = c.loop-used in
    let z : a.k - i.used ≡ 0 = omega (arith, i.invariant.below) in
    let e : later_runs true (view a.marks.now a.top a.k) ≡ i.invariant.w =
    i.invariant.whole ∙ rw (z, view_none a.marks.now (a.top - i.used)) (append-nil i.invariant.w) in
    (i.invariant.written ∙ ap padded (sym e), i.invariant.counted ∙ ap length (sym e))
