use Prim.Native.Nat.{◌≤◌}
use mathlib.Core.Path.{◌≡◌, refl, ◌∙◌}
use native.Mathlib.Omega.{arith}
use lib.ListN.{length}
use Rattle.std.proofs.lemmas.Result.{err_from_is_err_and}
use Rattle.acks.specs.Recorded.{tracker_size}
use Rattle.acks.proofs.Recording.{short_refused, answered, left, stays}
use Rattle.acks_tracker.proofs.recorded.register_in.Goals as goal

pub returns-then-tracker-lt-TRACKER_SIZE : goal.returns-then-tracker-lt-TRACKER_SIZE
returns-then-tracker-lt-TRACKER_SIZE c = short_refused c.args.tracker.now c.args.n (omega arith)

pub returns-in_err-raised : goal.returns-in_err-raised
returns-in_err-raised c =
    let p = err_from_is_err_and c.from_residual.result c.from_residual.ensures.1 in
    let long : tracker_size ≤ length c.args.tracker.now = c.if-tracker-lt-TRACKER_SIZE.false in
    let size : length c.register_ring.new.ring ≡ 255 = omega (arith, c.register_ring.auto.ring) in
    let a = answered c.args.tracker.now _ _ _ _ _ _ long c.le-top.ensures refl size c.in_err-raised.ensures in
    let l = stays c.args.tracker.now _ _ _ _ _ _ long c.le-top.ensures refl size c.in_err-raised.ensures (λ i. (c.slice_known-1.given i).fits) refl in
    rw (p.1, p.2) (a, l)

pub returns : goal.returns
returns c =
    let long : tracker_size ≤ length c.args.tracker.now = c.if-tracker-lt-TRACKER_SIZE.false in
    let size : length c.register_ring.new.ring ≡ 255 = omega (arith, c.register_ring.auto.ring) in
    let a = answered c.args.tracker.now _ _ _ _ _ _ long c.le-top.ensures refl size c.in_ok-raised.ensures in
    let l = left c.args.tracker.now _ _ _ _ _ _ long c.le-top.ensures refl size c.in_ok-raised.ensures in
    (a, c.put_le.ensures ∙ l)
