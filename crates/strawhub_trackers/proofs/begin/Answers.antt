use mathlib.Core.Path.{◌≡◌, refl, ap, ◌∙◌}
use mathlib.Core.List.{List, ◌++◌}
use Prim.Native.Nat.{ℕ}
use lib.ListN.{length, take, drop, replicate}
use lib.Seq.{length-take-le}
use Rattle.wire.specs.Parts.{splice}
use Rattle.acks.proofs.Recording.{is_short_lem, is_long}
use Rattle.numbers_outcomes.specs.Trackers.{new_answer, new_record}
use Rattle.strawhub_trackers.proofs.begin.Goals as goal

pub returns-then-tracker-lt-TRACKER_SIZE : goal.returns-then-tracker-lt-TRACKER_SIZE
unfolding new_answer new_record
returns-then-tracker-lt-TRACKER_SIZE c = rw (is_short_lem c.args.tracker.now c.if-tracker-lt-TRACKER_SIZE.true) (refl, refl)

pub returns : goal.returns
unfolding new_answer new_record splice
returns c =
    let r = c.args.tracker.now in
    let n : length (take 259 r) ≡ 259 = length-take-le 259 r c.if-tracker-lt-TRACKER_SIZE.false in
    let z : c.fill.new.self ≡ replicate 259 0 = c.fill.ensures.after (λ y e. e) ∙ ap (λ (k : ℕ). replicate {A = ℕ} k 0) n in
    rw (is_long r c.if-tracker-lt-TRACKER_SIZE.false) (refl, ap (λ (l : List ℕ). l ++ drop 259 r) z)
