-- Laws of a tracker's calls by numbers. Assumes nothing.
use mathlib.Core.Path.{◌≡◌, ap, sym, ◌∙◌}
use mathlib.Core.List.{List, [], ◌∷◌}
use Prim.Native.Nat.{ℕ, ◌≤◌}
use native.Mathlib.Omega.{arith}
use lib.ListN.{length, replicate, length-replicate}
use borrow.Author.Tests.{eq-eqb}
use Rattle.wire.specs.Parts.{part, splice}
use Rattle.wire.proofs.Parts.{part_same}
use Rattle.acks.specs.Recorded.{tracker_size}
use Rattle.acks.specs.Reporting.{Report}
use Rattle.acks.proofs.Recording.{is_long}
use Rattle.numbers_outcomes.specs.Trackers.{new_record, report_numbers, report_pairs}

-- a new record starts with 259 zeros
pub new_zeros : (r : List ℕ) → tracker_size ≤ length r → part (new_record r) 0 tracker_size ≡ replicate tracker_size 0
unfolding new_record
new_zeros r h =
    let z : length (replicate {A = ℕ} tracker_size 0) ≡ tracker_size = length-replicate {A = ℕ} tracker_size 0 in
    rw (is_long r h)
    (ap (part (splice r 0 (replicate tracker_size 0)) 0) (sym z) ∙ part_same r 0 (replicate tracker_size 0) (omega arith))

-- a report that is not refused, as it is lent
pub report_lent : (r : Report) (out pairs : List ℕ) → r.number ≡ 0
    → (report_numbers r out ≡ r.through ∷ r.count ∷ r.len ∷ []) × (report_pairs r pairs ≡ r.pairs)
unfolding report_numbers report_pairs
report_lent r out pairs z = (rw (eq-eqb r.number 0 z), rw (eq-eqb r.number 0 z))
