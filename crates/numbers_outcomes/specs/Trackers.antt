-- A tracker's calls as numbers.
use Rattle.std.specs.Prelude.{cond, List, [], ◌∷◌, ℕ, eqb, replicate}
use Rattle.wire.specs.Parts.{splice}
use Rattle.acks.specs.Recorded.{tracker_size, tracker_short}
use Rattle.acks.specs.Reporting.{Report}

-- 59 where the record is short
unfoldable pub new_answer : List ℕ → ℕ
new_answer r = cond (tracker_short r) 59 0

-- zeros in front of it, as many as a record has bytes; or as it was
unfoldable pub new_record : List ℕ → List ℕ
new_record r = cond (tracker_short r) r (splice r 0 (replicate tracker_size 0))

-- through, count and the count of pair bytes; refused, as they were
unfoldable pub report_numbers : Report → List ℕ → List ℕ
report_numbers r out = cond (eqb r.number 0) (r.through ∷ r.count ∷ r.len ∷ []) out

-- the pairs; refused, as they were
unfoldable pub report_pairs : Report → List ℕ → List ℕ
report_pairs r pairs = cond (eqb r.number 0) r.pairs pairs
