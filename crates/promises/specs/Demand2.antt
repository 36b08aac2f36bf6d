-- Demand 2: an acknowledgement, expanded, names exactly the numbers received among the newest 255.
use Rattle.std.specs.Prelude.{◌≡◌, List, [], ℕ, ◌≤◌, ◌<◌, length}
use Rattle.wire.specs.Parts.{splice}
use Rattle.acks.specs.History.{received, highest_seen, newest}
use Rattle.acks.specs.Reporting.{Report, silent, pair_bytes}
use Rattle.acks.specs.Expanding.{expand_of, list_after}
use Rattle.promises.specs.Acks.{report_after}

-- an acknowledgement, expanded into a lent list, is exactly some numbers: they stand in front, their count is returned, the rest of the list stays
pub record ExpandsTo (through acked : ℕ) (pairs list names : List ℕ) : Type 0 where
  pub answers : expand_of through acked pairs (length list) ≡ record { number = 0; count = length names }
  pub fills : list_after through acked pairs list ≡ splice list 0 names

-- what a report is once a number was received
pub record Acknowledges (calls : List ℕ) (r : Report) : Type 0 where
  pub given : r.number ≡ 0
  pub highest : r.through ≡ highest_seen calls
  pub exact : (list : List ℕ) → 255 ≤ length list → ExpandsTo r.through r.count (pair_bytes r) list (newest calls)

-- for every history of calls: before any number the report is refused with 41, and from then on, expanded, it is exactly the received numbers of the window, falling
abbrev pub Demand2 : Type 0
Demand2 =
    (calls : List ℕ)
    → (received calls ≡ [] → report_after calls ≡ silent) × (0 < length (received calls) → Acknowledges calls (report_after calls))
