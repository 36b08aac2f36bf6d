-- What the rules say of a tracker, over every history of calls: `calls` are the numbers handed to `register`, the first call first.
use Rattle.std.specs.Prelude.{◌≡◌, ◌&&◌, List, ℕ}
use Rattle.acks.specs.Window.{in_window}
use Rattle.acks.specs.History.{answer_to, among, received, highest_seen, newest}
use Rattle.acks.specs.Tracking.{fresh, is_duplicate, register_of, register_all}
use Rattle.acks.specs.Reporting.{Report, ack_info}
use Rattle.acks.specs.declared.Tracker.{Tracker}

-- the tracker after a history of calls
abbrev pub tracker_after : List ℕ → Tracker
tracker_after calls = register_all fresh calls

-- its report
abbrev pub report_after : List ℕ → Report
report_after calls = ack_info (tracker_after calls)

-- a registration answers 40, 42, 43 or 0 by what was seen and received before it
abbrev pub Answered : Type 0
Answered = (calls : List ℕ) (n : ℕ) → (register_of (tracker_after calls) n).answer ≡ answer_to (highest_seen calls) (among (received calls)) n

-- a number is a duplicate exactly if it is in the window and received
abbrev pub Duplicates : Type 0
Duplicates =
    (calls : List ℕ) (n : ℕ) → is_duplicate (tracker_after calls).highest (tracker_after calls).marks n ≡ (in_window (highest_seen calls) n && among (received calls) n)

-- so the duplicates are exactly the received numbers of the window
abbrev pub DuplicatesAreNewest : Type 0
DuplicatesAreNewest = (calls : List ℕ) (n : ℕ) → is_duplicate (tracker_after calls).highest (tracker_after calls).marks n ≡ among (newest calls) n

-- two histories with the same received numbers in the window report the same
abbrev pub SameReport : Type 0
SameReport = (a b : List ℕ) → newest a ≡ newest b → report_after a ≡ report_after b
