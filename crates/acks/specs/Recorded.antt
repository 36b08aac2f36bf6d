-- The tracker's record as bytes that a caller lends: the highest number in four, its low byte first, then the 255 marks.
use Rattle.std.specs.Prelude.{Bool, true, false, cond, Result, Ok, Err, List, [], ◌∷◌, ◌++◌, ℕ, ltb, length}
use Rattle.wire.specs.Parts.{part, splice}
use Rattle.wire.specs.Numbers.{little_at, little_bytes}
use Rattle.acks.specs.Tracking.{is_duplicate, register_of}
use Rattle.acks.specs.Reporting.{Report, refused_report, ack_info}
use Rattle.acks.specs.declared.Tracker.{Tracker}
use Rattle.refusals.specs.declared.Refusal.{Refusal}
use Rattle.refusals.specs.Numbers.{number}

-- the bytes of a tracker's record
abbrev pub tracker_size : ℕ
tracker_size = 259

-- where its marks begin
abbrev pub marks_at : ℕ
marks_at = 4

-- fewer bytes than a record has
unfoldable pub tracker_short : List ℕ → Bool
tracker_short r = ltb (length r) tracker_size

-- the tracker that its first bytes are: every byte pattern is one
unfoldable pub tracker_at : List ℕ → Tracker
tracker_at r = record { highest = little_at 4 r 0; marks = part r marks_at 255 }

-- the bytes of a tracker
unfoldable pub tracker_bytes : Tracker → List ℕ
tracker_bytes t = little_bytes 4 t.highest ++ t.marks

-- what registering there answers
unfoldable pub register_there : List ℕ → ℕ → ℕ
register_there r n = cond (tracker_short r) 59 (register_of (tracker_at r) n).answer

-- and what it leaves: the tracker that the registration by value returns, and the bytes behind it as they were
unfoldable pub record_after : List ℕ → ℕ → List ℕ
record_after r n = cond (tracker_short r) r (splice r 0 (tracker_bytes (register_of (tracker_at r) n).tracker))

-- a record after calls of register_in, the first call first
unfoldable pub record_all : List ℕ → List ℕ → List ℕ
record_all r [] = r
record_all r (n ∷ calls) = record_all (record_after r n) calls

-- whether number n is a duplicate there: 1 for yes, 0 for no
unfoldable pub duplicate_there : List ℕ → ℕ → ℕ
duplicate_there r n = cond (tracker_short r) 59 (cond (is_duplicate (tracker_at r).highest (tracker_at r).marks n) 1 0)

-- what the code answers to the same, as that number
abbrev pub duplicate_number : Result Bool Refusal → ℕ
duplicate_number (Ok true) = 1
duplicate_number (Ok false) = 0
duplicate_number (Err r) = number r

-- what the tracker there reports
unfoldable pub report_there : List ℕ → Report
report_there r = cond (tracker_short r) (refused_report 59) (ack_info (tracker_at r))
