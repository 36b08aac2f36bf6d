-- Demand 2 of the C calls: from a new record on, after any history of strawhub_tracker_register.
-- `register_there` and `record_all`, `duplicate_there`, `report_there` with `report_numbers` and `report_pairs`, `write_outcome`, `ack_writing` and `ack_room`, `read_at`, `expand_of` and `list_after` are what the contracts of the calls say.
use Rattle.std.specs.Prelude.{◌≡◌, cond, List, [], ◌∷◌, ℕ, ◌+◌, ◌^◌, ◌≤◌, ◌<◌, length, take, drop, replicate}
use Rattle.wire.specs.Parts.{part}
use Rattle.blocks.specs.Names.{ack_fields}
use Rattle.blocks.specs.Reading.{bytes_at, block_read, read_at}
use Rattle.acks.specs.History.{Packets, answer_to, among, received, highest_seen, newest}
use Rattle.acks.specs.Recorded.{tracker_size, tracker_at, register_there, record_all, duplicate_there, report_there}
use Rattle.acks.specs.AckBlocks.{ack_writing, ack_room}
use Rattle.acks.specs.Reporting.{Report}
use Rattle.numbers_outcomes.specs.Outcomes.{outcome, write_outcome}
use Rattle.numbers_outcomes.specs.Trackers.{new_record, report_numbers, report_pairs}
use Rattle.promises.specs.Acks.{tracker_after}
use Rattle.promises.specs.Demand2.{ExpandsTo}

-- a new record: its bytes are zeros, as far as a tracker's record goes
abbrev pub Fresh : List ℕ → Type 0
Fresh rec = part rec 0 tracker_size ≡ replicate tracker_size 0

-- such are a record of zeros, and what strawhub_tracker_new leaves of any record that is long enough
abbrev pub TrackerStarts : Type 0
TrackerStarts = Fresh (replicate tracker_size 0) × ((rec : List ℕ) → tracker_size ≤ length rec → Fresh (new_record rec))

-- a report refused with 41: the lent numbers, pairs and room stay
pub record Unreported (r : Report) (out pairs room : List ℕ) : Type 0 where
  pub is_41 : r.number ≡ 41
  pub numbers_stay : report_numbers r out ≡ out
  pub pairs_stay : report_pairs r pairs ≡ pairs
  pub block_41 : write_outcome (ack_writing r (length room)) ≡ outcome 41 0
  pub room_stays : ack_room r room ≡ room

-- a report as strawhub_tracker_report lends it, in numbers that strawhub_ack_expand takes, names exactly the newest
pub record Reported (calls : List ℕ) (r : Report) (out pairs list : List ℕ) : Type 0 where
  pub given : r.number ≡ 0
  pub numbers : report_numbers r out ≡ highest_seen calls ∷ r.count ∷ r.len ∷ []
  pub in_width : (highest_seen calls < 256 ^ 4) × (r.count < 256) × (r.len ≤ 254)
  pub exact : ExpandsTo (highest_seen calls) r.count (take r.len (report_pairs r pairs)) list (newest calls)

-- its Ack block as strawhub_tracker_ack_block writes it, read back where it stands, names the same
pub record Sent (calls : List ℕ) (r : Report) (room list : List ℕ) : Type 0 where
  pub wrote : write_outcome (ack_writing r (length room)) ≡ outcome 0 (8 + r.len)
  pub read : read_at (ack_room r room) 0 ≡ block_read 12 (5 + r.len) (8 + r.len) (ack_fields (highest_seen calls) r.count) (bytes_at 8 r.len)
  pub exact : ExpandsTo (highest_seen calls) r.count (part (ack_room r room) 8 r.len) list (newest calls)

-- what the calls find in a record that a history of registrations left, where rec is the record that it began with
pub record TrackerTells (rec calls left : List ℕ) : Type 0 where
  -- it holds the tracker that the calls by value make
  pub holds : tracker_at left ≡ tracker_after calls
  -- the bytes behind the record are as they were
  pub behind : (length left ≡ length rec) × (drop tracker_size left ≡ drop tracker_size rec)
  -- registering answers 40, 42, 43 or 0 by what was seen and received
  pub registers : (n : ℕ) → register_there left n ≡ answer_to (highest_seen calls) (among (received calls)) n
  -- a duplicate is a number in the window and received, and no other
  pub duplicates : (n : ℕ) → duplicate_there left n ≡ cond (among (newest calls) n) 1 0
  -- before any number was received there is no report
  pub silent : received calls ≡ [] → (out pairs room : List ℕ) → Unreported (report_there left) out pairs room
  -- from then on it names exactly the received numbers of the window, falling
  pub reports : 0 < length (received calls) → (out pairs list : List ℕ) → 255 ≤ length list → Reported calls (report_there left) out pairs list
  -- and so does its Ack block
  pub sent :
      0 < length (received calls) → (room list : List ℕ) → 262 ≤ length room → 255 ≤ length list
      → Sent calls (report_there left) room list

-- Demand 2, of the calls: packet numbers have four bytes
abbrev pub Demand2Calls : Type 0
Demand2Calls = (rec calls : List ℕ) → Fresh rec → Packets calls → TrackerTells rec calls (record_all rec calls)
