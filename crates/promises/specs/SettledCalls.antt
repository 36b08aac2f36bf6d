-- The sender together with the far tracker, of the C calls on lent bytes at both ends: packets and Ack blocks go over a channel that loses, repeats and reorders.
-- `given_there`, `settled_there`, `register_there`, `ack_writing` and `ack_room`, `read_at` are what the contracts of the calls say.
use Rattle.std.specs.Prelude.{◌≡◌, Bool, true, false, ◌&&◌, ◌||◌, List, [], ◌∷◌, ℕ, ◌≤◌, ◌<◌, eqb, length, drop}
use Rattle.wire.specs.Parts.{part}
use Rattle.blocks.specs.declared.Part.{Part}
use Rattle.blocks.specs.Names.{ack_fields}
use Rattle.blocks.specs.Reading.{block_read, read_at}
use Rattle.acks.specs.History.{among}
use Rattle.acks.specs.Reporting.{Report}
use Rattle.acks.specs.Recorded.{register_there, record_all, report_there}
use Rattle.acks.specs.AckBlocks.{ack_writing, ack_room}
use Rattle.numbers_outcomes.specs.Outcomes.{write_outcome}
use Rattle.sender.specs.Sender.{send, resend, ack}
use Rattle.sender.specs.Channel.{Event, call, arrives, calls_of, arrivals, Reported}
use Rattle.sender.specs.Recorded.{answer_there, given_there, settled_there, SecondsInWidth, record_by}
use Rattle.promises.specs.Demand2Calls.{Fresh}
use Rattle.promises.specs.PartitionCalls.{FreshSender}

-- ---- the two records after a run, and what the calls on them answered
-- the sender's
abbrev pub near_after : List ℕ → List Event → List ℕ
near_after near run = record_by near (calls_of run)

-- the far tracker's
abbrev pub far_after : List ℕ → List Event → List ℕ
far_after far run = record_all far (arrivals run)

-- what the far tracker reports then
abbrev pub report_at : List ℕ → List Event → Report
report_at far run = report_there (far_after far run)

-- whether a call gave out n, by the number that it returned; 0 counts as given out
unfoldable pub gave_out : List ℕ → List Event → ℕ → Bool
gave_out near [] n = eqb n 0
gave_out near (call c ∷ past) n = eqb n (given_there (near_after near past) c) || gave_out near past n
gave_out near (arrives k ∷ past) n = gave_out near past n

-- whether strawhub_sender_ack told n as settled
unfoldable pub told_settled : List ℕ → List Event → ℕ → Bool
told_settled near [] n = false
told_settled near (call c ∷ past) n = among (settled_there (near_after near past) c) n || told_settled near past n
told_settled near (arrives k ∷ past) n = told_settled near past n

-- whether strawhub_tracker_register had answered 0 to n
unfoldable pub registered_there : List ℕ → List Event → ℕ → Bool
registered_there far [] n = false
registered_there far (call c ∷ past) n = registered_there far past n
registered_there far (arrives k ∷ past) n = (eqb n k && eqb (register_there (far_after far past) k) 0) || registered_there far past n

-- ---- the channel
-- the far tracker is handed only numbers that the sender's calls had given out
abbrev pub OnlyGivenOut : List ℕ → List Event → Type 0
OnlyGivenOut near [] = Unit
OnlyGivenOut near (call c ∷ past) = OnlyGivenOut near past
OnlyGivenOut near (arrives n ∷ past) = (gave_out near past n ≡ true) × OnlyGivenOut near past

-- what is fed in was read from an Ack block that strawhub_tracker_ack_block wrote at the far end, so many events ago
pub record Carried (far : List ℕ) (past : List Event) (through count : ℕ) (pairs : List ℕ) : Type 0 where
  pub ago : ℕ
  pub room : List ℕ
  pub wrote : (write_outcome (ack_writing (report_at far (drop ago past)) (length room))).number ≡ 0
  pub at : Part
  pub size : ℕ
  pub next : ℕ
  pub read : read_at (ack_room (report_at far (drop ago past)) room) 0 ≡ block_read 12 size next (ack_fields through count) at
  pub fed : pairs ≡ part (ack_room (report_at far (drop ago past)) room) at.start at.len

-- every ack fed in was. That every Ack block comes, or once, or in turn, is not said
abbrev pub AcksCarried : List ℕ → List Event → Type 0
AcksCarried far [] = Unit
AcksCarried far (arrives n ∷ past) = AcksCarried far past
AcksCarried far (call (send second) ∷ past) = AcksCarried far past
AcksCarried far (call (resend n second) ∷ past) = AcksCarried far past
AcksCarried far (call (ack through count pairs) ∷ past) = Carried far past through count pairs × AcksCarried far past

-- ---- the claims, from new records at both ends on
-- if the far tracker registers only numbers from this sender and every Ack block fed in is its report, a number above 0 is settled only if that tracker had registered it
abbrev pub SettledOnlyIfRegisteredCalls : Type 0
SettledOnlyIfRegisteredCalls =
    (near far : List ℕ) → FreshSender near → Fresh far
    → (run : List Event) → SecondsInWidth (calls_of run)
    → OnlyGivenOut near run
    → AcksCarried far run
    → (n : ℕ) → 0 < n → told_settled near run n ≡ true → registered_there far run n ≡ true

-- and no Ack block of it is refused, whenever it is fed in
abbrev pub AckBlocksTaken : Type 0
AckBlocksTaken =
    (near far : List ℕ) → FreshSender near → Fresh far
    → (run : List Event) → SecondsInWidth (calls_of run)
    → OnlyGivenOut near run
    → (through count : ℕ) (pairs : List ℕ)
    → Carried far run through count pairs → answer_there (near_after near run) (ack through count pairs) ≡ 0

-- and every report of it is carried in a room of 262 bytes: the premise on Ack blocks leaves out none
abbrev pub ReportsCarried : Type 0
ReportsCarried =
    (near far : List ℕ) → FreshSender near → Fresh far
    → (run : List Event) → SecondsInWidth (calls_of run)
    → OnlyGivenOut near run
    → (through count : ℕ) (pairs room : List ℕ) → 262 ≤ length room
    → Reported run through count pairs → Carried far run through count pairs
