-- The partition, of the C calls: from a new record on, after any history of strawhub_sender_send, _resend and _ack, the latest first.
-- `record_by`, `answer_there`, `given_there`, `settled_there`, `outstanding_there` and `packet_numbers` are what the contracts of the calls say.
use Rattle.std.specs.Prelude.{◌≡◌, List, ◌∷◌, ◌++◌, ℕ, ◌≤◌, ◌<◌, length, get_or, drop, replicate}
use Rattle.wire.specs.Parts.{part}
use Rattle.sender.specs.Sizes.{sender_size}
use Rattle.sender.specs.Sender.{Call}
use Rattle.sender.specs.History.{outstanding_in, answer_in, books, given_out, settled, any_of}
use Rattle.sender.specs.Recorded.{no_packet, new_sender_record, sender_at, answer_there, given_there, settled_there, outstanding_there, packet_row, packet_numbers, SecondsInWidth, record_by}
use Rattle.promises.specs.Partition.{Accounted}

-- a new record: its bytes are zeros, as far as a sender's record goes
abbrev pub FreshSender : List ℕ → Type 0
FreshSender rec = part rec 0 sender_size ≡ replicate sender_size 0

-- such are a record of zeros, and what strawhub_sender_new leaves of any record that is long enough
abbrev pub SenderStarts : Type 0
SenderStarts = FreshSender (replicate sender_size 0) × ((rec : List ℕ) → sender_size ≤ length rec → FreshSender (new_sender_record rec))

-- what the calls find in a record that a history of calls left, where rec is the record that it began with
pub record SenderTells (rec : List ℕ) (h : List Call) (left : List ℕ) : Type 0 where
  -- packets given out are those outstanding, those settled and those given up, each number in exactly one of the three
  pub accounted : Accounted h
  -- the record's list is exactly the packets outstanding, with their seconds and resends
  pub listed : (sender_at left).packets ≡ outstanding_in (books h)
  -- it is read out packet by packet, the oldest first
  pub count : outstanding_there left ≡ length (outstanding_in (books h))
  pub reads : (k : ℕ) (out : List ℕ) → k < length (outstanding_in (books h)) → packet_numbers left k out ≡ packet_row (get_or (outstanding_in (books h)) k no_packet)
  -- a call is answered by what its history says
  pub answers : (c : Call) → answer_there left c ≡ answer_in (books h) c
  -- given out is the number that it returns, if any
  pub gives : (c : Call) → given_out (c ∷ h) ≡ given_out h ++ any_of (given_there left c)
  -- settled are the numbers that it tells
  pub settles : (c : Call) → settled (c ∷ h) ≡ settled_there left c ++ settled h
  -- the bytes behind the record are as they were
  pub behind : (length left ≡ length rec) × (drop sender_size left ≡ drop sender_size rec)

-- the partition, of the calls: seconds have eight bytes
abbrev pub PartitionCalls : Type 0
PartitionCalls = (rec : List ℕ) (h : List Call) → FreshSender rec → SecondsInWidth h → SenderTells rec h (record_by rec h)
