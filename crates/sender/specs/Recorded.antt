-- The sender as bytes that a caller lends: the highest number given out and the count of outstanding packets, each in four, then the packets, the oldest first. Low bytes come first.
use Rattle.std.specs.Prelude.{Bool, cond, List, [], ◌∷◌, ◌++◌, ℕ, ◌+◌, ◌*◌, ◌^◌, ◌≤◌, ◌<◌, ltb, eqb, length, get_or, replicate}
use Rattle.wire.specs.Parts.{splice}
use Rattle.wire.specs.Numbers.{little_at, little_bytes}
use Rattle.wire.specs.Series.{series}
use Rattle.sender.specs.Sizes.{most_outstanding, outstanding_at, packets_at, packet_size, sender_size}
use Rattle.sender.specs.Sender.{Packet, Sender, Call, send, resend, ack, answer_by, taken, number_given, settled_by}

-- ---- what the bytes are
-- fewer bytes than a record has
unfoldable pub sender_short : List ℕ → Bool
sender_short r = ltb (length r) sender_size

-- how many packets are outstanding; a count above 256, which no call leaves, is read as 256
unfoldable pub outstanding_count : List ℕ → ℕ
outstanding_count r = cond (ltb (little_at 4 r outstanding_at) most_outstanding) (little_at 4 r outstanding_at) most_outstanding

-- the k-th packet
unfoldable pub packet_at : List ℕ → ℕ → Packet
packet_at r k =
    record {
      number = little_at 4 r (packets_at + k * packet_size);
      second = little_at 8 r (packets_at + k * packet_size + 8);
      resends = little_at 4 r (packets_at + k * packet_size + 4);
    }

-- the sender that a record's first bytes are: every byte pattern is one
unfoldable pub sender_at : List ℕ → Sender
sender_at r = record { highest = little_at 4 r 0; packets = series (packet_at r) 0 (outstanding_count r) }

-- ---- and back
-- a packet's bytes
unfoldable pub packet_bytes : Packet → List ℕ
packet_bytes p = little_bytes 4 p.number ++ (little_bytes 4 p.resends ++ little_bytes 8 p.second)

-- those of some packets, side by side
unfoldable pub packets_bytes : List Packet → List ℕ
packets_bytes [] = []
packets_bytes (p ∷ ps) = packet_bytes p ++ packets_bytes ps

-- the bytes of a sender
unfoldable pub sender_bytes : Sender → List ℕ
sender_bytes s = little_bytes 4 s.highest ++ (little_bytes 4 (length s.packets) ++ packets_bytes s.packets)

-- ---- the calls
-- 59 where the record is short
unfoldable pub lent_answer : List ℕ → ℕ
lent_answer r = cond (sender_short r) 59 0

-- a new sender: zeros in front, as many as a record has bytes; or as it was
unfoldable pub new_sender_record : List ℕ → List ℕ
new_sender_record r = cond (sender_short r) r (splice r 0 (replicate sender_size 0))

-- what a call answers: 59 where the record is short, else what the sender there does
unfoldable pub answer_there : List ℕ → Call → ℕ
answer_there r c = cond (sender_short r) 59 (answer_by (sender_at r) c)

-- the number that it gives out; 0 where it gives out none or was refused
unfoldable pub given_there : List ℕ → Call → ℕ
given_there r c = cond (eqb (answer_there r c) 0) (number_given (sender_at r) c) 0

-- what it leaves: the bytes of the sender after it, and those behind them as they were; refused, all of them as they were
unfoldable pub sender_after : List ℕ → Call → List ℕ
sender_after r c = cond (eqb (answer_there r c) 0) (splice r 0 (sender_bytes (taken (sender_at r) c))) r

-- the numbers that it settles; refused, none
unfoldable pub settled_there : List ℕ → Call → List ℕ
settled_there r c = cond (eqb (answer_there r c) 0) (settled_by (sender_at r) c) []

-- ---- what fits
-- stands for a packet that is not there: 0 is never outstanding
abbrev pub no_packet : Packet
no_packet = record { number = 0; second = 0; resends = 0 }

-- a packet whose numbers fit their bytes
pub record PacketInWidth (p : Packet) : Type 0 where
  pub number_fits : p.number < 256 ^ 4
  pub second_fits : p.second < 256 ^ 8
  pub resends_fit : p.resends < 256 ^ 4

-- a sender that a record holds
pub record SenderInWidth (s : Sender) : Type 0 where
  pub highest_fits : s.highest < 256 ^ 4
  pub few : length s.packets ≤ most_outstanding
  pub each : (k : ℕ) → k < length s.packets → PacketInWidth (get_or s.packets k no_packet)

-- the seconds of calls have eight bytes
abbrev pub SecondsInWidth : List Call → Type 0
SecondsInWidth [] = Unit
SecondsInWidth (send second ∷ past) = (second < 256 ^ 8) × SecondsInWidth past
SecondsInWidth (resend n second ∷ past) = (second < 256 ^ 8) × SecondsInWidth past
SecondsInWidth (ack through count pairs ∷ past) = SecondsInWidth past

-- a record after a history of calls, the latest first
unfoldable pub record_by : List ℕ → List Call → List ℕ
record_by r [] = r
record_by r (c ∷ past) = sender_after (record_by r past) c

-- ---- reading out
-- how many packets are outstanding there; none where the record is short
unfoldable pub outstanding_there : List ℕ → ℕ
outstanding_there r = cond (sender_short r) 0 (outstanding_count r)

-- a packet as three numbers
unfoldable pub packet_row : Packet → List ℕ
packet_row p = p.number ∷ (p.second ∷ (p.resends ∷ []))

-- the k-th outstanding packet there, the oldest first, in three lent numbers; they stay where there are not so many
unfoldable pub packet_numbers : List ℕ → ℕ → List ℕ → List ℕ
packet_numbers r k out = cond (ltb k (outstanding_there r)) (packet_row (packet_at r k)) out
