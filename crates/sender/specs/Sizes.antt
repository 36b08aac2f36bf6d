-- The sizes of the sender's list and of its record, each named once.
use Rattle.std.specs.Prelude.{ℕ}

-- so many packets are outstanding at most
abbrev pub most_outstanding : ℕ
most_outstanding = 256

-- the last number that is given out
abbrev pub last_number : ℕ
last_number = 4294967295

-- where the count of outstanding packets stands in the record, behind the highest number given out
abbrev pub outstanding_at : ℕ
outstanding_at = 4

-- where the packets begin, behind that count
abbrev pub packets_at : ℕ
packets_at = 8

-- a packet's bytes: its number, how often it was resent, the second it was sent
abbrev pub packet_size : ℕ
packet_size = 16

-- the record: the highest number, the count, 256 packets
abbrev pub sender_size : ℕ
sender_size = 4104
