-- The sizes of a message and of the bytes that a store is lent, each named once. Record and room are cut into four shares, one for each neighbour.
use Rattle.std.specs.Prelude.{ℕ}

-- a message has at most so many bytes, and a slot of the room holds one
abbrev pub message_size : ℕ
message_size = 65535

-- a slot's own part of the room
abbrev pub slot_size : ℕ
slot_size = 65535

-- a neighbour's share of the room: 4 slots
abbrev pub share_room : ℕ
share_room = 262140

-- the room: the shares of 4 neighbours
abbrev pub room_size : ℕ
room_size = 1048560

-- a slot's head in the record
abbrev pub head_size : ℕ
head_size = 24

-- where the tables begin in a share of the record, behind 4 heads
abbrev pub tables_at : ℕ
tables_at = 96

-- an entry of a table
abbrev pub entry_size : ℕ
entry_size = 4

-- a slot's table: 128 entries
abbrev pub table_size : ℕ
table_size = 512

-- where the summary's number of this neighbour stands, behind 4 tables: how many messages it has open
abbrev pub open_at : ℕ
open_at = 2144

-- so many finished messages of a neighbour are remembered at most
abbrev pub most_remembered : ℕ
most_remembered = 16

-- where their ids begin, behind the summary's number, and an id's bytes
abbrev pub ids_at : ℕ
ids_at = 2145

abbrev pub id_size : ℕ
id_size = 4

-- where their seconds begin, behind 16 ids, and a second's bytes
abbrev pub seconds_at : ℕ
seconds_at = 2209

abbrev pub second_size : ℕ
second_size = 8

-- where their count stands, behind 16 seconds
abbrev pub count_at : ℕ
count_at = 2337

-- a neighbour's share of the record: 4 heads, 4 tables, how many messages are open, the memory
abbrev pub share_size : ℕ
share_size = 2338

-- the record: the shares of 4 neighbours
abbrev pub record_size : ℕ
record_size = 9352
