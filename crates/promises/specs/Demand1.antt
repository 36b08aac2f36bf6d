-- Demand 1: bad input gets document 01's numbered refusal, and a refusal leaves state and lent buffers as they were.
-- The contracts of the calls that refuse are equations with the definitions below, over C with those of specs/Demand1Calls.antt too, on all inputs and with no `requires`: what is said of the definitions is said of the calls.
-- The sweep answers 0 always. Who asks a tracker or reads a block lends nothing that could change; over C he lends numbers for the answer, and specs/Demand1Calls.antt says that a refusal leaves them.
--
-- 01's useless builds, and the promise that each of them breaks:
--   a reader that refuses everything: header `WrittenIsRead`, blocks `WriteThenRead`: what the writers take is read; `Twelve` (a), (c), (e)
--   a tracker that always reports one number: `Demand2`
--   a list with an invented block count: blocks_listing `ListingIsReadings`
--   a store that does nothing: `Demand3Calls`, whose replies have 60 and the message at the last missing piece
--   a store that always says kept: `Demand3Calls`, whose replies have 54 at a repeat
--   a store that serves only its first message: `Demand3Calls`, where every message comes out once
use Rattle.std.specs.Prelude.{◌≡◌, List, [], ◌∷◌, ℕ, length, Err}
use types.Run.{OneOf}
use Rattle.wire.specs.Numbers.{Bytes}
use Rattle.header.specs.declared.Fields.{Fields}
use Rattle.header.specs.Reading.{header_answer, packet_after_read}
use Rattle.header.specs.Writing.{write_number, packet_after_write}
use Rattle.blocks.specs.Outcomes as End
use Rattle.blocks.specs.Reading.{read_at}
use Rattle.blocks_listing.specs.declared.Entry.{Entry}
use Rattle.blocks_listing.specs.Listing.{no, listing, entries_after}
use Rattle.blocks.specs.Writing.{writing, room_after}
use Rattle.acks.specs.declared.Tracker.{Tracker}
use Rattle.acks.specs.Tracking.{register_of}
use Rattle.acks.specs.Reporting.{Report, ack_info}
use Rattle.acks.specs.Recorded.{register_there, record_after, duplicate_there, report_there}
use Rattle.acks.specs.AckBlocks.{ack_writing, ack_room}
use Rattle.acks.specs.Expanding.{expand_of, list_after}
use Rattle.sender.specs.Sender.{Call, refusals_of}
use Rattle.sender.specs.Recorded.{answer_there, given_there, sender_after, settled_there}
use Rattle.reassembly.specs.declared.Label.{Label}
use Rattle.reassembly.specs.Calls.{Lent, After, after}
use Rattle.reassembly.specs.Shares.{first_call, follow_on_call, renewal, renewed}
use Rattle.messages.specs.Delivery.{delivery_with, nothing, delivered}

-- An answer that is a number refuses where it is not 0;
abbrev pub Refuses : ℕ → Type 0
Refuses n = n ≡ 0 → ⊥

-- the store's where it is not 60 either, a finished message.
abbrev pub StoreRefuses : ℕ → Type 0
StoreRefuses n = Refuses n × (n ≡ 60 → ⊥)

-- reading a header: 20 to 24, and the packet stays
abbrev pub HeaderReadRefused : Type 0
HeaderReadRefused =
    (k1 k2 p : List ℕ) (n : ℕ) → header_answer k1 k2 p ≡ Err n
    → OneOf (20 ∷ 21 ∷ 22 ∷ 23 ∷ 24 ∷ []) n × (packet_after_read k1 k2 p ≡ p)

-- writing a header: 20, 21, 22, 24 or 25, and the packet stays
abbrev pub HeaderWriteRefused : Type 0
HeaderWriteRefused =
    (k1 k2 : List ℕ) (f : Fields) (p : List ℕ) → Refuses (write_number f (length p))
    → OneOf (20 ∷ 21 ∷ 22 ∷ 24 ∷ 25 ∷ []) (write_number f (length p)) × (packet_after_write k1 k2 f p ≡ p)

-- reading a block: 1 to 9, at the block's own place
abbrev pub BlockReadRefused : Type 0
BlockReadRefused =
    (s : List ℕ) (at n place : ℕ) → (read_at s at).extent ≡ End.Refused n place
    → OneOf (1 ∷ 2 ∷ 3 ∷ 4 ∷ 5 ∷ 6 ∷ 7 ∷ 8 ∷ 9 ∷ []) n × (place ≡ at)

-- listing a payload: 1 to 10, and every record of the list stays
abbrev pub BlockListRefused : Type 0
BlockListRefused =
    (s : List ℕ) (list : List Entry) (n place : ℕ) → listing (length list) s ≡ no n place
    → OneOf (1 ∷ 2 ∷ 3 ∷ 4 ∷ 5 ∷ 6 ∷ 7 ∷ 8 ∷ 9 ∷ 10 ∷ []) n × (entries_after (listing (length list) s) list ≡ list)

-- writing a block: 30 to 32, and the room stays
abbrev pub BlockWriteRefused : Type 0
BlockWriteRefused =
    (kind : ℕ) (fields body room : List ℕ) (n : ℕ) → writing kind fields body (length room) ≡ Err n
    → OneOf (30 ∷ 31 ∷ 32 ∷ []) n × (room_after kind fields body room ≡ room)

-- registering a number by value: 40, 42 or 43, and the tracker that is returned is the one that was given
abbrev pub RegisterRefused : Type 0
RegisterRefused =
    (t : Tracker) (n : ℕ) → Refuses (register_of t n).answer
    → OneOf (40 ∷ 42 ∷ 43 ∷ []) (register_of t n).answer × ((register_of t n).tracker ≡ t)

-- registering it in place, on a record of any bytes: these and 59, and the record stays
abbrev pub RegisterThereRefused : Type 0
RegisterThereRefused =
    (rec : List ℕ) (n : ℕ) → Bytes rec → Refuses (register_there rec n)
    → OneOf (40 ∷ 42 ∷ 43 ∷ 59 ∷ []) (register_there rec n) × (record_after rec n ≡ rec)

-- asking for a report: 41, and 59 in place; asking whether a number is a duplicate: no, yes, or 59
abbrev pub AskRefused : Type 0
AskRefused =
    ((t : Tracker) → Refuses (ack_info t).number → (ack_info t).number ≡ 41)
    × ((rec : List ℕ) → Refuses (report_there rec).number → OneOf (41 ∷ 59 ∷ []) (report_there rec).number)
    × ((rec : List ℕ) (n : ℕ) → OneOf (0 ∷ 1 ∷ 59 ∷ []) (duplicate_there rec n))

-- the report of a record of any bytes as an Ack block: 30, 41 or 59; and the room stays, whatever the report
abbrev pub AckBlockRefused : Type 0
AckBlockRefused =
    ((rec : List ℕ) (room n : ℕ) → Bytes rec → ack_writing (report_there rec) room ≡ Err n → OneOf (30 ∷ 41 ∷ 59 ∷ []) n)
    × ((r : Report) (room : List ℕ) (n : ℕ) → ack_writing r (length room) ≡ Err n → ack_room r room ≡ room)

-- expanding an acknowledgement: 44 or 46, and the list stays
abbrev pub ExpandRefused : Type 0
ExpandRefused =
    (through count : ℕ) (pairs list : List ℕ) → Refuses (expand_of through count pairs (length list)).number
    → OneOf (44 ∷ 46 ∷ []) (expand_of through count pairs (length list)).number × (list_after through count pairs list ≡ list)

-- the sender's calls, on a record of any bytes: a send 59, 71 or 70, a resend 59, 73 or 71, an ack 59, 44 or 72; the record stays, no number is given out, and none is settled
abbrev pub SenderRefused : Type 0
SenderRefused =
    (rec : List ℕ) (c : Call) → Refuses (answer_there rec c)
    → OneOf (refusals_of c) (answer_there rec c) × (sender_after rec c ≡ rec) × (given_there rec c ≡ 0) × (settled_there rec c ≡ [])

-- a new store: 59, and the record stays
abbrev pub StoreNewRefused : Type 0
StoreNewRefused = (rec : List ℕ) → Refuses (renewal rec) → (renewal rec ≡ 59) × (renewed rec ≡ rec)

-- what a store's call leaves is a refusal of some numbers, and record, room and assembly buffer as they were, byte for byte
abbrev pub StoreStays : List ℕ → Lent → After → Type 0
StoreStays numbers x y = OneOf numbers y.reply.number × (y ≡ after y.reply x)

-- a first piece of a neighbour, of any number: 50, 52 to 59
abbrev pub FirstRefused : Type 0
FirstRefused =
    (x : Lent) (n : ℕ) (l : Label) (second : ℕ) (v : List ℕ) → StoreRefuses (first_call x n l second v).reply.number
    → StoreStays (50 ∷ 52 ∷ 53 ∷ 54 ∷ 55 ∷ 56 ∷ 57 ∷ 58 ∷ 59 ∷ []) x (first_call x n l second v)

-- a follow-on piece: these and 51
abbrev pub FollowOnRefused : Type 0
FollowOnRefused =
    (x : Lent) (n : ℕ) (l : Label) (second : ℕ) (v : List ℕ) → StoreRefuses (follow_on_call x n l second v).reply.number
    → StoreStays (50 ∷ 51 ∷ 52 ∷ 53 ∷ 54 ∷ 55 ∷ 56 ∷ 57 ∷ 58 ∷ 59 ∷ []) x (follow_on_call x n l second v)

-- delivering the block at a place of a neighbour's payload: the block's refusals or its piece's, all with the block's place, and record, room and assembly buffer stay
abbrev pub DeliverRefused : Type 0
DeliverRefused =
    (s : List ℕ) (at : ℕ) (x : Lent) (n second : ℕ) → StoreRefuses (delivered s at x n second (read_at s at)).received.number
    → OneOf (1 ∷ 2 ∷ 3 ∷ 4 ∷ 5 ∷ 6 ∷ 7 ∷ 8 ∷ 9 ∷ 50 ∷ 51 ∷ 52 ∷ 53 ∷ 54 ∷ 55 ∷ 56 ∷ 57 ∷ 58 ∷ 59 ∷ []) (delivered s at x n second (read_at s at)).received.number
    × (delivered s at x n second (read_at s at) ≡ delivery_with (nothing (delivered s at x n second (read_at s at)).received.number at) x)

-- Demand 1: a part for each kind of call
pub record Demand1 : Type 0 where
  pub header_read : HeaderReadRefused
  pub header_written : HeaderWriteRefused
  pub block_read : BlockReadRefused
  pub blocks_listed : BlockListRefused
  pub block_written : BlockWriteRefused
  pub registered : RegisterRefused
  pub registered_there_lem : RegisterThereRefused
  pub asked : AskRefused
  pub ack_written : AckBlockRefused
  pub ack_expanded : ExpandRefused
  pub sender_called : SenderRefused
  pub store_renewed : StoreNewRefused
  pub first_taken_lem : FirstRefused
  pub follow_on_taken_lem : FollowOnRefused
  pub delivery : DeliverRefused
