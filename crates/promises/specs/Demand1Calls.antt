-- Demand 1 of the C calls: where one answers by numbers, its refusal leaves the lent numbers, records and rooms as they were. The other C calls are equations with the definitions of specs/Demand1.antt.
use Rattle.std.specs.Prelude.{Result, ◌≡◌, List, [], ◌∷◌, ℕ, length}
use types.Run.{OneOf}
use Rattle.wire.specs.Parts.{splice}
use Rattle.header.specs.declared.HeaderKind.{HeaderKind}
use Rattle.blocks.specs.Outcomes.{Read}
use Rattle.blocks.specs.Numbers.{read_numbers, writing_by, room_by}
use Rattle.blocks_listing.specs.declared.Entry.{Entry}
use Rattle.blocks_listing.specs.Listing.{Listing, listing_answer, entries_after}
use Rattle.acks.specs.Reporting.{Report}
use Rattle.acks.specs.AckBlocks.{ack_writing, ack_room}
use Rattle.numbers_outcomes.specs.Outcomes.{write_outcome, read_outcome}
use Rattle.numbers_outcomes.specs.Listings.{list_outcome}
use Rattle.numbers.specs.Headers.{answer_number, answer_numbers}
use Rattle.numbers_outcomes.specs.Trackers.{new_answer, new_record, report_numbers, report_pairs}
use Rattle.numbers_outcomes.specs.Deliveries.{delivered_at, deliver_call}
use Rattle.sender.specs.Sender.{Call}
use Rattle.sender.specs.Recorded.{lent_answer, new_sender_record, answer_there, settled_there, packet_numbers}
use Rattle.promises.specs.Demand1.{Refuses, StoreRefuses}
use Rattle.reassembly.specs.Calls.{Lent}

-- a part for each call that is lent numbers, records or a room
pub record Demand1Calls : Type 0 where
  -- strawhub_header_read, its eleven numbers
  pub header_numbers : (a : Result HeaderKind ℕ) (out : List ℕ) → Refuses (answer_number a) → answer_numbers a out ≡ out
  -- strawhub_block_read, its twelve numbers
  pub block_numbers_lem : (r : Read) (out : List ℕ) → Refuses (read_outcome r).number → read_numbers r out ≡ out
  -- strawhub_block_write: 30 to 32, and the room stays
  pub block_room :
      (kind : ℕ) (fields bytes room : List ℕ) → Refuses (write_outcome (writing_by kind fields bytes (length room))).number
      → OneOf (30 ∷ 31 ∷ 32 ∷ []) (write_outcome (writing_by kind fields bytes (length room))).number × (room_by kind fields bytes room ≡ room)
  -- strawhub_block_list, its records
  pub records : (x : Listing) (list : List Entry) → Refuses (list_outcome (listing_answer x)).number → entries_after x list ≡ list
  -- strawhub_tracker_new: 59, and the record stays
  pub new_tracker : (rec : List ℕ) → Refuses (new_answer rec) → (new_answer rec ≡ 59) × (new_record rec ≡ rec)
  -- strawhub_tracker_report, its three numbers and its pairs
  pub report : (r : Report) (out pairs : List ℕ) → Refuses r.number → (report_numbers r out ≡ out) × (report_pairs r pairs ≡ pairs)
  -- strawhub_tracker_ack_block, its room
  pub ack_room_lem : (r : Report) (room : List ℕ) → Refuses (write_outcome (ack_writing r (length room))).number → ack_room r room ≡ room
  -- strawhub_sender_new: 59, and the record stays
  pub new_sender_lem : (rec : List ℕ) → Refuses (lent_answer rec) → (lent_answer rec ≡ 59) × (new_sender_record rec ≡ rec)
  -- strawhub_sender_ack, its list of settled numbers
  pub settled_list : (rec : List ℕ) (c : Call) (list : List ℕ) → Refuses (answer_there rec c) → splice list 0 (settled_there rec c) ≡ list
  -- strawhub_sender_outstanding: 59, and its three numbers stay
  pub packet_row_lem : (rec : List ℕ) (k : ℕ) (out : List ℕ) → Refuses (lent_answer rec) → (lent_answer rec ≡ 59) × (packet_numbers rec k out ≡ out)
  -- strawhub_block_deliver: the number is that of what was received, the value the block's place, whether the block or the store refused; its six numbers and all else that was lent stay
  pub told :
      (s : List ℕ) (at : ℕ) (x : Lent) (n second : ℕ) (told : List ℕ) → StoreRefuses (deliver_call s at x n second told).outcome.number
      → ((deliver_call s at x n second told).outcome.number ≡ (delivered_at s at x n second).received.number)
      × ((deliver_call s at x n second told).outcome.value ≡ at)
      × ((deliver_call s at x n second told).told ≡ told)
      × ((deliver_call s at x n second told).left ≡ x)
