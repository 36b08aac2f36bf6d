-- What a refusal leaves of the numbers, the records and the rooms that the C calls are lent. Assumes nothing.
use Rattle.std.specs.Prelude.{Result, Ok, Err}
use mathlib.Core.Path.{◌≡◌, refl}
use mathlib.Core.Bool.{Bool, true, false, cond}
use mathlib.Core.List.{List, [], ◌∷◌}
use Prim.Native.Nat.{ℕ}
use lib.ListN.{length, replicate}
use borrow.Author.Tests.{ne_eqb}
use types.Run.{OneOf}
use Rattle.wire.specs.Parts.{splice}
use Rattle.blocks.specs.Outcomes.{Extent}
use Rattle.blocks.specs.Outcomes as End
use Rattle.blocks.specs.Outcomes.{Read}
use Rattle.blocks.specs.Numbers.{as_fields, block_numbers, read_numbers, writing_by, room_by}
use Rattle.blocks.proofs.Refused.{write_leaves, write_numbers}
use Rattle.blocks_listing.specs.declared.Entry.{Entry}
use Rattle.blocks_listing.specs.Listing.{Listing, ok, no, listing_answer, entries_after}
use Rattle.acks.specs.Reporting.{Report}
use Rattle.acks.specs.Recorded.{tracker_size, tracker_short}
use Rattle.acks.specs.AckBlocks.{ack_writing, ack_room}
use Rattle.acks.proofs.Refused.{ack_leaves}
use Rattle.messages.specs.Received.{Received}
use Rattle.numbers_outcomes.specs.Outcomes.{outcome, write_outcome, end_outcome, read_outcome}
use Rattle.numbers_outcomes.specs.Listings.{list_outcome}
use Rattle.numbers_outcomes.specs.Trackers.{new_answer, new_record, report_numbers, report_pairs}
use Rattle.numbers_outcomes.specs.Deliveries.{is_refused, delivery_outcome, delivery_numbers}

pub block_stays : (r : Read) (out : List ℕ) → ((read_outcome r).number ≡ 0 → ⊥) → read_numbers r out ≡ out
block_stays r out = go r.extent
  where
    go : (x : Extent) → ((end_outcome x).number ≡ 0 → ⊥) → block_numbers x r.fields r.bytes out ≡ out
    go (End.Ends kind size next) h = absurd (h refl)
    go (End.Refused number place) h = refl

pub room_stays : (kind : ℕ) (v bytes room : List ℕ) → ((write_outcome (writing_by kind v bytes (length room))).number ≡ 0 → ⊥)
    → OneOf (30 ∷ 31 ∷ 32 ∷ []) (write_outcome (writing_by kind v bytes (length room))).number × (room_by kind v bytes room ≡ room)
unfolding writing_by room_by
room_stays kind v bytes room = go (writing_by kind v bytes (length room)) refl
  where
    go : (w : Result ℕ ℕ) → writing_by kind v bytes (length room) ≡ w → ((write_outcome w).number ≡ 0 → ⊥) → OneOf (30 ∷ 31 ∷ 32 ∷ []) (write_outcome w).number × (room_by kind v bytes room ≡ room)
    go (Ok n) e h = absurd (h refl)
    go (Err m) e h = (write_numbers kind (as_fields kind v) bytes (length room) m e, write_leaves kind (as_fields kind v) bytes room m e)

pub list_stays : (x : Listing) (l : List Entry) → ((list_outcome (listing_answer x)).number ≡ 0 → ⊥) → entries_after x l ≡ l
unfolding list_outcome
list_stays (ok es) l h = absurd (h refl)
list_stays (no m p) l h = refl

pub new_stays : (r : List ℕ) → (new_answer r ≡ 0 → ⊥) → (new_answer r ≡ 59) × (new_record r ≡ r)
unfolding new_answer new_record
new_stays r = go (tracker_short r)
  where
    go : (b : Bool) → (◌≡◌ {A = ℕ} (cond b 59 0) 0 → ⊥) → ◌≡◌ {A = ℕ} (cond b 59 0) 59 × (cond b r (splice r 0 (replicate tracker_size 0)) ≡ r)
    go true h = (refl, refl)
    go false h = absurd (h refl)

pub report_stays : (r : Report) (out pairs : List ℕ) → (r.number ≡ 0 → ⊥) → (report_numbers r out ≡ out) × (report_pairs r pairs ≡ pairs)
unfolding report_numbers report_pairs
report_stays r out pairs h = (rw (ne_eqb r.number 0 h), rw (ne_eqb r.number 0 h))

pub ack_room_stays : (r : Report) (room : List ℕ) → ((write_outcome (ack_writing r (length room))).number ≡ 0 → ⊥) → ack_room r room ≡ room
ack_room_stays r room = go (ack_writing r (length room)) refl
  where
    go : (w : Result ℕ ℕ) → ack_writing r (length room) ≡ w → ((write_outcome w).number ≡ 0 → ⊥) → ack_room r room ≡ room
    go (Ok n) e h = absurd (h refl)
    go (Err m) e h = ack_leaves r room m e

-- a delivery's number is what was received
pub delivery_number : (r : Received) → (delivery_outcome r).number ≡ r.number
unfolding delivery_outcome
delivery_number r = go (is_refused r)
  where
    go : (b : Bool) → (cond b (outcome r.number r.start) (outcome r.number 0)).number ≡ r.number
    go true = refl
    go false = refl

-- and its value, refused, the place of what was received
pub delivery_place : (r : Received) → (r.number ≡ 0 → ⊥) → (r.number ≡ 60 → ⊥) → (delivery_outcome r).value ≡ r.start
unfolding delivery_outcome
delivery_place r kept done = rw (ne_eqb r.number 0 kept, ne_eqb r.number 60 done)

pub told_stays : (r : Received) (told : List ℕ) → (r.number ≡ 0 → ⊥) → (r.number ≡ 60 → ⊥) → delivery_numbers r told ≡ told
unfolding delivery_numbers
told_stays r told kept done = rw (ne_eqb r.number 0 kept, ne_eqb r.number 60 done)
