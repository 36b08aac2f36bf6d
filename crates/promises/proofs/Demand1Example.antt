-- A refusal of each kind of call, computed, and what demand 1 says of it: no part is empty. Assumes nothing.
use Rattle.std.specs.Prelude.{Err}
use mathlib.Core.Path.{◌≡◌, refl, sym, ap}
use mathlib.Core.Bool.{false}
use mathlib.Core.List.{List, [], ◌∷◌}
use Prim.Native.Nat.{ℕ, zero, suc, ◌≤◌, ◌<◌}
use native.Mathlib.Omega.{arith}
use lib.ListN.{length, replicate}
use Rattle.wire.specs.Parts.{part}
use Rattle.wire.specs.Numbers.{Bytes, little, little_at, big, big_at}
use Rattle.header.specs.declared.Fields.{Fields}
use Rattle.std.specs.Prelude.{Err}
use Rattle.header.specs.Kinds.{is_listed}
use Rattle.header.specs.Reading.{read_number, header_answer, packet_after_read}
use Rattle.header.specs.Writing.{write_number, packet_after_write}
use Rattle.blocks.specs.Outcomes as End
use Rattle.blocks.specs.Layout.{sum, fits}
use Rattle.blocks.specs.Table.{look, widths, after_fields, typed, field_length}
use Rattle.blocks.specs.Extent.{address, ignores_size, plain_length, taken_at, extent_at}
use Rattle.blocks.specs.Reading.{read_at}
use Rattle.blocks_listing.specs.declared.Entry.{Entry}
use Rattle.blocks_listing.specs.Listing.{no, entry, blocks_from, blocks_of, listing, entries_after}
use Rattle.blocks.specs.Writing.{carried_bytes, size_of, is_proper, writing, room_after}
use Rattle.acks.specs.Tracking.{fresh, mark, register_answer, register_of}
use Rattle.acks.specs.History.{answer_to}
use Rattle.acks.specs.Reporting.{refused_report, report_of, ack_info}
use Rattle.acks.specs.Recorded.{tracker_size, tracker_short, tracker_at, register_there, record_after, report_there}
use Rattle.acks.specs.AckBlocks.{ack_writing, ack_room}
use Rattle.acks.specs.Runs.{whole_pairs, run_sum}
use Rattle.acks.specs.Expanding.{expand_answer, goes_below, expand_of, list_after}
use Rattle.acks.proofs.Cases.{case_j_lem}
use Rattle.reassembly.specs.declared.Label.{Label}
use Rattle.reassembly.specs.Sizes.{room_size, record_size}
use Rattle.reassembly.specs.Calls.{lent, After, after, bare, bad_size, off_number}
use Rattle.reassembly.specs.Shares.{share_of, share_of_room, first_call, follow_on_call, renewal, renewed}
use Rattle.reassembly.proofs.Branches.{first_50, follow_51}
use Rattle.reassembly.proofs.Own.{first_above}
use Rattle.reassembly.proofs.OwnShare as Own
use Rattle.messages.specs.Delivery.{delivery_with, nothing, delivered}
use Rattle.promises.specs.Demand1.{StoreRefuses}
use Rattle.promises.proofs.Demand1.{demand1}
use Rattle.promises.proofs.Demand1Calls.{is_refusal}

store_refusal : (n k : ℕ) → n ≡ suc k → k < 59 → StoreRefuses n
store_refusal n k e h = (λ z. omega arith, λ z. omega arith)

-- three bytes are no packet: 20
abbrev three : List ℕ
three = 1 ∷ 2 ∷ 3 ∷ []

pub no_packet_lem : header_answer three three three ≡ Err 20
unfolding header_answer read_number
no_packet_lem = refl

pub packet_stays : packet_after_read three three three ≡ three
packet_stays = (demand1.header_read three three three 20 no_packet_lem).1

-- type 3 is no header's: 21
abbrev odd : Fields
odd = record { kind = 3; destination = 0; number = 0; version = 2; network = 2; source = 0; token = 0; fragment = 0; count = 0; immediate = false }

pub no_header : write_number odd 3 ≡ 21
unfolding write_number is_listed
no_header = refl

pub unwritten_stays : packet_after_write three three odd three ≡ three
unwritten_stays = (demand1.header_written three three odd three (is_refusal (write_number odd 3) 20 no_header)).1

-- (d): 8 at 0
abbrev bad_address : List ℕ
bad_address = 13 ∷ 0 ∷ 7 ∷ 31 ∷ 144 ∷ []

pub no_block : (read_at bad_address 0).extent ≡ End.Refused 8 0
unfolding read_at extent_at taken_at address big_at big little part
no_block = refl

-- two blocks, and a list of one record: 10 at the second
abbrev two_blocks : List ℕ
two_blocks = 15 ∷ 0 ∷ 0 ∷ 15 ∷ 0 ∷ 0 ∷ []

abbrev one_record : List Entry
one_record = entry 9 9 9 ∷ []

pub no_record : listing 1 two_blocks ≡ no 10 3
unfolding listing blocks_of blocks_from extent_at taken_at plain_length ignores_size field_length widths after_fields look sum big_at big little part
no_record = refl

pub list_stays : entries_after (listing 1 two_blocks) one_record ≡ one_record
list_stays = (demand1.blocks_listed two_blocks one_record 10 3 no_record).1

-- a block of three bytes, and a room of two: 30
abbrev two : List ℕ
two = 7 ∷ 7 ∷ []

pub no_room : writing 15 [] [] 2 ≡ Err 30
unfolding writing is_proper fits size_of carried_bytes field_length widths after_fields typed look sum
no_room = refl

pub room_stays : room_after 15 [] [] two ≡ two
room_stays = (demand1.block_written 15 [] [] two 30 no_room).1

-- (j): 40, by value and in place
pub tracker_stays : (register_of fresh 256).tracker ≡ fresh
tracker_stays = (demand1.registered fresh 256 (is_refusal (register_of fresh 256).answer 39 case_j_lem)).1

zeros : (n : ℕ) → Bytes (replicate n 0)
zeros zero i = omega arith
zeros (suc n) zero = omega arith
zeros (suc n) (suc i) = zeros n i

pub too_high : register_there (replicate tracker_size 0) 256 ≡ 40
unfolding register_there tracker_short register_of register_answer answer_to tracker_at little_at little part
too_high = refl

pub record_stays : record_after (replicate tracker_size 0) 256 ≡ replicate tracker_size 0
record_stays = (demand1.registered_there_lem (replicate tracker_size 0) 256 (zeros tracker_size) (is_refusal (register_there (replicate tracker_size 0) 256) 39 too_high)).1

-- nothing seen, nothing reported: 41
pub no_report : (report_there (replicate tracker_size 0)).number ≡ 41
unfolding report_there tracker_short tracker_at ack_info report_of mark refused_report little_at little part
no_report = refl

pub no_ack : ack_writing (report_there (replicate tracker_size 0)) 3 ≡ Err 41
unfolding ack_writing report_there tracker_short tracker_at ack_info report_of mark refused_report little_at little part
no_ack = refl

pub ack_room_stays : ack_room (report_there (replicate tracker_size 0)) three ≡ three
ack_room_stays = demand1.ack_written.1 (report_there (replicate tracker_size 0)) three 41 no_ack

-- four numbers below 3: 44
pub below_0 : (expand_of 3 4 [] 2).number ≡ 44
unfolding expand_of expand_answer goes_below whole_pairs run_sum
below_0 = refl

pub numbers_stay : list_after 3 4 [] two ≡ two
numbers_stay = (demand1.ack_expanded 3 4 [] two (is_refusal (expand_of 3 4 [] 2).number 43 below_0)).1

-- two bytes are no store's record: 59
pub no_store : renewal two ≡ 59
unfolding renewal
no_store = refl

pub unrenewed_stays : renewed two ≡ two
unrenewed_stays = (demand1.store_renewed two (is_refusal (renewal two) 58 no_store)).1

-- on every record and room that are long enough, an empty piece is 50, and a follow-on of number 0 is 51
module _ (rec room out : List ℕ) (long : record_size ≤ length rec) (wide : room_size ≤ length room) (second : ℕ) where
  abbrev label : Label
  label = record { id = 1; number = 0; last = false; kind = 20; expires = 9 }

  module _ (n : ℕ) (one : n ≤ 3) where
    pub no_bytes : (first_call (lent rec room out) n label second []).reply.number ≡ 50
    unfolding bad_size bare
    no_bytes =
        ap (λ (x : After). x.reply.number)
        (Own.first_stays (lent rec room out) n long wide one label second [] (bare 50) (sym (first_50 (share_of rec n) (share_of_room room n) out label second [] refl)))

    pub first_stays : first_call (lent rec room out) n label second [] ≡ after (first_call (lent rec room out) n label second []).reply (lent rec room out)
    first_stays =
        (demand1.first_taken_lem (lent rec room out) n label second []
        (store_refusal (first_call (lent rec room out) n label second []).reply.number 49 no_bytes (omega arith))).1

    pub no_number : (follow_on_call (lent rec room out) n label second (7 ∷ [])).reply.number ≡ 51
    unfolding bad_size off_number bare
    no_number =
        ap (λ (x : After). x.reply.number)
        (Own.follow_stays (lent rec room out) n long wide one label second (7 ∷ []) (bare 51) (sym (follow_51 (share_of rec n) (share_of_room room n) out label second (7 ∷ []) refl refl)))

    pub follow_on_stays : follow_on_call (lent rec room out) n label second (7 ∷ []) ≡ after (follow_on_call (lent rec room out) n label second (7 ∷ [])).reply (lent rec room out)
    follow_on_stays =
        (demand1.follow_on_taken_lem (lent rec room out) n label second (7 ∷ [])
        (store_refusal (follow_on_call (lent rec room out) n label second (7 ∷ [])).reply.number 50 no_number (omega arith))).1

  -- a neighbour above 3 is 58, though the piece is empty
  module _ (n : ℕ) (above : 3 < n) where
    pub no_neighbour : (first_call (lent rec room out) n label second []).reply.number ≡ 58
    unfolding bare
    no_neighbour = ap (λ (x : After). x.reply.number) (first_above (lent rec room out) n long wide above label second [])

    pub unknown_stays : first_call (lent rec room out) n label second [] ≡ after (first_call (lent rec room out) n label second []).reply (lent rec room out)
    unknown_stays =
        (demand1.first_taken_lem (lent rec room out) n label second []
        (store_refusal (first_call (lent rec room out) n label second []).reply.number 57 no_neighbour (omega arith))).1

-- (d), delivered: no piece, so that neither 59 nor 58 is asked
module _ (rec room out : List ℕ) (n second : ℕ) where
  pub no_delivery : (delivered bad_address 0 (lent rec room out) n second (read_at bad_address 0)).received.number ≡ 8
  unfolding delivered nothing read_at extent_at taken_at address big_at big little part
  no_delivery = refl

  pub delivery_stays : delivered bad_address 0 (lent rec room out) n second (read_at bad_address 0) ≡ delivery_with (nothing (delivered bad_address 0 (lent rec room out) n second (read_at bad_address 0)).received.number 0) (lent rec room out)
  delivery_stays =
      (demand1.delivery bad_address 0 (lent rec room out) n second
      (store_refusal (delivered bad_address 0 (lent rec room out) n second (read_at bad_address 0)).received.number 7 no_delivery (omega arith))).1
