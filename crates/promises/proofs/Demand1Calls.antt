-- Demand 1 of the C calls holds, and a refusal of each is computed. Assumes nothing.
use mathlib.Core.Path.{◌≡◌, refl, sym, ap, ◌∙◌}
use mathlib.Core.Bool.{false}
use mathlib.Core.List.{List, [], ◌∷◌}
use Prim.Native.Nat.{ℕ, suc, ◌≤◌, ◌<◌}
use native.Mathlib.Omega.{arith}
use lib.ListN.{length}
use Rattle.std.specs.Prelude.{Err}
use Rattle.wire.specs.Parts.{part, splice}
use Rattle.wire.specs.Numbers.{little, big, big_at}
use Rattle.wire.proofs.Slices.{splice_none}
use Rattle.blocks.specs.Layout.{sum, fields_at, fits, eight}
use Rattle.blocks.specs.Table.{look, widths, after_fields, field_length}
use Rattle.blocks.specs.Extent.{follow_on, taken_at, extent_at}
use Rattle.blocks.specs.Reading.{bytes_after, read_refused, read_at}
use Rattle.blocks.specs.Writing.{is_proper, writing}
use Rattle.blocks.specs.Numbers.{as_fields, read_numbers, writing_by, room_by}
use Rattle.reassembly.specs.Sizes.{room_size, record_size}
use Rattle.reassembly.specs.declared.Label.{Label}
use Rattle.reassembly.specs.Calls.{Lent, lent, After, bare, refuses, bad_size, off_number}
use Rattle.reassembly.specs.Shares.{share_of, share_of_room, follow_on_call}
use Rattle.reassembly.proofs.Branches.{follow_51}
use Rattle.reassembly.proofs.Own.{follow_above}
use Rattle.reassembly.proofs.OwnShare.{follow_stays}
use Rattle.messages.specs.Received.{Received}
use Rattle.messages.specs.Delivery.{Delivery, delivery_with, nothing, rebuilt_by, rebuilt, delivered_by, delivered}
use Rattle.messages.proofs.Refused.{nothing_number, nothing_start}
use Rattle.blocks_listing.specs.Listing.{no, entry, entries_after}
use Rattle.acks.specs.Recorded.{tracker_short}
use Rattle.acks.specs.Reporting.{refused_report, silent}
use Rattle.numbers_outcomes.specs.Listings.{list_outcome}
use Rattle.numbers.specs.Headers.{answer_numbers}
use Rattle.numbers.proofs.Refused as Numbers
use Rattle.numbers_outcomes.specs.Outcomes.{write_outcome}
use Rattle.numbers_outcomes.specs.Trackers.{new_answer, new_record, report_numbers}
use Rattle.numbers_outcomes.specs.Deliveries.{delivered_at, deliver_call}
use Rattle.numbers_outcomes.proofs.Refused as Calls
use Rattle.sender.specs.Sender.{resend}
use Rattle.sender.specs.Recorded.{sender_short, lent_answer, new_sender_record, answer_there, settled_there, packet_numbers}
use Rattle.sender.proofs.Refused as Sender
use Rattle.promises.specs.Demand1.{Refuses, StoreRefuses}
use Rattle.promises.specs.Demand1Calls.{Demand1Calls}
use Rattle.promises.proofs.Demand1.{demand1}

told : (s : List ℕ) (at : ℕ) (x : Lent) (n second : ℕ) (numbers : List ℕ) → StoreRefuses (deliver_call s at x n second numbers).outcome.number
    → ((deliver_call s at x n second numbers).outcome.number ≡ (delivered_at s at x n second).received.number)
    × ((deliver_call s at x n second numbers).outcome.value ≡ at)
    × ((deliver_call s at x n second numbers).told ≡ numbers)
    × ((deliver_call s at x n second numbers).left ≡ x)
unfolding deliver_call
told s at x n second numbers h =
    (Calls.delivery_number r, Calls.delivery_place r kept done ∙ place, Calls.told_stays r numbers kept done, ap (λ (d : Delivery). d.left) stays)
  where
    r : Received
    r = (delivered_at s at x n second).received

    kept : r.number ≡ 0 → ⊥
    kept e = h.0 (Calls.delivery_number r ∙ e)

    done : r.number ≡ 60 → ⊥
    done e = h.1 (Calls.delivery_number r ∙ e)

    stays : delivered_at s at x n second ≡ delivery_with (nothing r.number at) x
    stays = (demand1.delivery s at x n second (kept, done)).1

    place : r.start ≡ at
    place = ap (λ (d : Delivery). d.received.start) stays ∙ nothing_start r.number at

pub demand1_calls : Demand1Calls
demand1_calls =
    record {
      header_numbers = Numbers.header_stays;
      block_numbers_lem = Calls.block_stays;
      block_room = Calls.room_stays;
      records = Calls.list_stays;
      new_tracker = Calls.new_stays;
      report = Calls.report_stays;
      ack_room_lem = Calls.ack_room_stays;
      new_sender_lem = Sender.new_stays;
      settled_list = λ rec c list h. ap (splice list 0) (demand1.sender_called rec c h).3 ∙ splice_none list 0;
      packet_row_lem = λ rec k out h. ((Sender.new_stays rec h).0, Sender.row_stays rec k out h);
      told = told;
    }

-- a number of 01's is a refusal
pub is_refusal : (n k : ℕ) → n ≡ suc k → Refuses n
is_refusal n k e z = omega arith

abbrev three : List ℕ
three = 1 ∷ 2 ∷ 3 ∷ []

pub header_refused : answer_numbers (Err 20) three ≡ three
header_refused = demand1_calls.header_numbers (Err 20) three (is_refusal 20 19 refl)

pub block_refused : read_numbers (read_refused 8 0) three ≡ three
block_refused = demand1_calls.block_numbers_lem (read_refused 8 0) three (is_refusal 8 7 refl)

-- a port of 65,536
abbrev wide : List ℕ
wide = 65536 ∷ []

pub unfit : (write_outcome (writing_by 13 wide three 3)).number ≡ 32
unfolding writing_by as_fields writing is_proper fits widths look
unfit = refl

pub unfit_stays : room_by 13 wide three three ≡ three
unfit_stays = (demand1_calls.block_room 13 wide three three (is_refusal (write_outcome (writing_by 13 wide three 3)).number 31 unfit)).1

pub list_refused : entries_after (no 8 0) (entry 9 9 9 ∷ []) ≡ entry 9 9 9 ∷ []
unfolding list_outcome
list_refused = demand1_calls.records (no 8 0) (entry 9 9 9 ∷ []) (is_refusal 8 7 refl)

pub short_tracker : new_answer three ≡ 59
unfolding new_answer tracker_short
short_tracker = refl

pub tracker_stays : new_record three ≡ three
tracker_stays = (demand1_calls.new_tracker three (is_refusal (new_answer three) 58 short_tracker)).1

pub report_refused : report_numbers silent three ≡ three
unfolding refused_report
report_refused = (demand1_calls.report silent three three (is_refusal 41 40 refl)).0

-- three bytes are no sender's record: 59
pub short_sender : lent_answer three ≡ 59
unfolding lent_answer sender_short
short_sender = refl

pub sender_stays : new_sender_record three ≡ three
sender_stays = (demand1_calls.new_sender_lem three (is_refusal (lent_answer three) 58 short_sender)).1

pub row_stays : packet_numbers three 0 three ≡ three
row_stays = (demand1_calls.packet_row_lem three 0 three (is_refusal (lent_answer three) 58 short_sender)).1

pub short_resend : answer_there three (resend 1 7) ≡ 59
unfolding answer_there sender_short
short_resend = refl

pub settled_stays : splice three 0 (settled_there three (resend 1 7)) ≡ three
settled_stays = demand1_calls.settled_list three (resend 1 7) three (is_refusal (answer_there three (resend 1 7)) 58 short_resend)

-- the block at 3, whose piece the store refuses on every record and room that are long enough: with 51, and where its neighbour is above 3 with 58; the place is 3
abbrev number_0 : List ℕ
number_0 = 15 ∷ 0 ∷ 0 ∷ 5 ∷ 0 ∷ 6 ∷ 0 ∷ 0 ∷ 0 ∷ 0 ∷ 1 ∷ 7 ∷ []

abbrev label : Label
label = record { id = 1; number = 0; last = false; kind = 0; expires = 0 }

module _ (rec room out : List ℕ) (long : record_size ≤ length rec) (wide : room_size ≤ length room) (second : ℕ) where
  -- what it delivers, by the store's reply
  by_reply : (n m : ℕ) → follow_on_call (lent rec room out) n label second (7 ∷ []) ≡ refuses m (lent rec room out) → rebuilt_by 3 (bare m) 1 ≡ nothing m 3
      → (delivered_at number_0 3 (lent rec room out) n second).received ≡ nothing m 3
  unfolding delivered delivered_by rebuilt read_at fields_at eight bytes_after field_length widths after_fields look sum extent_at taken_at follow_on big_at big little part
  by_reply n m e b = ap (λ (x : After). rebuilt_by 3 x.reply 1) e ∙ b

  -- so the call refuses
  refused_by : (n m : ℕ) → (m ≡ 0 → ⊥) → (m ≡ 60 → ⊥) → (delivered_at number_0 3 (lent rec room out) n second).received ≡ nothing m 3
      → StoreRefuses (deliver_call number_0 3 (lent rec room out) n second three).outcome.number
  unfolding deliver_call
  refused_by n m kept done e =
      let q : (deliver_call number_0 3 (lent rec room out) n second three).outcome.number ≡ m =
      Calls.delivery_number (delivered_at number_0 3 (lent rec room out) n second).received ∙ ap (λ (r : Received). r.number) e ∙ nothing_number m 3 in
      (λ z. kept (sym q ∙ z), λ z. done (sym q ∙ z))

  module _ (n : ℕ) (one : n ≤ 3) where
    pub told_51 : (delivered_at number_0 3 (lent rec room out) n second).received ≡ nothing 51 3
    unfolding rebuilt_by bad_size off_number bare
    told_51 =
        by_reply n 51
        (follow_stays (lent rec room out) n long wide one label second (7 ∷ []) (bare 51)
        (sym (follow_51 (share_of rec n) (share_of_room room n) out label second (7 ∷ []) refl refl)))
        refl

    refused_51 : StoreRefuses (deliver_call number_0 3 (lent rec room out) n second three).outcome.number
    refused_51 = refused_by n 51 (λ z. omega arith) (λ z. omega arith) told_51

    pub told_place : (deliver_call number_0 3 (lent rec room out) n second three).outcome.value ≡ 3
    told_place = (demand1_calls.told number_0 3 (lent rec room out) n second three refused_51).1

    pub told_stays : (deliver_call number_0 3 (lent rec room out) n second three).told ≡ three
    told_stays = (demand1_calls.told number_0 3 (lent rec room out) n second three refused_51).2

  module _ (n : ℕ) (above : 3 < n) where
    pub told_58 : (delivered_at number_0 3 (lent rec room out) n second).received ≡ nothing 58 3
    unfolding rebuilt_by bare
    told_58 = by_reply n 58 (follow_above (lent rec room out) n long wide above label second (7 ∷ [])) refl

    pub unknown_stays : (deliver_call number_0 3 (lent rec room out) n second three).left ≡ lent rec room out
    unknown_stays = (demand1_calls.told number_0 3 (lent rec room out) n second three (refused_by n 58 (λ z. omega arith) (λ z. omega arith) told_58)).3
