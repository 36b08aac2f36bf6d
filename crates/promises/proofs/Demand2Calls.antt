-- Demand 2 of the calls, carried over from the tracker by the calls' promises. Assumes nothing.
use mathlib.Core.Path.{◌≡◌, sym, ap, ◌∙◌}
use mathlib.Core.Bool.{Bool, true, false, cond}
use mathlib.Core.List.{List, [], ◌∷◌}
use Prim.Native.Nat.{ℕ, ◌+◌, ◌^◌, ◌≤◌, ◌<◌}
use native.Mathlib.Omega.{arith}
use lib.ListN.{length, take, replicate}
use Rattle.wire.specs.Parts.{part}
use Rattle.wire.proofs.Slices.{part_alike}
use Rattle.blocks.specs.Layout.{fits}
use Rattle.blocks.specs.Table.{widths}
use Rattle.blocks.specs.Names.{ack_fields}
use Rattle.blocks.specs.Reading.{bytes_at, block_read}
use Rattle.acks.specs.declared.Tracker.{Tracker}
use Rattle.acks.specs.History.{Packets, answer_to, among, received, highest_seen, newest}
use Rattle.acks.specs.Tracking.{is_duplicate, register_of}
use Rattle.acks.specs.Reporting.{Report, silent, ack_info, pair_bytes}
use Rattle.acks.specs.Recorded.{tracker_size, tracker_short, tracker_at, register_there, record_all, duplicate_there, report_there}
use Rattle.acks.specs.AckBlocks.{ack_fields_of, ack_writing, ack_room}
use Rattle.acks.proofs.Faithful.{Faithful, pairs_cut}
use Rattle.acks.proofs.Histories.{registered_there_lem, duplicate_there_lem, reported_there, tracked, names_newest}
use Rattle.acks.proofs.InPlace.{in_place, in_place_long, in_place_behind, in_place_small}
use Rattle.acks.proofs.Sent.{ack_fields_fit, is_written, is_read}
use Rattle.acks.proofs.Refused.{silent_is_41, silent_unwritten, ack_leaves}
use Rattle.numbers_outcomes.specs.Outcomes.{outcome, write_outcome}
use Rattle.numbers_outcomes.specs.Trackers.{new_record, report_pairs}
use Rattle.numbers_outcomes.proofs.TrackerLaws.{new_zeros, report_lent}
use Rattle.numbers_outcomes.proofs.Refused.{report_stays}
use Rattle.promises.specs.Acks.{tracker_after, report_after}
use Rattle.promises.specs.Demand2.{ExpandsTo}
use Rattle.promises.specs.Demand2Calls.{TrackerStarts, Unreported, Reported, Sent, TrackerTells, Demand2Calls}
use Rattle.promises.proofs.Acks.{answered, duplicates_are_newest}
use Rattle.promises.proofs.Demand1Calls.{is_refusal}
use Rattle.promises.proofs.Demand2.{demand2, report_faithful, mixed, mixed_received, mixed_newest}

pub tracker_starts : TrackerStarts
tracker_starts = (part_alike 0 tracker_size 0 tracker_size (omega arith), λ rec long. new_zeros rec (omega arith))

-- a refused report
unreported : (r : Report) (out pairs room : List ℕ) → r ≡ silent → Unreported r out pairs room
unreported r out pairs room e =
    let n : r.number ≡ 41 = ap (λ (x : Report). x.number) e ∙ silent_is_41 in
    let stays = report_stays r out pairs (is_refusal r.number 40 n) in
    let w = ap (λ (x : Report). ack_writing x (length room)) e ∙ silent_unwritten (length room) in
    record { is_41 = n; numbers_stay = stays.0; pairs_stay = stays.1; block_41 = ap write_outcome w; room_stays = ack_leaves r room 41 w }

-- a faithful one, of a highest number of four bytes
module _ (calls : List ℕ) (r : Report) (f : Faithful (highest_seen calls) (among (received calls)) r) (small : highest_seen calls < 256 ^ 4) where
  -- what is expanded are the report's own numbers
  names : (ps list : List ℕ) → ps ≡ pair_bytes r → 255 ≤ length list → ExpandsTo (highest_seen calls) r.count ps list (newest calls)
  names ps list same long =
      let z = names_newest calls r f list long in
      rw (same, sym f.through_is) (record { answers = z.0; fills = z.1 })

  reports : (out pairs list : List ℕ) → 255 ≤ length list → Reported calls r out pairs list
  reports out pairs list long =
      let l = report_lent r out pairs f.number_is in
      record {
        given = f.number_is;
        numbers = l.0 ∙ ap (λ (n : ℕ). n ∷ r.count ∷ r.len ∷ []) f.through_is;
        in_width = (small, omega (arith, f.adds_up), omega (arith, f.few, f.sized));
        exact = names (take r.len (report_pairs r pairs)) list (ap (take r.len) l.1 ∙ pairs_cut r) long;
      }

  sent : (room list : List ℕ) → 262 ≤ length room → 255 ≤ length list → Sent calls r room list
  sent room list big long =
      let holds : 8 + length (pair_bytes r) ≤ length room = omega (arith, f.few, big) in
      let fit : fits (widths 12) (ack_fields_of r) ≡ true = ack_fields_fit r (omega (arith, f.through_is, small)) (omega (arith, f.adds_up)) in
      let b = is_read r room f.number_is fit f.even f.few holds in
      record {
        wrote = ap write_outcome (is_written r room f.number_is fit f.even f.few holds) ∙ ap (λ (n : ℕ). outcome 0 (8 + n)) f.sized;
        read =
            b.0
            ∙ ap (λ (n : ℕ). block_read 12 (5 + n) (8 + n) (ack_fields r.through r.count) (bytes_at 8 n)) f.sized
            ∙ ap (λ (t : ℕ). block_read 12 (5 + r.len) (8 + r.len) (ack_fields t r.count) (bytes_at 8 r.len)) f.through_is;
        exact = names (part (ack_room r room) 8 r.len) list (ap (part (ack_room r room) 8) (sym f.sized) ∙ b.1) long;
      }

-- a record that holds the tracker of a history
module _ (calls left : List ℕ) (is : tracker_at left ≡ tracker_after calls) (long : tracker_short left ≡ false) where
  registers : (n : ℕ) → register_there left n ≡ answer_to (highest_seen calls) (among (received calls)) n
  registers n = registered_there_lem left long n ∙ ap (λ (t : Tracker). (register_of t n).answer) is ∙ answered calls n

  duplicates : (n : ℕ) → duplicate_there left n ≡ cond (among (newest calls) n) 1 0
  duplicates n =
      duplicate_there_lem left long n
      ∙ ap (λ (t : Tracker). cond (is_duplicate t.highest t.marks n) 1 0) is
      ∙ ap (λ (b : Bool). cond b 1 0) (duplicates_are_newest calls n)

  report : report_there left ≡ report_after calls
  report = reported_there left long ∙ ap ack_info is

  faithful : 0 < length (received calls) → Faithful (highest_seen calls) (among (received calls)) (report_there left)
  faithful some = rw report (report_faithful calls some)

pub demand2_calls : Demand2Calls
demand2_calls rec calls zeros packets =
    let left : List ℕ = record_all rec calls in
    let is : tracker_at left ≡ tracker_after calls = in_place rec zeros calls packets in
    let long : tracker_short left ≡ false = in_place_long rec zeros calls packets in
    let small : highest_seen calls < 256 ^ 4 = omega (arith, (tracked calls).same, in_place_small rec zeros calls packets) in
    record {
      holds = is;
      behind = in_place_behind rec zeros calls packets;
      registers = registers calls left is long;
      duplicates = duplicates calls left is long;
      silent = λ none out pairs room. unreported (report_there left) out pairs room (report calls left is long ∙ (demand2 calls).0 none);
      reports = λ some out pairs list big. reports calls (report_there left) (faithful calls left is long some) small out pairs list (omega (arith, big));
      sent = λ some room list big far. sent calls (report_there left) (faithful calls left is long some) small room list (omega (arith, big)) (omega (arith, far));
    }

-- the history of the example of demand 2, on 300 bytes of 7 once strawhub_tracker_new was called
mixed_packets : Packets mixed
mixed_packets =
    (omega arith, (omega arith, (omega arith, (omega arith, (omega arith, (omega arith, (omega arith, tt)))))))

abbrev begun : List ℕ
begun = new_record (replicate 300 7)

pub example_calls : TrackerTells begun mixed (record_all begun mixed)
example_calls = demand2_calls begun mixed (tracker_starts.1 (replicate 300 7) (omega arith)) mixed_packets

some : 0 < length (received mixed)
some = rw mixed_received (omega arith)

-- its report, lent over three zeros and 254, and expanded into a list of 256 places
pub example_reported : Reported mixed (report_there (record_all begun mixed)) (replicate 3 0) (replicate 254 0) (replicate 256 7)
example_reported = example_calls.reports some (replicate 3 0) (replicate 254 0) (replicate 256 7) (omega arith)

-- and as an Ack block in a room of 262 bytes
pub example_sent : Sent mixed (report_there (record_all begun mixed)) (replicate 262 0) (replicate 256 7)
example_sent = example_calls.sent some (replicate 262 0) (replicate 256 7) (omega arith) (omega arith)

-- 4 was received and the window moved past it; 200 is in the window
pub example_late : (duplicate_there (record_all begun mixed) 4 ≡ 0) × (duplicate_there (record_all begun mixed) 200 ≡ 1)
unfolding among
example_late =
    let one : (n : ℕ) → duplicate_there (record_all begun mixed) n ≡ cond (among (300 ∷ 200 ∷ []) n) 1 0 =
    λ n. example_calls.duplicates n ∙ ap (λ (l : List ℕ). cond (among l n) 1 0) mixed_newest in
    (one 4, one 200)
